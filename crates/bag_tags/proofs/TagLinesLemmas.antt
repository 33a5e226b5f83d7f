-- A text tag file is read exactly as its lines lead on.
use Rattle.std.proofs.Common.{◌≡◌, ◌⊎◌, ℕ, true, false, List, [], ◌∷◌, ◌++◌, Result, Ok, Err, OnOk, IfErr, MatchResult, refl, sym, ap, ◌∙◌, subst, inl, inr}
use Rattle.std.specs.Result.{IsErrOf}
use Rattle.std.proofs.lemmas.Bool.{cases_Bool}
use Rattle.bag_path.specs.Lines.{Text, HasLines, lines_of}
use Rattle.bag_path.proofs.LinesLemmas.{one_list}
use Rattle.bag_tags.specs.declared.tag_fault.LineCause.{LineCause}
use Rattle.bag_tags.specs.declared.tag_fault.LineCause.TheVariants.{NotUtf8}
use Rattle.bag_tags.specs.declared.tag_fault.LineFault.{LineFault}
use Rattle.bag_tags.specs.declared.tag_fault.TagFault.{TagFault}
use Rattle.bag_tags.specs.declared.tag_fault.TagFault.TheVariants as tag
use Rattle.bag_tags.specs.Words.{is_blank_line, without}
use Rattle.bag_tags.specs.TagLines.{mark, TagLine, tag_lines, LeadsOn, IsRefused, Lead, IsTextOf, StopsAt, IsFirstFault, AreExact, Faults}
use Rattle.bag_tags.proofs.DecisionLemmas.{decided_utf8}

-- the numbered lines of a text
abbrev pub numbered : List ℕ → List TagLine
numbered octets = tag_lines (lines_of (without mark octets))

-- octets have their own lines and no others
pub own_lines : (octets : List ℕ) → HasLines octets (lines_of octets)
own_lines octets = (one_list octets (lines_of octets)).1 refl

same_lines : (octets : List ℕ) (a b : List Text) → HasLines octets a → HasLines octets b → tag_lines a ≡ tag_lines b
same_lines octets a b h k = ap tag_lines ((one_list octets a).0 h ∙ sym ((one_list octets b).0 k))

-- READING

-- one more line at the end
pub lead_more : {A : Type 0} (step : A → TagLine → A → Type 0) (start value next : A) (before : List TagLine) (line : TagLine) → Lead step start before value → step value line next → Lead step start (before ++ line ∷ []) next
lead_more step start value next [] line led on = (next, subst (λ v. step v line next) led on, refl)
lead_more step start value next (first ∷ before) line led on = (led.0, led.1, lead_more step led.0 value next before line led.2 on)

-- EXACTNESS

module _ {A : Type 0} (leads : A → ℕ → List ℕ → A → Type 0) (refuses : A → List ℕ → LineCause → Type 0) (exact : AreExact leads refuses) where
  abbrev Step : A → TagLine → A → Type 0
  Step = LeadsOn leads

  abbrev IsFaulty : A → TagLine → LineCause → Type 0
  IsFaulty = IsRefused refuses

  -- a line that may be blank or not UTF-8
  one_step : (before : A) (line : TagLine) (next other : A) → Step before line next → Step before line other → next ≡ other
  one_step before line next other h k = elim h [
    | inl e ↦ elim k [ inl d ↦ e.1 ∙ sym d.1 | inr d ↦ absurd (let b : true ≡ false = sym e.0 ∙ d.0 in cc) ]
    | inr e ↦ elim k [
      | inl d ↦ absurd (let b : true ≡ false = sym d.0 ∙ e.0 in cc)
      | inr d ↦ exact.one_value before line.number line.text next other e.2 d.2
    ]
  ]

  no_step : (before : A) (line : TagLine) (next : A) (cause : LineCause) → IsFaulty before line cause → Step before line next → ⊥
  no_step before line next cause f h = elim h [
    | inl e ↦ let b : true ≡ false = sym e.0 ∙ f.0 in cc
    | inr e ↦ elim f.1 [ inl d ↦ d.1 e.1 | inr d ↦ exact.not_both before line.number line.text next cause e.2 d.1 ]
  ]

  one_cause_of : (before : A) (line : TagLine) (c d : LineCause) → IsFaulty before line c → IsFaulty before line d → c ≡ d
  one_cause_of before line c d f g = elim f.1 [
    | inl e ↦ elim g.1 [ inl h ↦ e.0 ∙ sym h.0 | inr h ↦ absurd (e.1 h.0) ]
    | inr e ↦ elim g.1 [ inl h ↦ absurd (h.1 e.0) | inr h ↦ exact.one_cause before line.text c d e.1 h.1 ]
  ]

  step_or_cause : (before : A) (line : TagLine) → ((next : A) × Step before line next) ⊎ ((cause : LineCause) × IsFaulty before line cause)
  step_or_cause before line = elim (cases_Bool (is_blank_line line.text)) [
    | inl b ↦ inl (before, inl (b, refl))
    | inr b ↦ elim (decided_utf8 line.text) [
      | inr n ↦ inr (NotUtf8, (b, inl (refl, n)))
      | inl u ↦ elim (exact.one_of_both before line.number line.text u) [
        | inl h ↦ inl (h.0, inr (b, u, h.1))
        | inr c ↦ inr (c.0, (b, inr (u, c.1)))
      ]
    ]
  ]

  -- lines lead to one value
  lead_one : (lines : List TagLine) (start value other : A) → Lead Step start lines value → Lead Step start lines other → value ≡ other
  lead_one [] start value other h k = h ∙ sym k
  lead_one (line ∷ lines) start value other h k =
      lead_one lines h.0 value other h.2 (subst (λ v. Lead Step v lines other) (one_step start line k.0 h.0 k.1 h.1) k.2)

  -- a text is that of one value
  pub text_one : (start : A) (octets : List ℕ) (value other : A) → IsTextOf leads start octets value → IsTextOf leads start octets other → value ≡ other
  text_one start octets value other t u =
      let same = same_lines (without mark octets) u.lines t.lines u.has_lines t.has_lines in
      lead_one (tag_lines t.lines) start value other t.lead (subst (λ ls. Lead Step start ls other) same u.lead)

  -- the lines stop at the first fault
  pub first_fault : (start : A) (octets : List ℕ) (fault : LineFault) → StopsAt leads refuses start octets fault → IsFirstFault leads refuses start octets fault
  first_fault start octets fault stops = record {
    stops = stops;
    no_further = λ next. no_step stops.so_far stops.faulty next fault.cause stops.refused;
  }

  -- lines with a refused one among them lead to no value
  pub lead_none : (before after : List TagLine) (faulty : TagLine) (start so_far value : A) → Lead Step start before so_far → ((next : A) → Step so_far faulty next → ⊥) → Lead Step start (before ++ faulty ∷ after) value → ⊥
  lead_none [] after faulty start so_far value led none h = none h.0 (subst (λ v. Step v faulty h.0) (sym led) h.1)
  lead_none (line ∷ before) after faulty start so_far value led none h =
      lead_none before after faulty led.0 so_far value led.2 none (subst (λ v. Lead Step v (before ++ faulty ∷ after) value) (one_step start line h.0 led.0 h.1 led.1) h.2)

  -- a text with a faulty line is that of no value
  pub text_none : (start : A) (octets : List ℕ) (value : A) (fault : LineFault) → IsTextOf leads start octets value → IsFirstFault leads refuses start octets fault → ⊥
  text_none start octets value fault t f =
      let s = f.stops in
      let same = same_lines (without mark octets) t.lines s.lines t.has_lines s.has_lines in
      lead_none s.before s.after s.faulty start s.so_far value s.lead f.no_further (subst (λ ls. Lead Step start ls value) (same ∙ s.cut) t.lead)

  -- at most one line is the first faulty one, for one cause
  stop_one : (before others after rest : List TagLine) (line other : TagLine) (start so_far value : A) (c d : LineCause) → before ++ line ∷ after ≡ others ++ other ∷ rest → Lead Step start before so_far → Lead Step start others value → IsFaulty so_far line c → IsFaulty value other d → (line ≡ other) × (c ≡ d)
  stop_one [] [] after rest line other start so_far value c d e h k f g =
      let here : line ≡ other = cc in
      let same : so_far ≡ value = h ∙ sym k in
      (here, one_cause_of value other c d (subst (λ l. IsFaulty value l c) here (subst (λ v. IsFaulty v line c) same f)) g)
  stop_one [] (x ∷ others) after rest line other start so_far value c d e h k f g =
      let here : line ≡ x = cc in
      absurd (no_step so_far line k.0 c f (subst (λ v. Step v line k.0) (sym h) (subst (λ l. Step start l k.0) (sym here) k.1)))
  stop_one (x ∷ before) [] after rest line other start so_far value c d e h k f g =
      let here : other ≡ x = cc in
      absurd (no_step value other h.0 d g (subst (λ v. Step v other h.0) (sym k) (subst (λ l. Step start l h.0) (sym here) h.1)))
  stop_one (x ∷ before) (y ∷ others) after rest line other start so_far value c d e h k f g =
      let here : x ≡ y = cc in
      let more : before ++ line ∷ after ≡ others ++ other ∷ rest = cc in
      let same = one_step start y h.0 k.0 (subst (λ l. Step start l h.0) here h.1) k.1 in
      stop_one before others after rest line other k.0 so_far value c d more (subst (λ v. Lead Step v before so_far) same h.2) k.2 f g

  abbrev fault_at : ℕ → LineCause → LineFault
  fault_at line cause = record { line = line; cause = cause }

  -- a text has at most one first fault
  pub text_one_fault : (start : A) (octets : List ℕ) (fault other : LineFault) → IsFirstFault leads refuses start octets fault → IsFirstFault leads refuses start octets other → fault ≡ other
  text_one_fault start octets fault other f g =
      let s = f.stops in
      let t = g.stops in
      let cut = sym s.cut ∙ same_lines (without mark octets) s.lines t.lines s.has_lines t.has_lines ∙ t.cut in
      let both = stop_one s.before t.before s.after t.after s.faulty t.faulty start s.so_far t.so_far fault.cause other.cause cut s.lead t.lead s.refused t.refused in
      let number : fault.line ≡ other.line = s.number ∙ ap (λ (l : TagLine). l.number) both.0 ∙ sym t.number in
      ap (λ n. fault_at n fault.cause) number ∙ ap (fault_at other.line) both.1

  -- lines lead to a value, or one of them is refused
  record Stops (start : A) (lines : List TagLine) : Type 0 where
    before : List TagLine
    faulty : TagLine
    after : List TagLine
    cut : lines ≡ before ++ faulty ∷ after
    so_far : A
    lead : Lead Step start before so_far
    cause : LineCause
    refused : IsFaulty so_far faulty cause

  lead_or_stop : (lines : List TagLine) (start : A) → ((value : A) × Lead Step start lines value) ⊎ Stops start lines
  lead_or_stop [] start = inl (start, refl)
  lead_or_stop (line ∷ lines) start = elim (step_or_cause start line) [
    | inr c ↦ inr (record { before = []; faulty = line; after = lines; cut = refl; so_far = start; lead = refl; cause = c.0; refused = c.1 })
    | inl on ↦ elim (lead_or_stop lines on.0) [
      | inl h ↦ inl (h.0, (on.0, on.1, h.1))
      | inr s ↦ inr (record { before = line ∷ s.before; faulty = s.faulty; after = s.after; cut = ap (λ ls. line ∷ ls) s.cut; so_far = s.so_far; lead = (on.0, on.1, s.lead); cause = s.cause; refused = s.refused })
    ]
  ]

  -- a text has a value, or a first fault
  pub value_or_fault : (start : A) (octets : List ℕ) → ((value : A) × IsTextOf leads start octets value) ⊎ ((fault : LineFault) × IsFirstFault leads refuses start octets fault)
  value_or_fault start octets = elim (lead_or_stop (numbered octets) start) [
    | inl h ↦ inl (h.0, record { lines = lines_of (without mark octets); has_lines = own_lines (without mark octets); lead = h.1 })
    | inr s ↦ inr (
      fault_at s.faulty.number s.cause,
      first_fault start octets _ (record { lines = lines_of (without mark octets); has_lines = own_lines (without mark octets); before = s.before; faulty = s.faulty; after = s.after; cut = s.cut; so_far = s.so_far; lead = s.lead; number = refl; refused = s.refused }),
    )
  ]

  -- the fault at which reading stopped
  pub fault_found : (start : A) (octets : List ℕ) (e : TagFault) (fault : LineFault) → Faults (StopsAt leads refuses start octets) e → IsErrOf {T = Unit {0}} (Err e) (tag.Line fault) → IsFirstFault leads refuses start octets fault
  fault_found start octets tag.Memory fault h e = absurd (cc)
  fault_found start octets (tag.Line found) fault h e =
      let same : found ≡ fault = cc in
      subst (IsFirstFault leads refuses start octets) same (first_fault start octets found h)

  pub only_memory : (start : A) (octets : List ℕ) (e : TagFault) (other : A) → Faults (StopsAt leads refuses start octets) e → IsTextOf leads start octets other → e ≡ tag.Memory
  only_memory start octets tag.Memory other h t = refl
  only_memory start octets (tag.Line found) other h t = absurd (text_none start octets other found t (first_fault start octets found h))

  -- what reading gives
  pub only_value : (start : A) (octets : List ℕ) (r : Result (Unit {0}) TagFault) (value other : A) → OnOk r (IsTextOf leads start octets value) → IfErr r (Faults (StopsAt leads refuses start octets)) → IsTextOf leads start octets other
      → MatchResult r (λ _. value ≡ other) (λ fault. fault ≡ tag.Memory)
  only_value start octets (Ok done) value other ok err t = text_one start octets value other ok t
  only_value start octets (Err e) value other ok err t = only_memory start octets e other err t

  pub fault_of_read : (start : A) (octets : List ℕ) (r : Result (Unit {0}) TagFault) (fault : LineFault) → IfErr r (Faults (StopsAt leads refuses start octets)) → IsErrOf r (tag.Line fault) → IsFirstFault leads refuses start octets fault
  fault_of_read start octets (Ok done) fault err e = absurd (cc)
  fault_of_read start octets (Err found) fault err e = fault_found start octets found fault err e
