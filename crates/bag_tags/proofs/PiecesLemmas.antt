-- A text tag file that comes in pieces is read as its joined pieces are.
use Rattle.std.proofs.Common.{◌≡◌, ◌≢◌, ◌⊎◌, ◌+◌, ◌≤◌, ◌==◌, ℕ, zero, suc, Bool, true, false, List, [], ◌∷◌, ◌++◌, map, length, nat_eq, drop, refl, sym, ap, ◌∙◌, subst, inl, inr, append_assoc, append-nil, length-append, arith}
use Rattle.std.proofs.lemmas.List.{length-map}
use Rattle.std.specs.List.{AllByRecursion, enumerate_from, starts_with}
use Rattle.std.proofs.lemmas.Bool.{cases_Bool, ne_eqb}
use Rattle.std.proofs.lemmas.Bool.Decides.{eqb_tells}
use Rattle.bag_path.specs.declared.lines.Ending.{Ending}
use Rattle.bag_path.specs.declared.lines.Ending.TheVariants.{Lf, Cr, CrLf, Nothing}
use Rattle.bag_path.specs.Lines.{Text, AreLines, MayStand, IsPlain, ending_octets, is_lone_lf, lines_of, octets_of_lines}
use Rattle.bag_path.proofs.LinesLemmas.{are_lines, begins, first_step, joined_lines, last_step, one_list}
use Rattle.bag_tags.specs.declared.tag_fault.LineCause.{LineCause}
use Rattle.bag_tags.specs.declared.tag_fault.LineFault.{LineFault}
use Rattle.bag_tags.specs.declared.tag_fault.TagFault.{TagFault}
use Rattle.bag_tags.specs.declared.tag_fault.TagFault.TheVariants as tag
use Rattle.bag_tags.specs.declared.last_line.LastLine.{LastLine}
use Rattle.bag_tags.specs.Pieces.{texts_of, tag_text, numbered, is_cr, after_ending, unmarked, going_on, last_line, Awaits, IsBegun, IsLonger, IsNext}
use Rattle.bag_tags.specs.TagLines.{mark, TagLine, tag_line, tag_lines, LeadsOn, Lead, IsTextOf, StopsAt, IsFirstFault, AreExact, Faults, RefusedAt}
use Rattle.bag_tags.specs.Words.{without}
use Rattle.bag_tags.proofs.TagLinesLemmas.{own_lines, lead_more, lead_none}

-- LINES

-- an octet that is no LF
after_other : (x : ℕ) (left : List ℕ) → x ≢ 10 → after_ending true (x ∷ left) ≡ x ∷ left
after_other x left n = rw (ne_eqb 10 x (λ e. n (sym e))) refl

-- a line that ends, and what follows it
ended : (text : List ℕ) (ending : Ending) (left : List ℕ) → AllByRecursion IsPlain text → ending ≢ Nothing → texts_of (text ++ ending_octets ending ++ left) ≡ text ∷ texts_of (after_ending (is_cr ending) left)
unfolding lines_of
ended text Lf left p n = ap (map (λ (line : Text). line.text)) (first_step text Lf left (lines_of left) p tt refl (joined_lines left))
ended text CrLf left p n = ap (map (λ (line : Text). line.text)) (first_step text CrLf left (lines_of left) p tt refl (joined_lines left))
ended text Cr [] p n = ap (map (λ (line : Text). line.text)) (first_step text Cr [] [] p tt refl refl)
ended text Cr (x ∷ left) p n = elim (eqb_tells x 10) [
  | inl e ↦ subst (λ o. texts_of (text ++ 13 ∷ [] ++ o ∷ left) ≡ text ∷ texts_of (after_ending true (o ∷ left))) (sym e.1)
      (ap texts_of (append_assoc text (13 ∷ []) (10 ∷ left) ∙ sym (append_assoc text (13 ∷ 10 ∷ []) left))
      ∙ ap (map (λ (line : Text). line.text)) (first_step text CrLf left (lines_of left) p tt refl (joined_lines left)))
  | inr o ↦ ap (map (λ (line : Text). line.text)) (first_step text Cr (x ∷ left) (lines_of (x ∷ left)) p (begins x left o.1 text) refl (joined_lines (x ∷ left)))
      ∙ ap (λ rest. text ∷ texts_of rest) (sym (after_other x left o.1))
]
ended text Nothing left p n = absurd (n refl)

-- the line of octets without a line end, if there are any
abbrev pub one_text : List ℕ → List (List ℕ)
one_text [] = []
one_text text = text ∷ []

one_line : (text : List ℕ) → AllByRecursion IsPlain text → texts_of text ≡ one_text text
unfolding lines_of
one_line [] p = refl
one_line (x ∷ text) p = ap (map (λ (line : Text). line.text)) (last_step x text p.0 p.1)

-- an ending that is cut in two, and nothing else, is gone past
goes_past : (text : List ℕ) (ending : Ending) (left : List ℕ) (after_cr : Bool) → AllByRecursion IsPlain text → ending ≢ Nothing → (after_cr ≡ true → is_lone_lf text ending ≡ false) → after_ending after_cr (text ++ ending_octets ending ++ left) ≡ text ++ ending_octets ending ++ left
goes_past text ending left false p n h = refl
goes_past [] Lf left true p n h = absurd (let e : true ≡ false = h refl in cc)
goes_past [] Cr left true p n h = refl
goes_past [] CrLf left true p n h = refl
goes_past [] Nothing left true p n h = absurd (n refl)
goes_past (x ∷ text) ending left true p n h = after_other x (text ++ ending_octets ending ++ left) p.0.0

goes_on_plain : (text : List ℕ) (after_cr : Bool) → AllByRecursion IsPlain text → after_ending after_cr text ≡ text
goes_on_plain text false p = refl
goes_on_plain [] true p = refl
goes_on_plain (x ∷ text) true p = after_other x text p.0.0

pub plain_append : (a b : List ℕ) → AllByRecursion IsPlain a → AllByRecursion IsPlain b → AllByRecursion IsPlain (a ++ b)
plain_append [] b p q = q
plain_append (x ∷ a) b p q = (p.0, plain_append a b p.1 q)

-- octets that are added to a line
pub added : (number : ℕ) (before octets left new : List ℕ) (after_cr : Bool) → AllByRecursion IsPlain octets → octets ≢ [] → new ≡ before ++ octets → unmarked number (new ++ left) ≡ unmarked number (before ++ after_ending after_cr (octets ++ left))
added number before [] left new after_cr p some e = absurd (some refl)
added number before (x ∷ octets) left new false p some e = ap (unmarked number) (ap (λ os. os ++ left) e ∙ append_assoc before (x ∷ octets) left)
added number before (x ∷ octets) left new true p some e = ap (unmarked number) (ap (λ os. os ++ left) e ∙ append_assoc before (x ∷ octets) left ∙ ap (λ os. before ++ os) (sym (after_other x (octets ++ left) p.0.0)))

-- LINES OF A PIECE

abbrev lines_in : List (ℕ × Text) → List Text
lines_in lines = map (λ (line : ℕ × Text). line.1) lines

-- the octets of numbered lines
abbrev pub octets_in : List (ℕ × Text) → List ℕ
octets_in lines = octets_of_lines (lines_in lines)

abbrev pub AreLinesLeft : List (ℕ × Text) → Type 0
AreLinesLeft lines = AreLines (lines_in lines)

without_numbers : (n : ℕ) (lines : List Text) → lines_in (enumerate_from n lines) ≡ lines
without_numbers n [] = refl
without_numbers n (line ∷ lines) = ap (λ ls. line ∷ ls) (without_numbers (n + 1) lines)

-- before the first line
pub piece_begun : (octets : List ℕ) (lines : List (ℕ × Text)) → lines ≡ enumerate_from 1 (lines_of octets) → (octets_in lines ≡ octets) × AreLinesLeft lines
piece_begun octets lines e =
    let same = ap lines_in e ∙ without_numbers 1 (lines_of octets) in
    (ap octets_of_lines same ∙ sym (joined_lines octets), subst AreLines (sym same) (are_lines octets))

-- the next line, and those after it
pub piece_cut : (lines rest : List (ℕ × Text)) (line : ℕ × Text) (left : List ℕ) → lines ≡ line ∷ rest → octets_in lines ++ left ≡ line.1.text ++ ending_octets line.1.ending ++ (octets_in rest ++ left)
piece_cut lines rest line left e = ap (λ ls. octets_in ls ++ left) e ∙ append_assoc (line.1.text ++ ending_octets line.1.ending) (octets_in rest) left

pub piece_line : (lines rest : List (ℕ × Text)) (line : ℕ × Text) → lines ≡ line ∷ rest → AreLinesLeft lines → AllByRecursion IsPlain line.1.text × AreLinesLeft rest
piece_line lines rest line e are =
    let here : AreLines (line.1 ∷ lines_in rest) = subst AreLinesLeft e are in
    (here.0, here.2)

-- a line without an ending is the last one
pub piece_tail : (lines rest : List (ℕ × Text)) (line : ℕ × Text) → lines ≡ line ∷ rest → AreLinesLeft lines → line.1.ending ≡ Nothing → octets_in lines ≡ line.1.text
piece_tail lines rest line e are nothing =
    let here : AreLines (line.1 ∷ lines_in rest) = subst AreLinesLeft e are in
    let may : MayStand line.1.text Nothing (lines_in rest) = subst (λ d. MayStand line.1.text d (lines_in rest)) nothing here.1 in
    ap octets_in e ∙ ap (λ ls. (line.1.text ++ ending_octets line.1.ending) ++ octets_of_lines ls) may.1
    ∙ ap (λ d. (line.1.text ++ ending_octets d) ++ []) nothing ∙ append-nil (line.1.text ++ []) ∙ append-nil line.1.text

pub is_nothing : (ending : Ending) → (ending ≢ Nothing → ⊥) → ending ≡ Nothing
is_nothing Lf h = absurd (h (λ e. cc))
is_nothing Cr h = absurd (h (λ e. cc))
is_nothing CrLf h = absurd (h (λ e. cc))
is_nothing Nothing h = refl

-- THE BYTE ORDER MARK

plain_drop : (n : ℕ) (text : List ℕ) → AllByRecursion IsPlain text → AllByRecursion IsPlain (drop n text)
plain_drop zero text p = p
plain_drop (suc n) [] p = tt
plain_drop (suc n) (x ∷ text) p = plain_drop n text p.1

plain_without : (text : List ℕ) → AllByRecursion IsPlain text → AllByRecursion IsPlain (without mark text)
plain_without text p = elim (cases_Bool (starts_with nat_eq text mark)) [ inl e ↦ rw e (plain_drop 3 text p) | inr e ↦ rw e p ]

pub plain_unmarked : (number : ℕ) (text : List ℕ) → AllByRecursion IsPlain text → AllByRecursion IsPlain (unmarked number text)
plain_unmarked number text p = elim (cases_Bool (number == 1)) [ inl e ↦ rw e (plain_without text p) | inr e ↦ rw e p ]

-- a mark ends before an octet that is none of its octets
mark_before : (x : ℕ) (text left : List ℕ) → nat_eq 0xEF x ≡ false → nat_eq 0xBB x ≡ false → nat_eq 0xBF x ≡ false → without mark (text ++ x ∷ left) ≡ without mark text ++ x ∷ left
mark_before x [] left e b f = rw e refl
mark_before x (p ∷ []) left e b f = elim (cases_Bool (nat_eq 0xEF p)) [ inl h ↦ rw (h, b) refl | inr h ↦ rw h refl ]
mark_before x (p ∷ q ∷ []) left e b f = elim (cases_Bool (nat_eq 0xEF p)) [
  | inl h ↦ elim (cases_Bool (nat_eq 0xBB q)) [ inl k ↦ rw (h, k, f) refl | inr k ↦ rw (h, k) refl ]
  | inr h ↦ rw h refl
]
mark_before x (p ∷ q ∷ r ∷ text) left e b f = elim (cases_Bool (starts_with nat_eq (p ∷ q ∷ r ∷ text) mark)) [ inl h ↦ rw h refl | inr h ↦ rw h refl ]

mark_before_ending : (text : List ℕ) (ending : Ending) (left : List ℕ) → ending ≢ Nothing → without mark (text ++ ending_octets ending ++ left) ≡ without mark text ++ ending_octets ending ++ left
mark_before_ending text Lf left n = ap (without mark) (append_assoc text (10 ∷ []) left) ∙ mark_before 10 text left refl refl refl ∙ sym (append_assoc (without mark text) (10 ∷ []) left)
mark_before_ending text Cr left n = ap (without mark) (append_assoc text (13 ∷ []) left) ∙ mark_before 13 text left refl refl refl ∙ sym (append_assoc (without mark text) (13 ∷ []) left)
mark_before_ending text CrLf left n = ap (without mark) (append_assoc text (13 ∷ 10 ∷ []) left) ∙ mark_before 13 text (10 ∷ left) refl refl refl ∙ sym (append_assoc (without mark text) (13 ∷ 10 ∷ []) left)
mark_before_ending text Nothing left n = absurd (n refl)

unmarked_before : (number : ℕ) (text : List ℕ) (ending : Ending) (left : List ℕ) → ending ≢ Nothing → unmarked number (text ++ ending_octets ending ++ left) ≡ unmarked number text ++ ending_octets ending ++ left
unmarked_before number text ending left n = elim (cases_Bool (number == 1)) [ inl e ↦ rw e (mark_before_ending text ending left n) | inr e ↦ rw e refl ]

-- NUMBERS

abbrev texts_from : ℕ → List (List ℕ) → List TagLine
texts_from n texts = map tag_text (enumerate_from n texts)

texts_append : (n : ℕ) (texts more : List (List ℕ)) → texts_from n (texts ++ more) ≡ texts_from n texts ++ texts_from (n + length texts) more
texts_append n [] more = ap (λ k. texts_from k more) (omega arith)
texts_append n (text ∷ texts) more =
    let k : n + 1 + length texts ≡ n + length (text ∷ texts) = omega arith in
    ap (λ lines. tag_text (n, text) ∷ lines) (texts_append (n + 1) texts more ∙ ap (λ m. texts_from (n + 1) texts ++ texts_from m more) k)

lines_by_texts : (n : ℕ) (lines : List Text) → map tag_line (enumerate_from n lines) ≡ texts_from n (map (λ (line : Text). line.text) lines)
lines_by_texts n [] = refl
lines_by_texts n (line ∷ lines) = ap (λ ls. tag_text (n, line.text) ∷ ls) (lines_by_texts (n + 1) lines)

-- the number of a line is its place
number_at : (n : ℕ) (texts : List (List ℕ)) (before after : List TagLine) (line : TagLine) → texts_from n texts ≡ before ++ line ∷ after → line.number ≡ n + length before
number_at n [] [] after line e = absurd (cc)
number_at n [] (b ∷ before) after line e = absurd (cc)
number_at n (text ∷ texts) [] after line e =
    let same : tag_text (n, text) ≡ line = cc in
    omega (arith, ap (λ (l : TagLine). l.number) same)
number_at n (text ∷ texts) (b ∷ before) after line e =
    let more : texts_from (n + 1) texts ≡ before ++ line ∷ after = cc in
    omega (arith, number_at (n + 1) texts before after line more)

-- READING

-- the lines of a text are those with these texts
tag_lines_are : (octets : List ℕ) (texts : List (List ℕ)) → texts_of (without mark octets) ≡ texts → tag_lines (lines_of (without mark octets)) ≡ numbered texts
tag_lines_are octets texts e = lines_by_texts 1 (lines_of (without mark octets)) ∙ ap numbered e

module _ {A : Type 0} (leads : A → ℕ → List ℕ → A → Type 0) (start : A) where
  -- one more line
  leads_more : (texts : List (List ℕ)) (line : TagLine) (value next : A) → line.number ≡ length texts + 1 → Lead (LeadsOn leads) start (numbered texts) value → LeadsOn leads value line next → Lead (LeadsOn leads) start (numbered (texts ++ line.text ∷ [])) next
  leads_more texts line value next number lead on =
      subst (λ lines. Lead (LeadsOn leads) start lines next)
      (ap (λ n. numbered texts ++ tag_text (n, line.text) ∷ []) (omega (arith, number)) ∙ sym (texts_append 1 texts (line.text ∷ [])))
      (lead_more (LeadsOn leads) start value next (numbered texts) line lead on)

  stops_by : (refuses : A → List ℕ → LineCause → Type 0) (all : List ℕ) (texts : List (List ℕ)) (line : TagLine) (rest : List (List ℕ)) (value : A) (fault : LineFault) → texts_of (without mark all) ≡ texts ++ line.text ∷ rest → line.number ≡ length texts + 1
      → Lead (LeadsOn leads) start (numbered texts) value → RefusedAt refuses value line fault → StopsAt leads refuses start all fault
  stops_by refuses all texts line rest value fault lines number lead refused = record {
    lines = lines_of (without mark all);
    has_lines = own_lines (without mark all);
    before = numbered texts;
    faulty = line;
    after = texts_from (length texts + 2) rest;
    cut = tag_lines_are all (texts ++ line.text ∷ rest) lines ∙ texts_append 1 texts (line.text ∷ rest)
        ∙ cut_at (1 + length texts) (omega (arith, number));
    so_far = value;
    lead = lead;
    number = refused.0;
    refused = refused.1;
  }
    where
      cut_at : (n : ℕ) → n ≡ line.number → numbered texts ++ texts_from n (line.text ∷ rest) ≡ numbered texts ++ line ∷ texts_from (length texts + 2) rest
      cut_at n e =
          let k : n + 1 ≡ length texts + 2 = omega (arith, e, number) in
          ap (λ m. numbered texts ++ tag_text (m, line.text) ∷ texts_from (n + 1) rest) e ∙ ap (λ m. numbered texts ++ line ∷ texts_from m rest) k

  -- the last line says nothing, or is one more
  read_by : (all : List ℕ) (texts : List (List ℕ)) (n : ℕ) (text : List ℕ) (value next : A) → texts_of (without mark all) ≡ texts ++ one_text text → n ≡ length texts + 1
      → Lead (LeadsOn leads) start (numbered texts) value → LeadsOn leads value (tag_text (n, text)) next → IsTextOf leads start all next
  read_by all texts n [] value next lines number lead on = record {
    lines = lines_of (without mark all);
    has_lines = own_lines (without mark all);
    lead = subst (λ ls. Lead (LeadsOn leads) start ls next) (sym (tag_lines_are all texts (lines ∙ append-nil texts))) (subst (Lead (LeadsOn leads) start (numbered texts)) (sym unchanged) lead);
  }
    where
      unchanged : next ≡ value
      unchanged = elim on [ inl e ↦ e.1 | inr e ↦ absurd (let k : true ≡ false = e.0 in cc) ]
  read_by all texts n (x ∷ text) value next lines number lead on = record {
    lines = lines_of (without mark all);
    has_lines = own_lines (without mark all);
    lead = subst (λ ls. Lead (LeadsOn leads) start ls next) (sym (tag_lines_are all (texts ++ (x ∷ text) ∷ []) lines)) (leads_more texts (tag_text (n, x ∷ text)) value next number lead on);
  }

  last_stops : (refuses : A → List ℕ → LineCause → Type 0) (all : List ℕ) (texts : List (List ℕ)) (n : ℕ) (text : List ℕ) (value : A) (fault : LineFault) → texts_of (without mark all) ≡ texts ++ one_text text → n ≡ length texts + 1
      → Lead (LeadsOn leads) start (numbered texts) value → RefusedAt refuses value (tag_text (n, text)) fault → StopsAt leads refuses start all fault
  last_stops refuses all texts n [] value fault lines number lead refused = absurd (let k : true ≡ false = refused.1.0 in cc)
  last_stops refuses all texts n (x ∷ text) value fault lines number lead refused =
      stops_by refuses all texts (tag_text (n, x ∷ text)) [] value fault lines number lead refused

module _ {A : Type 0} (leads : A → ℕ → List ℕ → A → Type 0) (start : A) where
  pub awaits_all : (all : List ℕ) (last : LastLine) → IsBegun last → Awaits leads start all all last start
  awaits_all all last begun = record {
    texts = [];
    lines = rw (begun.number, begun.octets, begun.after_cr) refl;
    lead = refl;
    number = begun.number;
  }

  -- one piece is all
  pub awaits_whole : (all : List ℕ) (last : LastLine) → IsBegun last → Awaits leads start all (all ++ []) last start
  awaits_whole all last begun = subst (λ os. Awaits leads start all os last start) (sym (append-nil all)) (awaits_all all last begun)

  pub awaits_rest : (all text : List ℕ) (last : LastLine) (value : A) → Awaits leads start all (text ++ []) last value → Awaits leads start all text last value
  awaits_rest all text last value a = subst (λ os. Awaits leads start all os last value) (append-nil text) a

  pub awaits_longer : (all octets left : List ℕ) (old new : LastLine) (value : A) → IsLonger old octets new → Awaits leads start all (octets ++ left) old value → Awaits leads start all left new value
  awaits_longer all octets left old new value longer a = record {
    texts = a.texts;
    lines = a.lines ∙ ap (λ os. a.texts ++ texts_of os) (sym (longer.goes_on left));
    lead = a.lead;
    number = longer.number ∙ a.number;
  }

  -- the lines from the last one on, if it ends
  last_ends : (last : LastLine) (text : List ℕ) (ending : Ending) (left : List ℕ) → AllByRecursion IsPlain text → ending ≢ Nothing → (last.after_cr ≡ true → is_lone_lf text ending ≡ false)
      → texts_of (going_on last (text ++ ending_octets ending ++ left)) ≡ (last_line last text).text ∷ texts_of (after_ending (is_cr ending) left)
  last_ends last text ending left p n other =
      ap (λ os. texts_of (unmarked last.number (last.octets.items ++ os))) (goes_past text ending left last.after_cr p n other)
      ∙ ap (λ os. texts_of (unmarked last.number os)) (joins last.octets.items text (ending_octets ending) left)
      ∙ ap texts_of (unmarked_before last.number (last.octets.items ++ text) ending left n)
      ∙ ended (unmarked last.number (last.octets.items ++ text)) ending left (plain_unmarked last.number (last.octets.items ++ text) (plain_append last.octets.items text last.plain p)) n
    where
      joins : (a b c d : List ℕ) → a ++ (b ++ c ++ d) ≡ (a ++ b) ++ c ++ d
      joins a b c d = sym (append_assoc a (b ++ c) d) ∙ ap (λ os. os ++ d) (sym (append_assoc a b c))

  -- the next line begins
  begins_next : (left : List ℕ) (ending : Ending) (old new : LastLine) (n : ℕ) → old.number ≡ n + 1 → IsNext old (is_cr ending) new → going_on new left ≡ after_ending (is_cr ending) left
  begins_next left ending old new n number next =
      let later : new.number ≢ 1 = omega (arith, next.number, number) in
      rw (ne_eqb new.number 1 later, next.octets, next.after_cr_is) refl

  -- a line that led on
  pub awaits_next : (all text left : List ℕ) (ending : Ending) (old mid new : LastLine) (value next : A) → AllByRecursion IsPlain text → ending ≢ Nothing → (old.after_cr ≡ true → is_lone_lf text ending ≡ false)
      → mid.number ≡ old.number → IsNext mid (is_cr ending) new → LeadsOn leads value (last_line old text) next → Awaits leads start all (text ++ ending_octets ending ++ left) old value → Awaits leads start all left new next
  awaits_next all text left ending old mid new value next p n other same is_next on a = record {
    texts = a.texts ++ (last_line old text).text ∷ [];
    lines = a.lines ∙ ap (λ ts. a.texts ++ ts) (last_ends old text ending left p n other)
        ∙ sym (append_assoc a.texts ((last_line old text).text ∷ []) (texts_of (after_ending (is_cr ending) left)))
        ∙ ap (λ os. (a.texts ++ (last_line old text).text ∷ []) ++ texts_of os) (sym (begins_next left ending mid new (length a.texts) (same ∙ a.number) is_next));
    lead = leads_more leads start a.texts (last_line old text) value next a.number a.lead on;
    number = is_next.number ∙ omega (arith, same, a.number, length-append a.texts ((last_line old text).text ∷ []));
  }

  -- a line that is refused
  stops_next : (refuses : A → List ℕ → LineCause → Type 0) (all text left : List ℕ) (ending : Ending) (old : LastLine) (value : A) (fault : LineFault) → AllByRecursion IsPlain text → ending ≢ Nothing → (old.after_cr ≡ true → is_lone_lf text ending ≡ false)
      → RefusedAt refuses value (last_line old text) fault → Awaits leads start all (text ++ ending_octets ending ++ left) old value → StopsAt leads refuses start all fault
  stops_next refuses all text left ending old value fault p n other refused a =
      stops_by leads start refuses all a.texts (last_line old text) (texts_of (after_ending (is_cr ending) left)) value fault (a.lines ∙ ap (λ ts. a.texts ++ ts) (last_ends old text ending left p n other)) a.number a.lead refused

  -- the text of the last line, where all octets end
  ends : (last : LastLine) (text : List ℕ) → AllByRecursion IsPlain text → texts_of (going_on last text) ≡ one_text (last_line last text).text
  ends last text p =
      ap (λ os. texts_of (unmarked last.number (last.octets.items ++ os))) (goes_on_plain text last.after_cr p)
      ∙ one_line (unmarked last.number (last.octets.items ++ text)) (plain_unmarked last.number (last.octets.items ++ text) (plain_append last.octets.items text last.plain p))

  -- all lines led on
  pub text_read : (all text : List ℕ) (last : LastLine) (value next : A) → AllByRecursion IsPlain text → LeadsOn leads value (last_line last text) next → Awaits leads start all text last value → IsTextOf leads start all next
  text_read all text last value next p on a =
      read_by leads start all a.texts last.number (last_line last text).text value next (a.lines ∙ ap (λ ts. a.texts ++ ts) (ends last text p)) a.number a.lead on

  -- the last line is refused
  text_stops : (refuses : A → List ℕ → LineCause → Type 0) (all text : List ℕ) (last : LastLine) (value : A) (fault : LineFault) → AllByRecursion IsPlain text → RefusedAt refuses value (last_line last text) fault → Awaits leads start all text last value → StopsAt leads refuses start all fault
  text_stops refuses all text last value fault p refused a =
      last_stops leads start refuses all a.texts last.number (last_line last text).text value fault (a.lines ∙ ap (λ ts. a.texts ++ ts) (ends last text p)) a.number a.lead refused

  -- the same for a fault that may be want of memory
  pub next_stops : (refuses : A → List ℕ → LineCause → Type 0) (all text left : List ℕ) (ending : Ending) (old : LastLine) (value : A) (fault : TagFault) → AllByRecursion IsPlain text → ending ≢ Nothing → (old.after_cr ≡ true → is_lone_lf text ending ≡ false)
      → Faults (RefusedAt refuses value (last_line old text)) fault → Awaits leads start all (text ++ ending_octets ending ++ left) old value → Faults (StopsAt leads refuses start all) fault
  next_stops refuses all text left ending old value tag.Memory p n other refused a = tt
  next_stops refuses all text left ending old value (tag.Line fault) p n other refused a = stops_next refuses all text left ending old value fault p n other refused a

  pub end_stops : (refuses : A → List ℕ → LineCause → Type 0) (all text : List ℕ) (last : LastLine) (value : A) (fault : TagFault) → AllByRecursion IsPlain text → Faults (RefusedAt refuses value (last_line last text)) fault → Awaits leads start all text last value → Faults (StopsAt leads refuses start all) fault
  end_stops refuses all text last value tag.Memory p refused a = tt
  end_stops refuses all text last value (tag.Line fault) p refused a = text_stops refuses all text last value fault p refused a

-- FAULTS THAT ARE TOLD

-- the lines before a faulty one reach past these, or it is one of them
at_or_past : (xs ys before after : List TagLine) (line : TagLine) → xs ++ ys ≡ before ++ line ∷ after → (length xs ≤ length before) ⊎ ((rest : List TagLine) × (xs ≡ before ++ line ∷ rest))
at_or_past [] ys before after line e = inl (omega arith)
at_or_past (x ∷ xs) ys [] after line e =
    let same : x ≡ line = cc in
    inr (xs, ap (λ l. l ∷ xs) same)
at_or_past (x ∷ xs) ys (b ∷ before) after line e =
    let same : x ≡ b = cc in
    let more : xs ++ ys ≡ before ++ line ∷ after = cc in
    elim (at_or_past xs ys before after line more) [
      | inl h ↦ inl (omega (arith, h))
      | inr h ↦ inr (h.0, ap (λ l. l ∷ xs) same ∙ ap (λ ls. b ∷ ls) h.1)
    ]

-- lines that led on have no fault, so the first fault is that of the last line
pub last_faulty : {A : Type 0} (leads : A → ℕ → List ℕ → A → Type 0) (refuses : A → List ℕ → LineCause → Type 0) (exact : AreExact leads refuses) (start : A) (octets : List ℕ) (last : LastLine) (value : A) (fault : LineFault)
    → Awaits leads start octets [] last value → IsFirstFault leads refuses start octets fault → length (lines_of (without mark octets)) ≤ fault.line
last_faulty leads refuses exact start octets last value fault a f =
    elim (at_or_past (numbered a.texts) (texts_from (1 + length a.texts) (one_text text)) f.stops.before f.stops.after f.stops.faulty (sym (texts_append 1 a.texts (one_text text)) ∙ sym (tag_lines_are octets (a.texts ++ one_text text) lines) ∙ same ∙ f.stops.cut)) [
      | inl h ↦ omega (arith, h, f.stops.number, number_at 1 (a.texts ++ one_text text) f.stops.before f.stops.after f.stops.faulty (sym (tag_lines_are octets (a.texts ++ one_text text) lines) ∙ same ∙ f.stops.cut), count, few text, length-append a.texts (one_text text), length_numbered 1 a.texts)
      | inr h ↦ absurd (lead_none leads refuses exact f.stops.before h.0 f.stops.faulty start f.stops.so_far value f.stops.lead f.no_further (subst (λ ls. Lead (LeadsOn leads) start ls value) h.1 a.lead))
    ]
  where
    text : List ℕ
    text = (last_line last []).text

    lines : texts_of (without mark octets) ≡ a.texts ++ one_text text
    lines = a.lines ∙ ap (λ ts. a.texts ++ ts) (ends leads start last [] tt)

    same : tag_lines (lines_of (without mark octets)) ≡ tag_lines f.stops.lines
    same = ap tag_lines (sym ((one_list (without mark octets) f.stops.lines).0 f.stops.has_lines))

    count : length (lines_of (without mark octets)) ≡ length (a.texts ++ one_text text)
    count = sym (length-map (lines_of (without mark octets)) (λ (line : Text). line.text)) ∙ ap length lines

    few : (t : List ℕ) → length (one_text t) ≤ 1
    few [] = omega arith
    few (x ∷ t) = omega arith

    length_numbered : (n : ℕ) (texts : List (List ℕ)) → length (texts_from n texts) ≡ length texts
    length_numbered n [] = refl
    length_numbered n (t ∷ texts) = ap suc (length_numbered (n + 1) texts)
