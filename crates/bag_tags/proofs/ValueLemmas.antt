-- A value is tested octet by octet.
use Rattle.std.proofs.Common.{◌≡◌, ◌≢◌, ◌==◌, ◌+◌, ◌<◌, ◌≤◌, ℕ, Bool, true, false, not, IsTrue, List, [], ◌∷◌, ◌++◌, length, drop, get_or, refl, sym, ap, ◌∙◌, subst, inl, inr, arith, cond, append_assoc, append-nil, length-drop}
use Rattle.std.specs.List.{AllByRecursion, flat_map}
use Rattle.std.proofs.lemmas.Bool.{cases_Bool, ne_eqb}
use Rattle.std.proofs.lemmas.Bool.Decides.{eqb_tells, nat_tests}
use Rattle.std.proofs.lemmas.List.{drop_more}
use Rattle.std.proofs.lemmas.List.Concat.{flat_map-cons, flat_map-append}
use Rattle.bag_path.specs.Lines.{IsPlain}
use Rattle.bag_tags.specs.Words.{is_blank}
use Rattle.bag_tags.specs.InfoReading.{stops_value}
use Rattle.bag_tags.specs.Infos.{IsFurtherLine, IsValue, after_lf}

-- whether what is left of a value is good; the flag says whether an LF comes before it
unfoldable pub value_ok : Bool → List ℕ → Bool
value_ok after [] = not after
value_ok after (x ∷ xs) = cond (stops_value after x) false (value_ok (x == 10) xs)

step : (after : Bool) (x : ℕ) (xs : List ℕ) → value_ok after (x ∷ xs) ≡ cond (stops_value after x) false (value_ok (x == 10) xs)
unfolding value_ok
step after x xs = refl

pub value_more : (text : List ℕ) (after : Bool) (n : ℕ) → n < length text → stops_value after (get_or text n 0) ≡ false → value_ok false text ≡ value_ok after (drop n text) → value_ok false text ≡ value_ok (get_or text n 0 == 10) (drop (n + 1) text)
value_more text after n below h e =
    e ∙ ap (value_ok after) (drop_more text n 0 below) ∙ step after (get_or text n 0) (drop (n + 1) text)
    ∙ ap (λ b. cond b false (value_ok (get_or text n 0 == 10) (drop (n + 1) text))) h

pub value_stops : (text : List ℕ) (after : Bool) (n : ℕ) → n < length text → stops_value after (get_or text n 0) ≡ true → value_ok false text ≡ value_ok after (drop n text) → value_ok false text ≡ false
value_stops text after n below h e =
    e ∙ ap (value_ok after) (drop_more text n 0 below) ∙ step after (get_or text n 0) (drop (n + 1) text)
    ∙ ap (λ b. cond b false (value_ok (get_or text n 0 == 10) (drop (n + 1) text))) h

nothing_after : (rest : List ℕ) (after : Bool) → length rest ≡ 0 → value_ok after rest ≡ not after
unfolding value_ok
nothing_after [] after h = refl
nothing_after (x ∷ rest) after h = absurd (omega arith)

pub value_ends : (text : List ℕ) (after : Bool) (n : ℕ) → length text ≤ n → value_ok false text ≡ value_ok after (drop n text) → value_ok false text ≡ not after
value_ends text after n h e = e ∙ nothing_after (drop n text) after (simp length-drop (omega arith))

-- the lines of what is left of a value; the first is a further line if it comes after an LF
record HasRest (after : Bool) (text : List ℕ) : Type 0 where
  first : List ℕ
  further : List (List ℕ)
  whole : text ≡ first ++ flat_map after_lf further
  plain : AllByRecursion IsPlain first
  lines : AllByRecursion IsFurtherLine further
  begins : IsTrue after → IsFurtherLine first

-- an octet that a value may contain
abbrev Stands : Bool → ℕ → Type 0
Stands after x = (x ≢ 13) × (IsTrue after → (is_blank x ≡ false) × (x ≢ 10))

stands : (after : Bool) (x : ℕ) → stops_value after x ≡ false → Stands after x
stands true x h = (λ e. grind (arith, nat_tests), λ t. (grind (arith, nat_tests), λ e. grind (arith, nat_tests)))
stands false x h = (λ e. grind (arith, nat_tests), λ t. absurd (let k : false ≡ true = t in cc))

not_stops : (after : Bool) (x : ℕ) → Stands after x → stops_value after x ≡ false
not_stops true x h = let b = (h.1 refl).0 in let n = (h.1 refl).1 in rw (ne_eqb x 13 h.0, b, ne_eqb x 10 n) refl
not_stops false x h = rw (ne_eqb x 13 h.0) refl

good : (after : Bool) (x : ℕ) (xs : List ℕ) → value_ok after (x ∷ xs) ≡ true → (stops_value after x ≡ false) × (value_ok (x == 10) xs ≡ true)
good after x xs h = elim (cases_Bool (stops_value after x)) [
  | inl e ↦ absurd (let k : false ≡ true = sym (step after x xs ∙ ap (λ b. cond b false (value_ok (x == 10) xs)) e) ∙ h in cc)
  | inr e ↦ (e, sym (step after x xs ∙ ap (λ b. cond b false (value_ok (x == 10) xs)) e) ∙ h)
]

rest_of : (text : List ℕ) (after : Bool) → value_ok after text ≡ true → HasRest after text
unfolding value_ok
rest_of [] true h = absurd (let k : false ≡ true = h in cc)
rest_of [] false h = record { first = []; further = []; whole = refl; plain = tt; lines = tt; begins = λ t. absurd (let k : false ≡ true = t in cc) }
rest_of (x ∷ xs) after h =
    let g = good after x xs h in
    let s = stands after x g.0 in
    elim (eqb_tells x 10) [
      | inl e ↦
          let r = rest_of xs true (subst (λ b. value_ok b xs ≡ true) e.0 g.1) in
          record {
            first = [];
            further = r.first ∷ r.further;
            whole = ap (λ y. y ∷ xs) e.1 ∙ ap (λ ys. 10 ∷ ys) r.whole ∙ sym (flat_map-cons after_lf r.first r.further);
            plain = tt;
            lines = (r.begins refl, r.lines);
            begins = λ t. absurd ((s.1 t).1 e.1);
          }
      | inr e ↦
          let r = rest_of xs false (subst (λ b. value_ok b xs ≡ true) e.0 g.1) in
          record {
            first = x ∷ r.first;
            further = r.further;
            whole = ap (λ ys. x ∷ ys) r.whole;
            plain = ((e.1, s.0), r.plain);
            lines = r.lines;
            begins = λ t. record { some = λ n. cc; begins = (s.1 t).0; no_line_end = ((e.1, s.0), r.plain) };
          }
    ]

pub value_is : (text : List ℕ) → value_ok false text ≡ true → IsValue text
value_is text h =
    let r = rest_of text false h in
    record { first = r.first; further = r.further; lines = record { whole = r.whole; first_line = r.plain; further_lines = r.lines } }

-- a first line that may come here, followed by further ones, is good
ok_from : (first : List ℕ) (after : Bool) (rest : List ℕ) → AllByRecursion IsPlain first → (IsTrue after → IsFurtherLine first) → value_ok false rest ≡ true → value_ok after (first ++ rest) ≡ true
ok_from [] true rest p b h = absurd ((b refl).some refl)
ok_from [] false rest p b h = h
ok_from (x ∷ first) after rest p b h =
    let s : stops_value after x ≡ false = not_stops after x (p.0.1, λ t. ((b t).begins, p.0.0)) in
    step after x (first ++ rest) ∙ ap (λ c. cond c false (value_ok (x == 10) (first ++ rest))) s
    ∙ ap (λ c. value_ok c (first ++ rest)) (ne_eqb x 10 p.0.0)
    ∙ ok_from first false rest p.1 (λ t. absurd (let k : false ≡ true = t in cc)) h

further_ok : (further : List (List ℕ)) → AllByRecursion IsFurtherLine further → value_ok false (flat_map after_lf further) ≡ true
unfolding value_ok
further_ok [] h = refl
further_ok (line ∷ further) h =
    ap (value_ok false) (flat_map-cons after_lf line further)
    ∙ step false 10 (line ++ flat_map after_lf further)
    ∙ ok_from line true (flat_map after_lf further) h.0.no_line_end (λ t. h.0) (further_ok further h.1)

pub is_ok : (text : List ℕ) → IsValue text → value_ok false text ≡ true
is_ok text v = ap (value_ok false) v.lines.whole ∙ ok_from v.first false (flat_map after_lf v.further) v.lines.first_line (λ t. absurd (let k : false ≡ true = t in cc)) (further_ok v.further v.lines.further_lines)

-- one more further line
further_more : (further : List (List ℕ)) (line : List ℕ) → AllByRecursion IsFurtherLine further → IsFurtherLine line → AllByRecursion IsFurtherLine (further ++ line ∷ [])
further_more [] line h l = (l, tt)
further_more (x ∷ further) line h l = (h.0, further_more further line h.1 l)

pub value_with_line : (value line : List ℕ) → IsValue value → IsFurtherLine line → IsValue (value ++ after_lf line)
value_with_line value line v l = record {
  first = v.first;
  further = v.further ++ line ∷ [];
  lines = record {
    whole = ap (λ xs. xs ++ after_lf line) v.lines.whole ∙ append_assoc v.first (flat_map after_lf v.further) (after_lf line)
        ∙ ap (λ xs. v.first ++ xs) (ap (λ xs. flat_map after_lf v.further ++ xs) (sym (append-nil (after_lf line)) ∙ sym (flat_map-cons after_lf line [])) ∙ sym (flat_map-append after_lf v.further (line ∷ [])));
    first_line = v.lines.first_line;
    further_lines = further_more v.further line v.lines.further_lines l;
  };
}

-- a plain text is a value of one line
pub plain_value : (text : List ℕ) → AllByRecursion IsPlain text → IsValue text
plain_value text h = record { first = text; further = []; lines = record { whole = sym (append-nil text); first_line = h; further_lines = tt } }
