-- What comes before the colon has one label, and what follows it has at most one first line.
use Rattle.std.proofs.Common.{◌≡◌, ◌<◌, ◌+◌, ◌⊎◌, ℕ, zero, suc, true, false, List, [], ◌∷◌, ◌++◌, length, length-drop, take, drop, take-append-drop, get_or, refl, sym, ap, ◌∙◌, subst, inl, inr, arith, append-nil}
use Rattle.std.specs.List.{AllByRecursion}
use Rattle.std.proofs.lemmas.Bool.{cases_Bool}
use Rattle.std.proofs.lemmas.List.{get_or-drop}
use Rattle.std.proofs.lemmas.List.Elements.{All-from_get_or, recursion_from_All}
use Rattle.bag_path.specs.declared.version.Version.{Version}
use Rattle.bag_path.specs.declared.version.Version.TheVariants.{V1, V097}
use Rattle.bag_tags.specs.Words.{is_blank, IsBlank, ends_blank}
use Rattle.bag_tags.specs.WordsReading.{until, is_not_blank}
use Rattle.bag_tags.specs.InfoText.{HasLabel, HasFirstLine}
use Rattle.bag_tags.proofs.WordsLemmas.{blanks_cut}
use Rattle.bag_tags.proofs.TextCutLemmas.{all_left, second_of, same_tail, whole_of, blanks_of, rest_begins}

-- a text that ends with no blank, with an octet before it
ends_tail : (x : ℕ) (xs : List ℕ) → ends_blank (x ∷ xs) ≡ false → ends_blank xs ≡ false
ends_tail x [] h = refl
ends_tail x (y ∷ xs) h = h

-- some blanks end with a blank
blanks_end : (x : ℕ) (xs : List ℕ) → AllByRecursion IsBlank (x ∷ xs) → ends_blank (x ∷ xs) ≡ true
blanks_end x [] h = h.0
blanks_end x (y ∷ xs) h = blanks_end y xs h.1

not_blanks : (x : ℕ) (xs ys bs : List ℕ) → ys ≡ (x ∷ xs) ++ bs → AllByRecursion IsBlank ys → ends_blank (x ∷ xs) ≡ false → ⊥
not_blanks x xs ys bs e h n =
    let front = all_left IsBlank (x ∷ xs) bs (subst (AllByRecursion IsBlank) e h) in
    let k : true ≡ false = sym (blanks_end x xs front) ∙ n in cc

one_end : (l m bs cs : List ℕ) → l ++ bs ≡ m ++ cs → AllByRecursion IsBlank bs → AllByRecursion IsBlank cs → ends_blank l ≡ false → ends_blank m ≡ false → l ≡ m
one_end [] [] bs cs e h k p q = refl
one_end [] (y ∷ m) bs cs e h k p q = absurd (not_blanks y m bs cs e h q)
one_end (x ∷ l) [] bs cs e h k p q = absurd (not_blanks x l cs bs (sym e) k p)
one_end (x ∷ l) (y ∷ m) bs cs e h k p q =
    let same = same_tail x y (l ++ bs) (m ++ cs) e in
    ap (λ z. z ∷ l) same.0 ∙ ap (λ zs. y ∷ zs) (one_end l m bs cs same.1 h k (ends_tail x l p) (ends_tail y m q))

pub one_label : (version : Version) (before l m : List ℕ) → HasLabel version before l → HasLabel version before m → l ≡ m
one_label V1 before l m h k = sym h ∙ k
one_label V097 before l m h k = one_end l m h.0 k.0 (sym h.1 ∙ k.1) h.2 k.2 h.3 k.3

-- what comes before the colon is the label and what follows the label
pub label_front : (version : Version) (before label : List ℕ) → HasLabel version before label → (rest : List ℕ) × (before ≡ label ++ rest)
label_front V1 before label h = ([], h ∙ sym (append-nil label))
label_front V097 before label h = (h.0, h.1)

-- a text is cut before the blanks at its end
abbrev Ends : List ℕ → Type 0
Ends xs = (label : List ℕ) × HasLabel V097 xs label

ends_more : (x : ℕ) (xs : List ℕ) (label : List ℕ) → HasLabel V097 xs label → Ends (x ∷ xs)
ends_more x xs [] h = elim (cases_Bool (is_blank x)) [
  | inl blank ↦ ([], (x ∷ h.0, ap (λ ys. x ∷ ys) h.1, (blank, h.2), refl))
  | inr not ↦ (x ∷ [], (h.0, ap (λ ys. x ∷ ys) h.1, h.2, not))
]
ends_more x xs (y ∷ label) h = (x ∷ y ∷ label, (h.0, ap (λ ys. x ∷ ys) h.1, h.2, h.3))

pub ends_of : (xs : List ℕ) → Ends xs
ends_of [] = ([], ([], refl, tt, refl))
ends_of (x ∷ xs) = ends_more x xs (ends_of xs).0 (ends_of xs).1

pub label_of : (version : Version) (before : List ℕ) → (label : List ℕ) × HasLabel version before label
label_of V1 before = (before, refl)
label_of V097 before = ends_of before

-- one first line
blanks_first : (after first : List ℕ) (h : HasFirstLine V097 after first) → until is_not_blank after ≡ (h.0, first)
blanks_first after first h = ap (until is_not_blank) h.1 ∙ blanks_cut h.0 first h.2 h.3

pub one_first : (version : Version) (after f g : List ℕ) → HasFirstLine version after f → HasFirstLine version after g → f ≡ g
one_first V1 [] f g h k = h ∙ sym k
one_first V1 (x ∷ after) f g h k = h.1 ∙ sym k.1
one_first V097 after f g h k = second_of h.0 k.0 f g (sym (blanks_first after f h) ∙ blanks_first after g k)

-- the first line after blanks that were cut off
pub first_after : (after blanks first : List ℕ) → until is_not_blank after ≡ (blanks, first) → HasFirstLine V097 after first
first_after after blanks first e = (blanks, whole_of is_not_blank after blanks first e, blanks_of after blanks first e, rest_begins after blanks first e)

-- what follows the colon has a first line, or has none
abbrev FirstOrNone : Version → List ℕ → Type 0
FirstOrNone version after = ((first : List ℕ) × HasFirstLine version after first) ⊎ ((first : List ℕ) → ¬ HasFirstLine version after first)

pub not_after : (x : ℕ) (rest : List ℕ) → is_blank x ≡ false → (first : List ℕ) → ¬ HasFirstLine V1 (x ∷ rest) first
not_after x rest not first h = let k : true ≡ false = sym h.0 ∙ not in cc

pub first_or_none : (version : Version) (after : List ℕ) → FirstOrNone version after
first_or_none V1 [] = inl ([], refl)
first_or_none V1 (x ∷ rest) = elim (cases_Bool (is_blank x)) [
  | inl blank ↦ inl (rest, (blank, refl))
  | inr not ↦ inr (not_after x rest not)
]
first_or_none V097 after = inl ((until is_not_blank after).1, first_after after (until is_not_blank after).0 (until is_not_blank after).1 refl)

-- a label that was cut after its last octet that is no blank
ends_at : (xs : List ℕ) (i : ℕ) → i < length xs → is_blank (get_or xs i 0) ≡ false → ends_blank (take (suc i) xs) ≡ false
ends_at [] i below not = absurd (omega arith)
ends_at (x ∷ xs) zero below not = not
ends_at (x ∷ []) (suc i) below not = absurd (omega arith)
ends_at (x ∷ y ∷ xs) (suc i) below not = ends_at (y ∷ xs) i (omega arith) not

pub label_cut : (text label : List ℕ) (last : ℕ) → label ≡ take (last + 1) text → last < length text → is_blank (get_or text last 0) ≡ false → ((k : ℕ) → last < k → k < length text → is_blank (get_or text k 0) ≡ true) → HasLabel V097 text label
label_cut text label last cut below not blanks =
    let next : last + 1 ≡ suc last = omega arith in (
      drop (last + 1) text,
      sym (take-append-drop (last + 1) text) ∙ ap (λ front. front ++ drop (last + 1) text) (sym cut),
      all_after text last blanks,
      ap ends_blank (cut ∙ ap (λ n. take n text) next) ∙ ends_at text last below not,
    )
  where
    all_after : (text : List ℕ) (last : ℕ) → ((k : ℕ) → last < k → k < length text → is_blank (get_or text k 0) ≡ true) → AllByRecursion IsBlank (drop (last + 1) text)
    all_after text last blanks = recursion_from_All IsBlank (drop (last + 1) text) (All-from_get_or IsBlank (drop (last + 1) text) 0 (λ k below.
        ap is_blank (get_or-drop (last + 1) text k 0) ∙ blanks (last + 1 + k) (omega arith) (omega (arith, below, length-drop (last + 1) text))))

pub no_label : (text : List ℕ) → AllByRecursion IsBlank text → HasLabel V097 text []
no_label text h = (text, refl, h, refl)
