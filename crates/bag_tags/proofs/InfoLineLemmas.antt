-- A line of `bag-info.txt` adds one thing.
use Rattle.std.proofs.Common.{◌≡◌, ◌≢◌, ◌⊎◌, ◌<◌, ℕ, length, get_or, true, false, List, [], ◌∷◌, ◌++◌, refl, sym, ap, ◌∙◌, subst, inl, inr, append-nil, append_assoc}
use Rattle.std.specs.List.{AllByRecursion}
use Rattle.std.proofs.lemmas.Bool.{ne_eqb, cases_Bool}
use Rattle.std.proofs.lemmas.Bool.Decides.{eqb_tells}
use Rattle.std.proofs.lemmas.List.Elements.{All-from_get_or, recursion_from_All}
use Rattle.bag_path.specs.Lines.{IsPlain}
use Rattle.bag_path.specs.declared.version.Version.{Version}
use Rattle.bag_path.specs.declared.version.Version.TheVariants.{V1, V097}
use Rattle.bag_tags.specs.Words.{is_blank, IsBlank, is_blank_line, begins_blank}
use Rattle.bag_tags.specs.WordsReading.{until, is_colon, is_not_blank}
use Rattle.bag_tags.specs.Infos.{MetadataElement, element, element_with_line, IsFit, IsLabel, IsLabelOctet, IsNotColon, IsFurtherLine, IsValue}
use Rattle.bag_tags.specs.InfoText.{IsIndented, HasColon, HasLabel, HasFirstLine, HasParts, GivesElement, AddsInfo, LacksSeparator}
use Rattle.bag_tags.proofs.WordsLemmas.{until_front, until_here, begins_with, each, blanks_cut}
use Rattle.bag_tags.proofs.ValueLemmas.{plain_value}
use Rattle.bag_tags.proofs.LabelLemmas.{one_label, one_first, label_front, first_after, not_after}
use Rattle.bag_tags.proofs.TextCutLemmas.{all_left, all_right, first_of, second_of, same_tail, whole_of, blanks_of, rest_begins, blank_line_of}

-- an indented line that was cut after its blanks
some_blanks : (blanks text line : List ℕ) → text ≡ blanks ++ line → begins_blank text ≡ true → begins_blank line ≡ false → blanks ≢ []
some_blanks blanks text line e b n empty = let k : true ≡ false = sym b ∙ ap begins_blank (e ∙ ap (λ xs. xs ++ line) empty) ∙ n in cc

pub indented : (text blanks line : List ℕ) → until is_not_blank text ≡ (blanks, line) → begins_blank text ≡ true → IsIndented text line
indented text blanks line e b =
    let whole = whole_of is_not_blank text blanks line e in
    let begins = rest_begins text blanks line e in
    record {
      blanks = blanks;
      whole = whole;
      some_blank = some_blanks blanks text line whole b begins;
      only_blanks = blanks_of text blanks line e;
      line_begins = begins;
    }

some_line : (text blanks line : List ℕ) → text ≡ blanks ++ line → AllByRecursion IsBlank blanks → is_blank_line text ≡ false → line ≢ []
some_line text blanks line e h n empty =
    let only : text ≡ blanks = e ∙ ap (λ xs. blanks ++ xs) empty ∙ append-nil blanks in
    let k : true ≡ false = sym (blank_line_of blanks h) ∙ ap is_blank_line (sym only) ∙ n in cc

pub further_line : (text blanks line : List ℕ) → until is_not_blank text ≡ (blanks, line) → AllByRecursion IsPlain text → is_blank_line text ≡ false → IsFurtherLine line
further_line text blanks line e p n =
    let whole = whole_of is_not_blank text blanks line e in
    record {
      some = some_line text blanks line whole (blanks_of text blanks line e) n;
      begins = rest_begins text blanks line e;
      no_line_end = all_right IsPlain blanks line (subst (AllByRecursion IsPlain) whole p);
    }

indent_cut : (text line : List ℕ) (h : IsIndented text line) → until is_not_blank text ≡ (h.blanks, line)
indent_cut text line h = ap (until is_not_blank) h.whole ∙ blanks_cut h.blanks line h.only_blanks h.line_begins

one_line : (text line other : List ℕ) → IsIndented text line → IsIndented text other → line ≡ other
one_line text line other h k = second_of h.blanks k.blanks line other (sym (indent_cut text line h) ∙ indent_cut text other k)

begins_so : (blanks line : List ℕ) → blanks ≢ [] → AllByRecursion IsBlank blanks → begins_blank (blanks ++ line) ≡ true
begins_so [] line some h = absurd (some refl)
begins_so (x ∷ blanks) line some h = h.0

pub indent_begins : (text line : List ℕ) → IsIndented text line → begins_blank text ≡ true
indent_begins text line h = ap begins_blank h.whole ∙ begins_so h.blanks line h.some_blank h.only_blanks

-- a line that was cut at its first colon
pub colon_cut : (text label after : List ℕ) → HasColon text label after → until is_colon text ≡ (label, 58 ∷ after)
colon_cut text label after h = ap (until is_colon) h.whole ∙ until_here is_colon label after 58 (each IsNotColon (λ x. is_colon x ≡ false) (λ x n. ne_eqb x 58 n) label h.first_colon) refl

not_colon : (x : ℕ) → is_colon x ≡ false → IsNotColon x
not_colon x h e = let k : true ≡ false = sym (ap is_colon e) ∙ h in cc

pub front_of : (text label rest : List ℕ) → until is_colon text ≡ (label, rest) → AllByRecursion IsNotColon label
front_of text label rest e = each (λ x. is_colon x ≡ false) IsNotColon not_colon label (subst (λ (u : List ℕ × List ℕ). AllByRecursion (λ x. is_colon x ≡ false) u.0) e (until_front is_colon text))

pub is_58 : (x : ℕ) → is_colon x ≡ true → x ≡ 58
is_58 x h = elim (eqb_tells x 58) [ inl e ↦ e.1 | inr e ↦ absurd (let k : true ≡ false = sym h ∙ e.0 in cc) ]

pub colon_of : (text label after : List ℕ) (x : ℕ) → until is_colon text ≡ (label, x ∷ after) → HasColon text label after
colon_of text label after x e =
    let here : x ≡ 58 = is_58 x (begins_with is_colon text x after (ap (λ (u : List ℕ × List ℕ). u.1) e)) in
    record {
      whole = whole_of is_colon text label (x ∷ after) e ∙ ap (λ y. label ++ y ∷ after) here;
      first_colon = front_of text label (x ∷ after) e;
    }

same_colon : (text l a m b : List ℕ) → HasColon text l a → HasColon text m b → (l ≡ m) × (a ≡ b)
same_colon text l a m b h k =
    let e = sym (colon_cut text l a h) ∙ colon_cut text m b k in
    (first_of l m (58 ∷ a) (58 ∷ b) e, (same_tail 58 58 a b (second_of l m (58 ∷ a) (58 ∷ b) e)).1)

pub one_parts : (version : Version) (text l f m g : List ℕ) → HasParts version text l f → HasParts version text m g → (l ≡ m) × (f ≡ g)
one_parts version text l f m g h k =
    let s = same_colon text h.before h.after k.before k.after h.colon k.colon in (
      one_label version k.before l m (subst (λ b. HasLabel version b l) s.0 h.label_is) k.label_is,
      one_first version k.after f g (subst (λ a. HasFirstLine version a f) s.1 h.first_line) k.first_line,
    )

-- a text contains a colon, or doesn't
abbrev ColonOrNone : List ℕ → Type 0
ColonOrNone text = ((before : List ℕ) × ((after : List ℕ) × HasColon text before after)) ⊎ AllByRecursion IsNotColon text

colon_cases : (text before rest : List ℕ) → until is_colon text ≡ (before, rest) → ColonOrNone text
colon_cases text before [] e = inr (subst (AllByRecursion IsNotColon) (sym (whole_of is_colon text before [] e ∙ append-nil before)) (front_of text before [] e))
colon_cases text before (x ∷ after) e = inl (before, (after, colon_of text before after x e))

pub colon_or_none : (text : List ℕ) → ColonOrNone text
colon_or_none text = colon_cases text (until is_colon text).0 (until is_colon text).1 refl

-- the same in terms of indices
pub none_where : (text : List ℕ) → ((i : ℕ) → i < length text → get_or text i 0 ≢ 58) → AllByRecursion IsNotColon text
none_where text none = recursion_from_All IsNotColon text (All-from_get_or IsNotColon text 0 none)

pub colon_where : (text before after : List ℕ) → (text ≡ before ++ 58 ∷ after) × ((i : ℕ) → i < length before → get_or before i 0 ≢ 58) → HasColon text before after
colon_where text before after h = record { whole = h.0; first_colon = none_where before h.1 }

pub parts_of : (version : Version) (text before after label first : List ℕ) → until is_colon text ≡ (before, 58 ∷ after) → HasLabel version before label → HasFirstLine version after first → HasParts version text label first
parts_of version text before after label first cut label_is first_line = record { before = before; after = after; colon = colon_of text before after 58 cut; label_is = label_is; first_line = first_line }

-- no separator
pub lacks_colon : (version : Version) (text : List ℕ) → AllByRecursion IsNotColon text → LacksSeparator version text
lacks_colon V1 text h = inl h
lacks_colon V097 text h = h

pub lacks_first : (version : Version) (text before after : List ℕ) → HasColon text before after → ((first : List ℕ) → ¬ HasFirstLine version after first) → LacksSeparator version text
lacks_first V1 text before [] h none = absurd (none [] refl)
lacks_first V1 text before (x ∷ rest) h none = elim (cases_Bool (is_blank x)) [
  | inl b ↦ absurd (none rest (b, refl))
  | inr b ↦ inr (before, (x, (rest, h, b)))
]
lacks_first V097 text before after h none = absurd (none _ (first_after after (until is_not_blank after).0 (until is_not_blank after).1 refl))

-- a line that gives an element begins with no blank
fit_begins : (label rest : List ℕ) → IsFit label → begins_blank (label ++ rest) ≡ false
fit_begins [] rest h = absurd (h.some refl)
fit_begins (x ∷ label) rest h = h.begins

pub gives_begins : (version : Version) (text : List ℕ) (e : MetadataElement) → GivesElement version text e → begins_blank text ≡ false
gives_begins version text e g =
    let front = label_front version g.parts.before e.label g.parts.label_is in
    let more = front.0 ++ 58 ∷ g.parts.after in
    ap begins_blank (g.parts.colon.whole ∙ ap (λ before. before ++ 58 ∷ g.parts.after) front.1 ∙ append_assoc e.label front.0 (58 ∷ g.parts.after))
    ∙ fit_begins e.label more g.fit

not_both : (version : Version) (text line : List ℕ) (e : MetadataElement) → IsIndented text line → GivesElement version text e → ⊥
not_both version text line e h g = let k : true ≡ false = sym (indent_begins text line h) ∙ gives_begins version text e g in cc

one_element : (version : Version) (text : List ℕ) (d e : MetadataElement) → GivesElement version text d → GivesElement version text e → d ≡ e
one_element version text d e h k =
    let s = one_parts version text d.label d.value e.label e.value h.parts k.parts in
    ap (λ l. element l d.value) s.0 ∙ ap (λ v. element e.label v) s.1

-- the last of a list
pub no_last : (xs : List MetadataElement) (x : MetadataElement) → (let l : List MetadataElement = [] in l) ≡ xs ++ x ∷ [] → ⊥
no_last [] x e = cc
no_last (y ∷ xs) x e = cc

one_last : (xs ys : List MetadataElement) (x y : MetadataElement) → xs ++ x ∷ [] ≡ ys ++ y ∷ [] → (xs ≡ ys) × (x ≡ y)
one_last [] [] x y e = let s : x ≡ y = cc in (refl, s)
one_last [] (z ∷ ys) x y e = absurd (no_last ys y (let t : [] ≡ ys ++ y ∷ [] = cc in t))
one_last (z ∷ xs) [] x y e = absurd (no_last xs x (let t : [] ≡ xs ++ x ∷ [] = cc in t))
one_last (z ∷ xs) (w ∷ ys) x y e =
    let tail : xs ++ x ∷ [] ≡ ys ++ y ∷ [] = cc in
    let head : z ≡ w = cc in
    let r = one_last xs ys x y tail in
    (ap (λ v. v ∷ xs) head ∙ ap (λ vs. w ∷ vs) r.0, r.1)

-- a line leads to one list of elements
pub info_one : (version : Version) (before : List MetadataElement) (number : ℕ) (text : List ℕ) (next other : List MetadataElement) → AddsInfo version before number text next → AddsInfo version before number text other → next ≡ other
info_one version before number text next other a b = elim a [
  | inl c ↦ elim b [
    | inl d ↦
        let s = one_last c.earlier d.earlier c.last d.last (sym c.has_last ∙ d.has_last) in
        c.continues ∙ ap (λ xs. xs ++ element_with_line c.last c.line ∷ []) s.0 ∙ ap (λ x. d.earlier ++ element_with_line x c.line ∷ []) s.1
        ∙ ap (λ l. d.earlier ++ element_with_line d.last l ∷ []) (one_line text c.line d.line c.indented d.indented) ∙ sym d.continues
    | inr d ↦ absurd (not_both version text c.line d.element c.indented d.gives)
  ]
  | inr c ↦ elim b [
    | inl d ↦ absurd (not_both version text d.line c.element d.indented c.gives)
    | inr d ↦ c.adds ∙ ap (λ x. before ++ x ∷ []) (one_element version text c.element d.element c.gives d.gives) ∙ sym d.adds
  ]
]

-- a line with a label and a first line has its separator
not_without : (text before after : List ℕ) → HasColon text before after → AllByRecursion IsNotColon text → ⊥
not_without text before after h none = (all_right IsNotColon before (58 ∷ after) (subst (AllByRecursion IsNotColon) h.whole none)).0 refl

pub not_lacking : (version : Version) (text label first : List ℕ) → HasParts version text label first → LacksSeparator version text → ⊥
not_lacking V1 text label first p n = elim n [
  | inl h ↦ not_without text p.before p.after p.colon h
  | inr h ↦
      let s = same_colon text p.before p.after h.0 (h.1.0 ∷ h.1.1.0) p.colon h.1.1.1 in
      not_after h.1.0 h.1.1.0 h.1.1.2 first (subst (λ a. HasFirstLine V1 a first) s.1 p.first_line)
]
not_lacking V097 text label first p n = not_without text p.before p.after p.colon n

-- the label and the first line of a text
both : (xs : List ℕ) → AllByRecursion IsNotColon xs → AllByRecursion IsPlain xs → AllByRecursion IsLabelOctet xs
both [] h k = tt
both (x ∷ xs) h k = ((h.0, k.0), both xs h.1 k.1)

pub is_label_of : (version : Version) (text label first : List ℕ) → HasParts version text label first → AllByRecursion IsPlain text → IsFit label → IsLabel label
is_label_of version text label first h p fit =
    let before = both h.before h.colon.first_colon (all_left IsPlain h.before (58 ∷ h.after) (subst (AllByRecursion IsPlain) h.colon.whole p)) in
    let front = label_front version h.before label h.label_is in
    record {
      fit = fit;
      octets = all_left IsLabelOctet label front.0 (subst (AllByRecursion IsLabelOctet) front.1 before);
    }

after_plain : (version : Version) (after first : List ℕ) → HasFirstLine version after first → AllByRecursion IsPlain after → AllByRecursion IsPlain first
after_plain V1 [] first h p = subst (AllByRecursion IsPlain) (sym h) p
after_plain V1 (x ∷ rest) first h p = subst (AllByRecursion IsPlain) (sym h.1) p.1
after_plain V097 after first h p = all_right IsPlain h.0 first (subst (AllByRecursion IsPlain) h.1 p)

pub is_value_of : (version : Version) (text label first : List ℕ) → HasParts version text label first → AllByRecursion IsPlain text → IsValue first
is_value_of version text label first h p = plain_value first (after_plain version h.after first h.first_line (all_right IsPlain h.before (58 ∷ h.after) (subst (AllByRecursion IsPlain) h.colon.whole p)).1)

pub gives_of : (version : Version) (text label first : List ℕ) (e : MetadataElement) → HasParts version text label first → e ≡ element label first → IsFit label → GivesElement version text e
gives_of version text label first e h same fit = subst (GivesElement version text) (sym same) (record { parts = h; fit = fit })
