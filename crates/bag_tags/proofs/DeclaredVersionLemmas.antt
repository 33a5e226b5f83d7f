-- The octets of a declaration begin with its version.
use Rattle.std.proofs.Common.{◌≡◌, ◌⊎◌, ◌==◌, ◌&&◌, ℕ, Bool, true, false, List, [], ◌∷◌, ◌++◌, Some, None, length, get_or, codes, if◌then◌else◌, refl, sym, ap, ◌∙◌, inl, inr, arith, append_assoc}
use Rattle.std.specs.Fmt.{decimal, digits}
use Rattle.std.proofs.lemmas.Fmt.{decimal-digits_value}
use Rattle.std.proofs.lemmas.Bool.Decides.{eqb_tells}
use Rattle.bag_path.specs.Lines.{octets_of_lines, ending_octets}
use Rattle.bag_path.specs.declared.version.Version.{Version}
use Rattle.bag_path.specs.declared.version.Version.TheVariants.{V1, V097}
use Rattle.bag_tags.specs.declared.declaration.Declaration.{Declaration}
use Rattle.bag_tags.specs.Declarations.{version_label, IsVersionPart, IsVersion, HasLabels, IsDeclaration, version_of, declared_version}
use Rattle.bag_tags.proofs.NumeralLemmas.{digits_model, nine_digits, some_length}

-- a part of a version is written as its number is
one_zero : (text : List ℕ) (value : ℕ) → IsVersionPart text value → get_or text 0 0 ≡ 48 → length text ≡ 1
one_zero text value p zero = elim p.no_leading_zero [ inl one ↦ one | inr other ↦ absurd (other zero) ]

part_text : (text : List ℕ) (value : ℕ) → IsVersionPart text value → decimal value ≡ text
part_text text value p =
    let small = nine_digits text value p.numeral p.short in
    ap decimal p.numeral.value_is
    ∙ decimal-digits_value digits_model text p.numeral.digits (some_length text p.numeral.some) (one_zero text value p) (omega (arith, small, p.numeral.value_is))

version_text : (text : List ℕ) (major minor : ℕ) → IsVersion text major minor → text ≡ decimal major ++ codes "." ++ decimal minor
version_text text major minor v =
    v.whole
    ∙ ap (λ front. front ++ codes "." ++ v.after_dot) (sym (part_text v.before_dot major v.major_is))
    ∙ ap (λ back. decimal major ++ codes "." ++ back) (sym (part_text v.after_dot minor v.minor_is))

-- the octets after the version
rest_of : (octets version encoding : List ℕ) → HasLabels octets version encoding → List ℕ
rest_of octets version encoding h = ending_octets h.first.ending ++ octets_of_lines (h.second ∷ [])

begins_so : (octets version encoding : List ℕ) (h : HasLabels octets version encoding) → octets ≡ (version_label ++ version) ++ rest_of octets version encoding h
unfolding rest_of
begins_so octets version encoding h =
    h.two_lines.whole
    ∙ append_assoc h.first.text (ending_octets h.first.ending) (octets_of_lines (h.second ∷ []))
    ∙ ap (λ text. text ++ rest_of octets version encoding h) h.first_is

-- the octets of a declaration, by its numbers
abbrev declaring : ℕ → ℕ → List ℕ → List ℕ
declaring major minor rest = (version_label ++ decimal major ++ codes "." ++ decimal minor) ++ rest

octets_are : (octets : List ℕ) (declaration : Declaration) → IsDeclaration octets declaration → (rest : List ℕ) × (octets ≡ declaring declaration.major declaration.minor rest)
octets_are octets declaration h = (
  rest_of octets h.version h.encoding h.labels,
  begins_so octets h.version h.encoding h.labels
      ∙ ap (λ version. (version_label ++ version) ++ rest_of octets h.version h.encoding h.labels) (version_text h.version declaration.major declaration.minor h.version_is),
)

-- the version of these numbers, if it is known
same_number : (m n : ℕ) → (m == n) ≡ true → m ≡ n
same_number m n e = elim (eqb_tells m n) [ inl same ↦ same.1 | inr other ↦ absurd (let k : true ≡ false = sym e ∙ other.0 in cc) ]

chosen : (a b c d : Bool) (version : Version) → (if a && b then Some V1 else if c && d then Some V097 else None) ≡ Some version
    → ((a ≡ true) × (b ≡ true) × (version ≡ V1)) ⊎ ((c ≡ true) × (d ≡ true) × (version ≡ V097))
chosen true true c d version e = inl (refl, refl, cc)
chosen true false true true version e = inr (refl, refl, cc)
chosen true false true false version e = absurd (let none : None ≡ Some version = e in cc)
chosen true false false d version e = absurd (let none : None ≡ Some version = e in cc)
chosen false b true true version e = inr (refl, refl, cc)
chosen false b true false version e = absurd (let none : None ≡ Some version = e in cc)
chosen false b false d version e = absurd (let none : None ≡ Some version = e in cc)

-- the numbers are those of a known version
abbrev AreOf : ℕ → ℕ → Version → Type 0
AreOf major minor version = ((major ≡ 1) × (minor ≡ 0) × (version ≡ V1)) ⊎ ((major ≡ 0) × (minor ≡ 97) × (version ≡ V097))

are_of : (declaration : Declaration) (version : Version) → version_of declaration ≡ Some version → AreOf declaration.major declaration.minor version
are_of d version e = elim (chosen (d.major == 1) (d.minor == 0) (d.major == 0) (d.minor == 97) version e) [
  | inl k ↦ inl (same_number d.major 1 k.0, same_number d.minor 0 k.1, k.2)
  | inr k ↦ inr (same_number d.major 0 k.0, same_number d.minor 97 k.1, k.2)
]

abbrev numbered : List ℕ → List ℕ → List ℕ → List ℕ
numbered major minor rest = (version_label ++ major ++ codes "." ++ minor) ++ rest

version_begins : (major minor : ℕ) (rest : List ℕ) (version : Version) → AreOf major minor version → version ≡ declared_version (declaring major minor rest)
unfolding digits
version_begins major minor rest version known = elim known [
  | inl k ↦ k.2 ∙ written (codes "1") (codes "0") (sym (ap decimal k.0)) (sym (ap decimal k.1))
  | inr k ↦ k.2 ∙ written (codes "0") (codes "97") (sym (ap decimal k.0)) (sym (ap decimal k.1))
]
  where
    written : (before after : List ℕ) → before ≡ decimal major → after ≡ decimal minor → declared_version (numbered before after rest) ≡ declared_version (declaring major minor rest)
    written before after e f =
        ap (λ text. declared_version (numbered text after rest)) e ∙ ap (λ text. declared_version (numbered (decimal major) text rest)) f

pub begins_with_version : (octets : List ℕ) (declaration : Declaration) (version : Version) → IsDeclaration octets declaration → version_of declaration ≡ Some version → version ≡ declared_version octets
begins_with_version octets declaration version h known =
    let o = octets_are octets declaration h in
    version_begins declaration.major declaration.minor o.0 version (are_of declaration version known) ∙ ap declared_version (sym o.1)
