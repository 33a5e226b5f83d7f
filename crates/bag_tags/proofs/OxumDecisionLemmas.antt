-- A text either is an oxum or isn't.
use Rattle.std.proofs.Common.{◌<◌, ◌^◌, ◌⊎◌, ℕ, List, [], ◌∷◌, take, drop, refl, subst, inl, inr}
use Rattle.std.specs.Char.{IsAsciiDigit}
use Rattle.std.specs.Str.{bytes_eq}
use Rattle.std.specs.Str.Parse.{digits_value}
use Rattle.std.proofs.lemmas.Bool.{cases_Bool}
use Rattle.bag_tags.specs.Numerals.{IsNumeral}
use Rattle.bag_tags.specs.Oxums.{OxumText}
use Rattle.bag_tags.specs.Words.{is_blank, is_blank_line}
use Rattle.bag_tags.specs.WordsReading.{until, is_not_blank, is_dot}
use Rattle.bag_tags.proofs.DecisionLemmas.{decided_some, decided_all, decided_digit, decided_below}
use Rattle.bag_tags.proofs.OxumLemmas.{IsCutOxum, cut_by, no_dot, no_back, no_octets, no_streams, oxum_read}

-- a text either is a numeral of a number below 2^64 or isn't
pub numeral_or_none : (text : List ℕ) → ((n : ℕ) × IsNumeral text n × (n < 2 ^ 64)) ⊎ ((n : ℕ) → IsNumeral text n → n < 2 ^ 64 → ⊥)
numeral_or_none text = elim (decided_some text) [
  | inr empty ↦ inr (λ n h below. empty h.some)
  | inl some ↦ elim (decided_all IsAsciiDigit decided_digit text) [
    | inr other ↦ inr (λ n h below. other h.digits)
    | inl digits ↦ elim (decided_below (digits_value 10 text) (2 ^ 64)) [
      | inr large ↦ inr (λ n h below. large (subst (λ v. v < 2 ^ 64) h.value_is below))
      | inl below ↦ inl (digits_value 10 text, record { some = some; digits = digits; value_is = refl }, below)
    ]
  ]
]

-- a text that is cut like an oxum
cut_or_none : (text before after back : List ℕ) → IsCutOxum text before after back → ((octets streams : ℕ) × OxumText text octets streams) ⊎ ((octets streams : ℕ) → ¬ OxumText text octets streams)
cut_or_none text before after back cut = elim (cases_Bool (is_blank_line back)) [
  | inr other ↦ inr (no_back text before after back cut other)
  | inl blank ↦ elim (numeral_or_none before) [
    | inr none ↦ inr (no_octets text before after back cut none)
    | inl n ↦ elim (numeral_or_none after) [
      | inr none ↦ inr (no_streams text before after back cut none)
      | inl m ↦ inl (n.0, m.0, oxum_read text before after back n.0 m.0 cut blank n.1 n.2 m.1 m.2)
    ]
  ]
]

pub oxum_or_none : (text : List ℕ) → ((octets streams : ℕ) × OxumText text octets streams) ⊎ ((octets streams : ℕ) → ¬ OxumText text octets streams)
oxum_or_none text =
    let start = until is_not_blank text in
    let dot = until is_dot start.1 in
    let end = until is_blank (drop 1 dot.1) in
    elim (cases_Bool (bytes_eq (take 1 dot.1) (46 ∷ []))) [
      | inr none ↦ inr (no_dot text start.0 start.1 dot.0 dot.1 refl refl none)
      | inl some ↦ cut_or_none text dot.0 end.0 end.1 (cut_by text start.0 start.1 dot.0 dot.1 (drop 1 dot.1) end.0 end.1 refl refl some refl refl)
    ]
