-- Numerals are what `parse` reads if it is given only digits.
use Rattle.std.proofs.Common.{◌≡◌, ◌≢◌, ◌<◌, ◌≤◌, ◌^◌, ◌==◌, false, ℕ, rules, List, [], ◌∷◌, length, Some, None, Result, Ok, Err, MatchOption, refl, sym, subst, arith}
use Rattle.std.specs.Char.{IsAsciiDigit}
use Rattle.std.specs.List.{AllByRecursion}
use Rattle.std.specs.Result.{OkIff, MatchResult, result_ok}
use Rattle.std.specs.Str.{IsUtf8}
use Rattle.std.specs.Str.Parse.{digits_value}
use Rattle.std.proofs.lemmas.Str.{IsUtf8-from_ascii}
use Rattle.std.proofs.lemmas.Fmt.{IsAscii-from_digits}
use Rattle.std.proofs.lemmas.Str.Parse.{IsNumeralModel, numerals_by_value, digits_value_short}
use Rattle.bag_tags.specs.Numerals.{IsNumeral}

pub digits_model : IsNumeralModel (AllByRecursion IsAsciiDigit) (digits_value 10)
digits_model = numerals_by_value (AllByRecursion IsAsciiDigit) (search rules)

pub digits_utf8 : (text : List ℕ) → AllByRecursion IsAsciiDigit text → IsUtf8 text
digits_utf8 text h = IsUtf8-from_ascii text (IsAscii-from_digits text (digits_model.to text h))

-- what holds if `ok()` gave something, and if it gave nothing
pub ok_some : {A E : Type 0} (P : A → Type 0) (Q : E → Type 0) (r : Result A E) (x : A) → MatchResult r P Q → Some x ≡ result_ok r → P x
ok_some P Q (Ok y) x h e = let k : y ≡ x = cc in subst P k h
ok_some P Q (Err y) x h e = cc

pub ok_none : {A E : Type 0} (P : A → Type 0) (Q : E → Type 0) (r : Result A E) → MatchResult r P Q → None ≡ result_ok r → (e : E) × Q e
ok_none P Q (Ok y) h e = cc
ok_none P Q (Err y) h e = (y, h)

pub some_length : (text : List ℕ) → text ≢ [] → 0 < length text
some_length [] some = absurd (some refl)
some_length (x ∷ text) some = omega arith

-- the value that `parse` returned
pub number_read : {E : Type 0} (text : List ℕ) (r : Result ℕ E) → text ≢ [] → AllByRecursion IsAsciiDigit text → OkIff r ((0 < length text) × (digits_value 10 text < 2 ^ 64)) (digits_value 10 text) → MatchOption (result_ok r) ((n : ℕ) → IsNumeral text n → n < 2 ^ 64 → ⊥) (λ n. IsNumeral text n)
number_read text (Ok n) some digits h = record { some = some; digits = digits; value_is = h.1 }
number_read text (Err e) some digits h = λ n m below. h (some_length text some, subst (λ v. v < 2 ^ 64) m.value_is below)

pub not_empty : (text : List ℕ) → (length text == 0) ≡ false → text ≢ []
not_empty text h e = let k : (length {A = ℕ} [] == 0) ≡ false = subst (λ t. (length t == 0) ≡ false) e h in cc

pub nine_digits : (text : List ℕ) (n : ℕ) → IsNumeral text n → length text ≤ 9 → n < 1000000000
nine_digits text n h short = subst (λ v. v < 10 ^ 9) (sym h.value_is) (digits_value_short digits_model text 9 h.digits short)
