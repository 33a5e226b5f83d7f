use Rattle.std.proofs.Common.{◌<◌, ◌^◌, ◌++◌, ℕ, List, codes, ◌∷◌, [], refl, arith, rules}
use Rattle.std.specs.List.{AllByRecursion}
use Rattle.bag_tags.specs.Numerals.{IsNumeral}
use Rattle.bag_tags.specs.Oxums.{OxumText}
use Rattle.bag_tags.specs.Words.{IsBlank}
use Rattle.bag_tags.proofs.examples.oxums_are_two_numbers_and_a_dot.Goals as goal

-- an oxum of these parts
parts : (front before after back : List ℕ) (octets streams : ℕ) → AllByRecursion IsBlank front → AllByRecursion IsBlank back → IsNumeral before octets → octets < 2 ^ 64 → IsNumeral after streams → streams < 2 ^ 64 → OxumText (front ++ before ++ codes "." ++ after ++ back) octets streams
parts front before after back octets streams f b n p m q =
    record { front = front; before_dot = before; after_dot = after; back = back; whole = refl; front_blank = f; octets_are = n; octets_fit = p; streams_are = m; streams_fit = q; back_blank = b }

pub returns : goal.returns
returns c = (
  parts (codes " ") (codes "3") (codes "2") (9 ∷ []) 3 2 (refl, tt) (refl, tt) (record { some = λ e. cc; digits = search rules; value_is = refl }) (omega arith) (record { some = λ e. cc; digits = search rules; value_is = refl }) (omega arith),
  parts [] (codes "007") (codes "02") [] 7 2 tt tt (record { some = λ e. cc; digits = search rules; value_is = refl }) (omega arith) (record { some = λ e. cc; digits = search rules; value_is = refl }) (omega arith),
  parts [] (codes "18446744073709551615") (codes "0") [] 18446744073709551615 0 tt tt (record { some = λ e. cc; digits = search rules; value_is = refl }) (omega arith) (record { some = λ e. cc; digits = search rules; value_is = refl }) (omega arith),
)
