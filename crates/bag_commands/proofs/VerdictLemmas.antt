-- The verdict on a list of faults.
use Rattle.std.proofs.Common.{◌≡◌, ◌≢◌, ◌<◌, ◌⊎◌, ◌↔◌, refl, ap, arith, inl, inr, ℕ, Bool, List, [], ◌∷◌, Result, Ok, Err, IfOk, nat_lt, codes, IsTrue}
use Rattle.std.specs.Prelude.{if◌then◌else◌}
use Rattle.std.specs.Bool.{Decides}
use Rattle.std.specs.List.{All}
use Rattle.std.proofs.lemmas.Bool.Decides.{Decides-by_and, Decides-ltb, same_from_decides}
use Rattle.std.proofs.lemmas.List.Elements.{All-from_recursion, recursion_from_All}
use Rattle.bag_rules.specs.declared.fault.Fault.{Fault}
use Rattle.bag_rules.specs.Faults.{last_of_completeness, number_of, NoneUpTo}
use Rattle.bag_rules.specs.declared.outcome.CheckFault.{CheckFault}
use Rattle.bag_rules.specs.declared.outcome.Outcome.{Outcome}
use Rattle.bag_rules.specs.declared.outcome.Outcome.TheVariants.{Judged, Outside}
use Rattle.bag_rules.specs.Bags.{Bag, IsSomeBagOf}
use Rattle.bag_rules.specs.Checking.{IsVerdictOnSome}
use Rattle.bag_rules.specs.Trees.{Shown}
use Rattle.bag_rules.specs.Validity.{IsValid, Means}
use Rattle.bag_commands.specs.CheckTexts.{check_status}
use Rattle.bag_commands.specs.VerdictTexts.{is_complete, verdict_text}

abbrev IsOfDigests : Fault → Type 0
IsOfDigests fault = last_of_completeness < number_of fault

decides_complete : (faults : List Fault) → Decides (is_complete faults) (All IsOfDigests faults)
decides_complete = Decides-by_and (λ fault. nat_lt last_of_completeness (number_of fault)) IsOfDigests is_complete (λ fault. Decides-ltb last_of_completeness (number_of fault)) refl (λ _ _. refl)

pub is_complete_is : (faults : List Fault) (b : Bool) → (IsTrue b ↔ NoneUpTo last_of_completeness faults) → b ≡ is_complete faults
is_complete_is faults b h =
    same_from_decides b (is_complete faults)
    (λ e. All-from_recursion IsOfDigests faults (h.0 e), λ all. h.1 (recursion_from_All IsOfDigests faults all))
    (decides_complete faults)

pub verdict_where : (faults : List Fault) (b : Bool) → faults ≢ [] → (IsTrue b ↔ NoneUpTo last_of_completeness faults)
    → (if b then codes "complete, not valid" else codes "not complete") ≡ verdict_text faults
verdict_where [] b ne h = absurd (ne refl)
verdict_where (fault ∷ faults) b ne h =
    ap (λ (t : Bool). if t then codes "complete, not valid" else codes "not complete") (is_complete_is (fault ∷ faults) b h)

-- status 0 means a valid bag
pub valid_if_0 : (bag : Bag) (answer : Result Outcome CheckFault) (status : ℕ) {P Q R : Type 0} → status ≡ 0 → ((P × (status ≡ 3)) ⊎ (Q × R × (status ≡ check_status answer))) → IfOk answer (Means bag) → IsValid bag
valid_if_0 bag (Ok (Judged [])) status zero printed means = means.0.1 refl
valid_if_0 bag (Ok (Judged (fault ∷ faults))) status zero (inl failed) means = absurd (omega (arith, zero, failed.1))
valid_if_0 bag (Ok (Judged (fault ∷ faults))) status zero (inr printed) means = absurd (omega (arith, zero, printed.2))
valid_if_0 bag (Ok (Outside cause)) status zero (inl failed) means = absurd (omega (arith, zero, failed.1))
valid_if_0 bag (Ok (Outside cause)) status zero (inr printed) means = absurd (omega (arith, zero, printed.2))
valid_if_0 bag (Err fault) status zero (inl failed) means = absurd (omega (arith, zero, failed.1))
valid_if_0 bag (Err fault) status zero (inr printed) means = absurd (omega (arith, zero, printed.2))

-- the same of some bag of a tree
pub some_valid_if_0 : (shown : Shown) (answer : Result Outcome CheckFault) (status : ℕ) {P Q R : Type 0} → status ≡ 0 → ((P × (status ≡ 3)) ⊎ (Q × R × (status ≡ check_status answer))) → IfOk answer (IsVerdictOnSome shown)
    → (bag : Bag) × IsSomeBagOf shown bag × IsValid bag
some_valid_if_0 shown (Ok outcome) status zero printed some = (some.bag, some.is_bag, valid_if_0 some.bag (Ok outcome) status zero printed some.meaning)
some_valid_if_0 shown (Err fault) status zero (inl failed) some = absurd (omega (arith, zero, failed.1))
some_valid_if_0 shown (Err fault) status zero (inr printed) some = absurd (omega (arith, zero, printed.2))
