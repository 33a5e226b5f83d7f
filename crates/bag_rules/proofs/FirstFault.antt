-- The first of some faults.
use Rattle.std.proofs.Common.{◌≡◌, ◌≢◌, ◌<◌, ℕ, true, false, List, [], ◌∷◌, Option, Some, None, MatchOption, IfSome, length, get_or, sym, ap, ◌∙◌, subst, refl, arith}
use Rattle.std.specs.Prelude.{IsSomeAnd}
use Rattle.bag_rules.specs.contracts.fault.FaultOrd.TheImpl as order
use Rattle.bag_rules.specs.contracts.fault.FaultOrd.TheImpl.Laws as laws
use Rattle.bag_rules.specs.Opening.{IsFirst}
use Rattle.bag_rules.proofs.Words.{Fault, Greater, Has, is_lt, Less, option_map, ordering_reverse}
use Rattle.bag_rules.proofs.HasLemmas.{contains_from_has, has_from_contains}

item_is : (o : Option Fault) (fault : Fault) → option_map (λ (f : Fault). f) o ≡ Some fault → o ≡ Some fault
item_is None fault e = cc
item_is (Some own) fault e = e

not_less : (x y : Fault) → is_lt (order.ghosts.cmp x y) ≡ false → order.ghosts.cmp y x ≢ Greater
not_less x y below e =
    let less : order.ghosts.cmp x y ≡ Less = laws.lawful.total.antisymm x y ∙ ap ordering_reverse e in
    let k : true ≡ false = sym (ap is_lt less) ∙ below in
    cc

empty : (faults : List Fault) → length faults ≡ 0 → faults ≡ []
empty [] n = refl
empty (fault ∷ faults) n = absurd (omega (arith, n))

-- the least of the items is the first fault
pub first_picked : (r : Option Fault) (n : ℕ) (item : ℕ → Option Fault) (faults : List Fault) → n ≡ length faults → ((k : ℕ) (d : Fault) → k < n → option_map (λ (f : Fault). f) (item k) ≡ Some (get_or faults k d))
    → MatchOption r (n ≡ 0) (λ m. ((k : ℕ) × (k < n) × IsSomeAnd (item k) (λ x. x ≡ m)) × ((k : ℕ) → IfSome (item k) (λ x. is_lt (order.ghosts.cmp x m) ≡ false)))
    → MatchOption r (faults ≡ []) (IsFirst order.ghosts.cmp (Has faults))
first_picked None n item faults all items none = empty faults (sym all ∙ none)
first_picked (Some m) n item faults all items picked = record {
  has =
      let k = picked.0.0 in
      let here = item_is (item k) (get_or faults k m) (items k m picked.0.1) in
      has_from_contains faults m (k, omega (arith, all, picked.0.1), subst (λ o. IsSomeAnd o (λ x. x ≡ m)) here picked.0.2);
  first = λ other has.
      let place = contains_from_has faults other has in
      let here : item place.0 ≡ Some other = item_is (item place.0) (get_or faults place.0 other) (items place.0 other (omega (arith, all, place.1))) ∙ ap Some place.2 in
      not_less other m (subst (λ o. IfSome o (λ x. is_lt (order.ghosts.cmp x m) ≡ false)) here (picked.1 place.0));
}
