-- The order of faults goes by their numbers first.
use native.Mathlib.Omega.{arith}
use Rattle.std.proofs.Common.{◌≡◌, ◌≤◌, List, inl, inr, ap}
use Rattle.bag_rules.proofs.Words.{AreInOrder, eq-or-lt_of_le, Fault, IsNonDecreasingBy, Less, Less-from_sorted, NoDeclaration, number_of, slice_index_or}
use Rattle.bag_rules.specs.contracts.fault.FaultOrd.TheImpl as order

pub by_number : (x y : Fault) → order.ghosts.cmp x y ≡ Less → number_of x ≤ number_of y
by_number NoDeclaration _ h = grind arith
by_number _ _ h = grind arith

pub numbers_rise : (faults : List Fault) → AreInOrder faults → IsNonDecreasingBy number_of faults
numbers_rise faults sorted i j d upto below = elim (eq-or-lt_of_le upto) [
  | inl same ↦ omega (arith, ap (λ k. number_of (slice_index_or faults k d)) same)
  | inr before ↦ by_number _ _ (Less-from_sorted order.ghosts.cmp faults i j d sorted before below)
]
