use Rattle.bag_rules.proofs.Words.{Contains-dedup, Contains-from_dedup, Contains-permutation, dedup_is, IsPermutation-sym, IsStrictlySortedBy-dedup}
use Rattle.bag_rules.specs.contracts.fault.FaultEq.TheImpl.Laws as equality
use Rattle.bag_rules.specs.contracts.fault.FaultOrd.TheImpl.Laws as order
use Rattle.bag_rules.proofs.FaultLemmas.{fault_same}
use Rattle.bag_rules.proofs.HasLemmas.{contains_from_has, has_from_contains}
use Rattle.bag_rules.proofs.report.Report.new.Goals as goal

pub invariant_of-result : goal.invariant_of-result
invariant_of-result c = rw (dedup_is _ _ _ c.dedup.ensures.filtered) (IsStrictlySortedBy-dedup order.lawful.total order.lawful.matches_eq _ c.sort_unstable.ensures.sorted)

pub returns-clause-same : goal.returns-clause-same
returns-clause-same c fault =
    let is = dedup_is _ _ _ c.dedup.ensures.filtered in
    let moved = c.sort_unstable.ensures.permutation in
    let moved_back = IsPermutation-sym _ _ moved in (
      λ has. has_from_contains _ fault (Contains-permutation _ _ fault moved_back (Contains-from_dedup _ _ fault (rw is at (contains_from_has _ fault has)))),
      λ has. has_from_contains _ fault (rw is (Contains-dedup equality.lawful.laws fault_same _ fault (Contains-permutation _ _ fault moved (contains_from_has _ fault has)))),
    )

pub returns-clause-in_order : goal.returns-clause-in_order
returns-clause-in_order c = rw (dedup_is _ _ _ c.dedup.ensures.filtered) (IsStrictlySortedBy-dedup order.lawful.total order.lawful.matches_eq _ c.sort_unstable.ensures.sorted)
