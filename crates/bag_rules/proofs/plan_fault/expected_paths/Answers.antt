use Rattle.std.specs.Cmp.Lexicographic.{texts_ties}
use Rattle.bag_rules.proofs.Words.{bytes_eq-Decides, Contains-dedup, Contains-from_dedup, Contains-permutation, dedup_is, IsPermutation-sym, IsStrictlySortedBy-dedup, nat_list_cmp_total, nat_list_eq_equiv}
use Rattle.bag_rules.proofs.HasLemmas.{contains_from_has, has_from_contains}
use Rattle.bag_rules.proofs.plan_fault.expected_paths.Goals as goal

pub returns-clause-rising : goal.returns-clause-rising
returns-clause-rising c = rw (dedup_is _ _ _ c.dedup.ensures.filtered) (IsStrictlySortedBy-dedup nat_list_cmp_total (λ x y. texts_ties x y) _ c.sort_unstable.ensures.sorted)

pub returns-clause-exact : goal.returns-clause-exact
returns-clause-exact c path =
    let is = dedup_is _ _ _ c.dedup.ensures.filtered in
    let moved = c.sort_unstable.ensures.permutation in
    let moved_back = IsPermutation-sym _ _ moved in
    let listed = c.in_ok-paths.ensures path in (
      λ found. listed.0 (has_from_contains _ path (Contains-permutation _ _ path moved_back (Contains-from_dedup _ _ path (rw is at found)))),
      λ by. rw is (Contains-dedup nat_list_eq_equiv (λ x y same. (bytes_eq-Decides x y).0 same) _ path (Contains-permutation _ _ path moved (contains_from_has _ path (listed.1 by)))),
    )
