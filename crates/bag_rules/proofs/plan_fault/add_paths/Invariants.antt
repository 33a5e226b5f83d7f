use Rattle.std.proofs.Common.{◌≡◌, ◌++◌, map, take}
use Rattle.bag_rules.proofs.Words.{Pair}
use Rattle.bag_rules.proofs.plan_fault.add_paths.Given as goal

abbrev pub invariant-loop-pair : goal.invariant-loop-pair
invariant-loop-pair l = l.paths.items ≡ l.fn.paths.items ++ map (λ (pair : Pair). pair.path) (take l.pair-index l.pairs)
