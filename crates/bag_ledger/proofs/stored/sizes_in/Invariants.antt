use Rattle.std.proofs.Common.{◌≡◌, map}
use Rattle.bag_ledger.proofs.StoredLemmas.{size_shown}
use Rattle.bag_ledger.proofs.stored.sizes_in.Given as goal

abbrev pub invariant-loop-path : goal.invariant-loop-path
invariant-loop-path l = l.sizes.items ≡ map (λ item. size_shown (item.0.now, item.1.now)) l.yielded
