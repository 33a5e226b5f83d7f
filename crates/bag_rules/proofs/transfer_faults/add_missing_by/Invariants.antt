use Rattle.std.proofs.Common.{take}
use Rattle.bag_rules.specs.FilesInside.{OfSome}
use Rattle.bag_rules.specs.Plans.{item_paths}
use Rattle.bag_rules.proofs.Words.{Adds, AreRising, IsPairMissing, Pair}
use Rattle.bag_rules.proofs.transfer_faults.add_missing_by.Given as goal

abbrev pub invariant-loop-pair : goal.invariant-loop-pair
invariant-loop-pair l = AreRising (item_paths l.sizes) → Adds l.fn.faults.items l.faults.items (OfSome (take l.pair-index l.pair-items) (λ (pair : Pair). IsPairMissing (item_paths l.sizes) l.name pair.path))
