use Rattle.std.proofs.Common.{take}
use Rattle.bag_rules.proofs.Words.{Adds, IsPairMissing, Pair, paths_in}
use Rattle.bag_rules.specs.FilesInside.{OfSome}
use Rattle.bag_rules.proofs.listing_faults.add_missing_by.Given as goal

abbrev pub invariant-loop-pair : goal.invariant-loop-pair
invariant-loop-pair g l = Adds l.fn.faults.items l.faults.items (OfSome (take l.pair-index l.pair-items) (λ (pair : Pair). IsPairMissing (paths_in (g.T.Paths.shown l.tree)) l.name pair.path))
