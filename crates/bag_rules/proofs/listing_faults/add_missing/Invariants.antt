use Rattle.std.proofs.Common.{take}
use Rattle.bag_rules.proofs.Words.{Adds, IsMissingBy, paths_in}
use Rattle.bag_rules.specs.FilesInside.{OfSome}
use Rattle.bag_rules.proofs.listing_faults.add_missing.Given as goal

abbrev pub invariant-loop-manifest : goal.invariant-loop-manifest
invariant-loop-manifest g l = Adds l.fn.faults.items l.faults.items (OfSome (take l.manifest-index l.manifests) (λ manifest. IsMissingBy (paths_in (g.T.Paths.shown l.tree)) manifest))
