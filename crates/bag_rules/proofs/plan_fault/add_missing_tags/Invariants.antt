use Rattle.std.proofs.Common.{take}
use Rattle.bag_rules.specs.OpeningInside.{IsTagMissing}
use Rattle.bag_rules.proofs.Words.{Adds, OfSome, paths_in}
use Rattle.bag_rules.proofs.plan_fault.add_missing_tags.Given as goal

abbrev pub invariant-loop-manifest : goal.invariant-loop-manifest
invariant-loop-manifest g l = Adds l.fn.faults.items l.faults.items (OfSome (take l.manifest-index l.manifests) (IsTagMissing (paths_in (g.T.Paths.shown l.tags))))
