use Rattle.std.proofs.Common.{take}
use Rattle.bag_rules.proofs.Words.{Adds, IsFileUnlisted, OfSome}
use Rattle.bag_rules.proofs.plan_fault.add_unlisted_paths.Given as goal

abbrev pub invariant-loop-path : goal.invariant-loop-path
invariant-loop-path l = Adds l.fn.faults.items l.faults.items (OfSome (take l.path-index l.paths) (IsFileUnlisted l.version l.manifests))
