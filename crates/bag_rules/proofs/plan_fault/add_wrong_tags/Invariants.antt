use Rattle.std.proofs.Common.{take}
use Rattle.bag_rules.specs.OpeningInside.{IsWrongFile}
use Rattle.bag_rules.proofs.Words.{Adds, OfSome}
use Rattle.bag_rules.proofs.plan_fault.add_wrong_tags.Given as goal

abbrev pub invariant-loop-file : goal.invariant-loop-file
invariant-loop-file l = Adds l.fn.faults.items l.faults.items (OfSome (take l.file-index l.tags) (IsWrongFile l.manifests))
