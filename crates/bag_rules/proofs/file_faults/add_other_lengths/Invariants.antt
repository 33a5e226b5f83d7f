use Rattle.std.proofs.Common.{take}
use Rattle.bag_rules.proofs.Words.{Adds, IsOtherLength, OfSome}
use Rattle.bag_rules.proofs.file_faults.add_other_lengths.Given as goal

abbrev pub invariant-loop-given : goal.invariant-loop-given
invariant-loop-given l = Adds l.fn.faults.items l.faults.items (OfSome (take l.given-index l.given-items) (IsOtherLength l.want.path.now l.found))
