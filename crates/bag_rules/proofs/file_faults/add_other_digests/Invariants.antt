use Rattle.std.proofs.Common.{take}
use Rattle.bag_rules.proofs.Words.{Adds, IsOtherDigest, OfSome}
use Rattle.bag_rules.proofs.file_faults.add_other_digests.Given as goal

abbrev pub invariant-loop-manifest : goal.invariant-loop-manifest
invariant-loop-manifest l = Adds l.fn.faults.items l.faults.items (OfSome (take l.manifest-index l.manifest-items) (IsOtherDigest l.want.path.now l.digests))
