use Rattle.std.proofs.Common.{take}
use Rattle.bag_digest.specs.declared.algorithm.TheConstants.Alg.{ALL}
use Rattle.bag_rules.proofs.Words.{Adds, OfSome, Unlisted}
use Rattle.bag_rules.proofs.UnlistedLemmas.{IsTold}
use Rattle.bag_rules.proofs.file_faults.add_unlisted.Given as goal

abbrev pub invariant-loop-manifest : goal.invariant-loop-manifest
invariant-loop-manifest l = Adds l.fn.faults.items l.faults.items (OfSome (take l.manifest-index ALL) (IsTold l.unlisted (λ alg. Unlisted alg l.path)))
