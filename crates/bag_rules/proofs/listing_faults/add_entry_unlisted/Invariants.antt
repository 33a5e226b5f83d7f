use Rattle.std.proofs.Common.{take}
use Rattle.bag_digest.specs.declared.algorithm.TheConstants.Alg.{ALL}
use Rattle.bag_rules.proofs.Words.{Adds, FetchNotListed, OfSome}
use Rattle.bag_rules.proofs.UnlistedLemmas.{IsTold}
use Rattle.bag_rules.proofs.listing_faults.add_entry_unlisted.Given as goal

abbrev pub invariant-loop-manifest : goal.invariant-loop-manifest
invariant-loop-manifest l = Adds l.fn.faults.items l.faults.items (OfSome (take l.manifest-index ALL) (IsTold l.unlisted (λ alg. FetchNotListed alg l.path)))
