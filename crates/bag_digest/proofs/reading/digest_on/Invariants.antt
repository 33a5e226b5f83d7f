use Rattle.std.proofs.Common.{◌+◌, ◌-◌, ℕ, List, ◌++◌}
use Rattle.bag_digest.specs.Failures.{UsesSource}
use Rattle.bag_digest.specs.declared.algorithm.AlgSet.{AlgSet}
use Rattle.bag_digest.specs.Hash.{Holds}
use Rattle.bag_digest.proofs.Progress.{HasGiven}
use Rattle.bag_digest.proofs.reading.digest_on.Given as goal

abbrev pub invariant-pieces : goal.invariant-pieces
invariant-pieces g l =
    let source = g.S.Source in
    record {
      hashed : (octets : List ℕ) × HasGiven (source.remaining l.fn.reader) (source.remaining l.reader) l.total l.limit octets × ((set : AlgSet) (before : List ℕ) → Holds l.fn.multi set before → Holds l.multi set (before ++ octets));
      used : UsesSource source.failures source.ready source.keeps l.fn.reader l.reader ⊥;
    }

abbrev pub decreases-pieces : goal.decreases-pieces
decreases-pieces g l = l.limit + 1 - l.total
