use Rattle.std.proofs.Common.{◌+◌, ◌-◌}
use Rattle.bag_digest.specs.Failures.{UsesSource}
use Rattle.bag_digest.proofs.Progress.{HasGiven}
use Rattle.bag_digest.proofs.reading.read_to_end_within.Given as goal

abbrev pub invariant-pieces : goal.invariant-pieces
invariant-pieces g l =
    let source = g.S.Source in
    record {
      given : HasGiven (source.remaining l.fn.reader) (source.remaining l.reader) l.total l.limit l.body.items;
      used : UsesSource source.failures source.ready source.keeps l.fn.reader l.reader ⊥;
    }

abbrev pub decreases-pieces : goal.decreases-pieces
decreases-pieces g l = l.limit + 1 - l.total
