use Rattle.std.proofs.Common.{◌≡◌, ◌-◌, length, take}
use Rattle.bag_digest.specs.Failures.{UsesSource}
use Rattle.bag_digest.proofs.Progress.{HasGiven}
use Rattle.bag_digest.proofs.reading.fill.Given as goal

abbrev pub invariant-loop-filled : goal.invariant-loop-filled
invariant-loop-filled g l =
    let source = g.S.Source in
    record {
      given : HasGiven (source.remaining l.fn.reader) (source.remaining l.reader) l.filled l.left (take l.filled l.buffer);
      used : UsesSource source.failures source.ready source.keeps l.fn.reader l.reader ⊥;
      same_room : length l.buffer ≡ length l.fn.buffer;
    }

abbrev pub decreases-loop-filled : goal.decreases-loop-filled
decreases-loop-filled g l = length l.buffer - l.filled
