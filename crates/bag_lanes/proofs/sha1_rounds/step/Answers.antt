use Rattle.std.proofs.Common.{sym, arith}
use Rattle.bag_lanes.specs.Lanes.{lane}
use Rattle.bag_lanes.proofs.Vectors.{lane_at}
use Rattle.bag_lanes.proofs.Sha1Rounds.{sha1_first, sha1_later}
use Rattle.bag_lanes.proofs.sha1_rounds.step.Goals as goal

pub returns-then-t-lt16 : goal.returns-then-t-lt16
returns-then-t-lt16 c = λ i l b h held.
    let v = c.args.v in
    let w = c.args.w.now in
    sha1_first b h (lane i w) (lane i v) c.args.t _ _ _ _ (omega arith) held
    (rw (lane_at i 1 v, lane_at i 2 v, lane_at i 3 v) (c.mixed-f.ensures i l)) c.constant-k.ensures (sym (lane_at i c.args.t w))
    (c.round.ensures i l)

pub returns : goal.returns
returns c = λ i l b h held.
    let v = c.args.v in
    let word = c.next_word-word.ensures in
    sha1_later b h (lane i c.args.w.now) (lane i v) c.args.t _ _ _ _ _ (omega arith) (omega arith) held
    (word.value i l) (word.kept i)
    (rw (lane_at i 1 v, lane_at i 2 v, lane_at i 3 v) (c.mixed-f.ensures i l)) c.constant-k.ensures
    (c.round-2.ensures i l)
