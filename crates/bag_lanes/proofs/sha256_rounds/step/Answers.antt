use Rattle.std.proofs.Common.{refl, sym, arith}
use Rattle.bag_lanes.specs.Lanes.{lane}
use Rattle.bag_lanes.proofs.Vectors.{lane_at}
use Rattle.bag_lanes.proofs.Sha256Rounds.{sha256_first, sha256_later}
use Rattle.bag_lanes.proofs.sha256_rounds.step.Goals as goal

pub returns-then-t-lt16 : goal.returns-then-t-lt16
returns-then-t-lt16 c = λ i l b h held.
    sha256_first b h (lane i c.args.w.now) (lane i c.args.v) c.args.t _ _ _ (omega arith) held
    refl (sym (lane_at i c.args.t c.args.w.now)) (c.round.ensures i l)

pub returns : goal.returns
returns c = λ i l b h held.
    let word = c.next_word-word.ensures in
    sha256_later b h (lane i c.args.w.now) (lane i c.args.v) c.args.t _ _ _ _ (omega arith) (omega arith) held
    (word.value i l) (word.kept i) refl (c.round-2.ensures i l)
