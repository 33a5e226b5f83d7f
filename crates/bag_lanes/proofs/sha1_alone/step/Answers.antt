use Rattle.std.proofs.Common.{refl, arith}
use Rattle.bag_lanes.proofs.Sha1Rounds.{sha1_first, sha1_later}
use Rattle.bag_lanes.proofs.sha1_alone.step.Goals as goal

pub returns-then-t-lt16 : goal.returns-then-t-lt16
returns-then-t-lt16 c = λ b h held.
    sha1_first b h c.args.w.now c.args.v c.args.t _ _ _ _ (omega arith) held c.mixed-f.ensures c.constant-k.ensures refl c.round.ensures

pub returns : goal.returns
returns c = λ b h held.
    let word = c.next_word-word.ensures in
    sha1_later b h c.args.w.now c.args.v c.args.t _ _ _ _ _ (omega arith) (omega arith) held word.value word.kept c.mixed-f.ensures c.constant-k.ensures c.round-2.ensures
