use Rattle.std.proofs.Common.{refl, arith}
use Rattle.bag_lanes.proofs.Sha256Rounds.{sha256_first, sha256_later}
use Rattle.bag_lanes.proofs.sha256_alone.step.Goals as goal

pub returns-then-t-lt16 : goal.returns-then-t-lt16
returns-then-t-lt16 c = λ b h held.
    sha256_first b h c.args.w.now c.args.v c.args.t _ _ _ (omega arith) held refl refl c.round.ensures

pub returns : goal.returns
returns c = λ b h held.
    let word = c.next_word-word.ensures in
    sha256_later b h c.args.w.now c.args.v c.args.t _ _ _ _ (omega arith) (omega arith) held word.value word.kept refl c.round-2.ensures
