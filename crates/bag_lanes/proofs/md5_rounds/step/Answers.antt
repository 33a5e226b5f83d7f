use Rattle.std.proofs.Common.{refl, sym, ◌∙◌}
use Rattle.md5.proofs.Rounds.{rounds_step}
use Rattle.bag_lanes.specs.Lanes.{lane}
use Rattle.bag_lanes.proofs.Vectors.{lane_at}
use Rattle.bag_lanes.proofs.md5_rounds.step.Goals as goal

pub returns : goal.returns
returns c = λ i l h held.
    let v = c.args.v in
    let w = c.args.w.now in
    c.round.ensures i l
    ∙ rounds_step h (lane i w) (lane i v) c.args.t _ _ _ _ held
    (rw (lane_at i 1 v, lane_at i 2 v, lane_at i 3 v) (c.mixed.ensures i l)) refl
    (rw (← c.place.ensures.place) (sym (lane_at i c.place.result w))) refl
