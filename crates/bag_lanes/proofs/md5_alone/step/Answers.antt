use Rattle.std.proofs.Common.{refl, ◌∙◌}
use Rattle.md5.proofs.Rounds.{rounds_step}
use Rattle.bag_lanes.proofs.md5_alone.step.Goals as goal

pub returns : goal.returns
returns c = λ h held.
    c.round.ensures
    ∙ rounds_step h c.args.w.now c.args.v c.args.t _ _ _ _ held c.mixed.ensures refl (rw (← c.place.ensures.place) refl) refl
