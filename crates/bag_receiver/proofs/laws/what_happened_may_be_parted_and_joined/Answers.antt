use Rattle.bag_receiver.proofs.StepLemmas.{steps_joined, steps_parted}
use Rattle.bag_receiver.proofs.laws.what_happened_may_be_parted_and_joined.Goals as goal

pub returns : goal.returns
returns c tags events others old new = (steps_parted tags events others old new, λ h. steps_joined tags events others old h.0 new h.1 h.2)
