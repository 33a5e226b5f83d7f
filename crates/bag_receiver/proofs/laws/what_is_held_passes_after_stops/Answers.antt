use Rattle.bag_receiver.proofs.StepLemmas.{steps_pass}
use Rattle.bag_receiver.proofs.laws.what_is_held_passes_after_stops.Goals as goal

pub returns : goal.returns
returns c = steps_pass
