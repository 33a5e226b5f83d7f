use Rattle.bag_receiver.proofs.StepLemmas.{steps_keep}
use Rattle.bag_receiver.proofs.laws.what_is_held_stays_held.Goals as goal

pub returns : goal.returns
returns c = steps_keep
