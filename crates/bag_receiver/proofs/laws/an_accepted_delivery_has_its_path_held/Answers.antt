use Rattle.bag_receiver.proofs.StepLemmas.{steps_hold}
use Rattle.bag_receiver.proofs.laws.an_accepted_delivery_has_its_path_held.Goals as goal

pub returns : goal.returns
returns c = steps_hold
