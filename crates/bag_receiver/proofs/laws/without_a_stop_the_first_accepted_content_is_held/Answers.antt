use Rattle.bag_receiver.proofs.StepLemmas.{answered_held}
use Rattle.bag_receiver.proofs.laws.without_a_stop_the_first_accepted_content_is_held.Goals as goal

pub returns : goal.returns
returns c = answered_held
