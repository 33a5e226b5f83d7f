use Rattle.bag_receiver.proofs.TwoDelivered.{another_accepted, another_held, one_accepted, one_held}
use Rattle.bag_receiver.proofs.examples.what_is_held_after_two_runs_is_the_same.Goals as goal

pub returns : goal.returns
returns c = (one_held, another_held, one_accepted, another_accepted)
