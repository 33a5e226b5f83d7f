use Rattle.bag_receiver.proofs.TwoDelivered.{failure_accepted, failure_held}
use Rattle.bag_receiver.proofs.examples.a_failed_reader_leaves_nothing.Goals as goal

pub returns : goal.returns
returns c = (failure_held, failure_accepted)
