use Rattle.bag_receiver.proofs.ReceivingLemmas.{stop_settles}
use Rattle.bag_receiver.proofs.laws.a_stop_is_an_event_of_each_transfer.Goals as goal

pub returns : goal.returns
returns c = stop_settles
