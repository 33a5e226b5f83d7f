use Rattle.bag_receiver.proofs.ReceivingLemmas.{history_stays}
use Rattle.bag_receiver.proofs.laws.deliveries_are_no_event_of_another_transfer.Goals as goal

pub returns : goal.returns
returns c = λ name other old new tags events leaves apart. history_stays name other old new leaves apart tags events
