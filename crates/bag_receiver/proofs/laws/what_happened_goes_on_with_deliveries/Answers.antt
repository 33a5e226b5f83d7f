use Rattle.bag_receiver.proofs.ReceivingLemmas.{history_goes_on}
use Rattle.bag_receiver.proofs.laws.what_happened_goes_on_with_deliveries.Goals as goal

pub returns : goal.returns
returns c = λ name deliveries old new tags events receives. history_goes_on name deliveries old new receives tags events
