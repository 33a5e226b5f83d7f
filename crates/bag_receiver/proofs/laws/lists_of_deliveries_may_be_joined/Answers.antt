use Rattle.bag_receiver.proofs.HeldLemmas.{held_joined}
use Rattle.bag_receiver.proofs.laws.lists_of_deliveries_may_be_joined.Goals as goal

pub returns : goal.returns
returns c = held_joined
