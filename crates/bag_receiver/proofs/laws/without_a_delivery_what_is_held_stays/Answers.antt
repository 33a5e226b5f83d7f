use Rattle.bag_receiver.proofs.HeldLemmas.{held_none}
use Rattle.bag_receiver.proofs.laws.without_a_delivery_what_is_held_stays.Goals as goal

pub returns : goal.returns
returns c = held_none
