use Rattle.bag_receiver.proofs.HeldLemmas.{held_more}
use Rattle.bag_receiver.proofs.laws.an_accepted_delivery_adds_one_file.Goals as goal

pub returns : goal.returns
returns c = held_more
