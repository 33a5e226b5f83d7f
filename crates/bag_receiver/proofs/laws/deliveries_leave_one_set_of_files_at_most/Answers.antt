use Rattle.bag_receiver.proofs.HeldLemmas.{held_one}
use Rattle.bag_receiver.proofs.laws.deliveries_leave_one_set_of_files_at_most.Goals as goal

pub returns : goal.returns
returns c old a b deliveries = held_one old deliveries a b
