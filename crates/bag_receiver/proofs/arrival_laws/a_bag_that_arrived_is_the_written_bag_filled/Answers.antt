use Rattle.bag_receiver.proofs.ArrivalLemmas.{held_filled, held_same, held_valid}
use Rattle.bag_receiver.proofs.arrival_laws.a_bag_that_arrived_is_the_written_bag_filled.Goals as goal

pub returns-clause-filled : goal.returns-clause-filled
returns-clause-filled c = held_filled

pub returns-clause-valid : goal.returns-clause-valid
returns-clause-valid c = held_valid

pub returns-clause-same : goal.returns-clause-same
returns-clause-same c spec payload bag fits within none written = held_same spec payload fits within bag none written
