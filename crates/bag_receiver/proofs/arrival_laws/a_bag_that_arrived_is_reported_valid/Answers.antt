use Rattle.bag_receiver.proofs.ArrivalLemmas.{held_valid}
use Rattle.bag_receiver.proofs.arrival_laws.a_bag_that_arrived_is_reported_valid.Goals as goal

pub returns : goal.returns
returns c spec payload report fits within is = is.means.0.0 (held_valid spec payload fits within)
