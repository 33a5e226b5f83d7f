use Rattle.bag_receiver.proofs.ArrivalLemmas.{arrives}
use Rattle.bag_receiver.proofs.arrival_laws.a_written_bag_arrives_whatever_stops.Goals as goal

pub returns : goal.returns
returns c spec payload events now name fits within happened one given = arrives spec payload fits within events now name happened one given
