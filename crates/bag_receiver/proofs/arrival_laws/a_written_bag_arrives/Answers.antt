use Rattle.std.proofs.Common.{map}
use Rattle.bag_receiver.proofs.ArrivalLemmas.{arrives, delivered_in, one_of}
use Rattle.bag_receiver.proofs.Words.{Answered}
use Rattle.bag_receiver.proofs.arrival_laws.a_written_bag_arrives.Goals as goal
use Rattle.bag_writer.specs.WrittenBags.{tag_files}

pub returns : goal.returns
returns c spec payload deliveries now name fits within happened one given =
    arrives spec payload fits within (map Answered deliveries) now name happened (one_of (tag_files spec payload) deliveries one) (delivered_in payload deliveries given)
