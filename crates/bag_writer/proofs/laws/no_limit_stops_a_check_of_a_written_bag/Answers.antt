use Rattle.bag_writer.proofs.LimitsMet.{no_limit}
use Rattle.bag_writer.proofs.laws.no_limit_stops_a_check_of_a_written_bag.Goals as goal

pub returns : goal.returns
returns c spec payload bag fault fits filled = no_limit spec payload fits bag filled fault
