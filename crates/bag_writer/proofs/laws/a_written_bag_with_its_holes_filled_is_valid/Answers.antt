use Rattle.bag_writer.proofs.FilledLemmas.{filled_valid}
use Rattle.bag_writer.proofs.laws.a_written_bag_with_its_holes_filled_is_valid.Goals as goal

pub returns : goal.returns
returns c spec payload bag fits filled = filled_valid spec payload fits bag filled
