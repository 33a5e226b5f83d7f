use Rattle.bag_writer.proofs.FilledLemmas.{filled_valid, filled_without}
use Rattle.bag_writer.proofs.laws.a_written_bag_without_holes_is_valid.Goals as goal

pub returns : goal.returns
returns c spec payload bag fits none written = filled_valid spec payload fits bag (filled_without spec payload bag written none)
