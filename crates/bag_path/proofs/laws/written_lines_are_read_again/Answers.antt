use Rattle.bag_path.proofs.LinesLemmas.{lines_of-written_lines}
use Rattle.bag_path.proofs.laws.written_lines_are_read_again.Goals as goal

pub returns : goal.returns
returns c = lines_of-written_lines
