use Rattle.bag_path.proofs.WrittenLemmas.{written_plain}
use Rattle.bag_path.proofs.laws.what_is_written_has_no_line_end.Goals as goal

pub returns : goal.returns
returns c = written_plain
