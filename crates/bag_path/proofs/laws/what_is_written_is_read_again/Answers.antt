use Rattle.bag_path.proofs.SpellsLemmas.{written_again}
use Rattle.bag_path.proofs.laws.what_is_written_is_read_again.Goals as goal

pub returns : goal.returns
returns c = written_again
