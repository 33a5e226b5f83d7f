use Rattle.bag_path.proofs.SpellsLemmas.{written_spells}
use Rattle.bag_path.proofs.laws.what_is_written_spells_its_path.Goals as goal

pub returns : goal.returns
returns c = written_spells
