use Rattle.bag_path.proofs.SpellsLemmas.{spells_exactly}
use Rattle.bag_path.proofs.laws.what_is_read_is_what_is_spelled.Goals as goal

pub returns : goal.returns
returns c = spells_exactly
