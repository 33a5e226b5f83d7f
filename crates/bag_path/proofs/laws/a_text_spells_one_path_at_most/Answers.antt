use Rattle.bag_path.proofs.SpellsLemmas.{one_path}
use Rattle.bag_path.proofs.laws.a_text_spells_one_path_at_most.Goals as goal

pub returns : goal.returns
returns c = one_path
