use Rattle.bag_path.proofs.Version097Lemmas.{spells_itself}
use Rattle.bag_path.proofs.laws.other_paths_spell_themselves_in_version_0_97.Goals as goal

pub returns : goal.returns
returns c = spells_itself
