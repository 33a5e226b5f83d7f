use Rattle.bag_path.proofs.Version097Lemmas.{spells_some}
use Rattle.bag_path.proofs.laws.every_text_spells_octets_in_version_0_97.Goals as goal

pub returns : goal.returns
returns c = spells_some
