use Rattle.bag_path.proofs.Version097Lemmas.{spells_on_a_line}
use Rattle.bag_path.proofs.laws.other_paths_have_a_spelling_on_one_line_in_version_0_97.Goals as goal

pub returns : goal.returns
returns c = spells_on_a_line
