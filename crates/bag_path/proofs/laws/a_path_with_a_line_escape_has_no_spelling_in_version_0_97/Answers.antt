use Rattle.bag_path.proofs.Version097Lemmas.{no_spelling}
use Rattle.bag_path.proofs.laws.a_path_with_a_line_escape_has_no_spelling_in_version_0_97.Goals as goal

pub returns : goal.returns
returns c = no_spelling
