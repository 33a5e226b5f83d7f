use Rattle.bag_tags.proofs.NameLemmas.{one_word}
use Rattle.bag_tags.proofs.name.a_path_has_one_unknown_algorithm_at_most.Goals as goal

pub returns : goal.returns
returns c = one_word
