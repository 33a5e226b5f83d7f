use Rattle.bag_tags.proofs.NameLemmas.{one_name}
use Rattle.bag_tags.proofs.name.a_path_names_one_thing_at_most.Goals as goal

pub returns : goal.returns
returns c = one_name
