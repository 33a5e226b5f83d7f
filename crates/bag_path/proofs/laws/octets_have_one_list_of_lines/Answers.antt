use Rattle.bag_path.proofs.LinesLemmas.{one_list}
use Rattle.bag_path.proofs.laws.octets_have_one_list_of_lines.Goals as goal

pub returns : goal.returns
returns c = one_list
