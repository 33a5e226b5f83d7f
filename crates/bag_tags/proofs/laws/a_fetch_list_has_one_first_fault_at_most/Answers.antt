use Rattle.bag_tags.proofs.ExactTexts.{one_fetch_fault}
use Rattle.bag_tags.proofs.laws.a_fetch_list_has_one_first_fault_at_most.Goals as goal

pub returns : goal.returns
returns c = one_fetch_fault
