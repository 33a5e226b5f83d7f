use Rattle.bag_tags.proofs.ExactTexts.{elements_or_fault}
use Rattle.bag_tags.proofs.laws.a_bag_info_has_its_elements_or_a_faulty_line.Goals as goal

pub returns : goal.returns
returns c = elements_or_fault
