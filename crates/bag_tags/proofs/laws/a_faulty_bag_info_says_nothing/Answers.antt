use Rattle.bag_tags.proofs.ExactTexts.{no_elements}
use Rattle.bag_tags.proofs.laws.a_faulty_bag_info_says_nothing.Goals as goal

pub returns : goal.returns
returns c = no_elements
