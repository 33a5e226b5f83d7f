use Rattle.bag_tags.proofs.ExactTexts.{one_list_of_elements}
use Rattle.bag_tags.proofs.laws.a_text_says_one_list_of_elements_at_most.Goals as goal

pub returns : goal.returns
returns c = one_list_of_elements
