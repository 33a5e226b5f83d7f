use Rattle.bag_tags.proofs.ExactTexts.{one_list_of_entries}
use Rattle.bag_tags.proofs.laws.a_text_lists_one_list_of_entries_at_most.Goals as goal

pub returns : goal.returns
returns c = one_list_of_entries
