use Rattle.bag_tags.proofs.ExactTexts.{no_entries}
use Rattle.bag_tags.proofs.laws.a_faulty_fetch_list_lists_nothing.Goals as goal

pub returns : goal.returns
returns c = no_entries
