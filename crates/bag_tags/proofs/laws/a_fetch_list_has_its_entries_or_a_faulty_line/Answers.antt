use Rattle.bag_tags.proofs.ExactTexts.{entries_or_fault}
use Rattle.bag_tags.proofs.laws.a_fetch_list_has_its_entries_or_a_faulty_line.Goals as goal

pub returns : goal.returns
returns c = entries_or_fault
