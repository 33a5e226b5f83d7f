use Rattle.bag_tags.proofs.ExactTexts.{no_pairs}
use Rattle.bag_tags.proofs.laws.a_faulty_manifest_lists_nothing.Goals as goal

pub returns : goal.returns
returns c = no_pairs
