use Rattle.bag_rules.proofs.OneVerdictLemmas.{same_bag}
use Rattle.bag_rules.proofs.laws.the_same_files_are_the_same_bag.Goals as goal

pub returns : goal.returns
returns c = same_bag
