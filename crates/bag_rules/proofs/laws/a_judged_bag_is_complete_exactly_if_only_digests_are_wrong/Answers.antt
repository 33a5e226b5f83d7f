use Rattle.bag_rules.proofs.ValidityLemmas.{complete_exactly}
use Rattle.bag_rules.proofs.laws.a_judged_bag_is_complete_exactly_if_only_digests_are_wrong.Goals as goal

pub returns : goal.returns
returns c bag faults rising judged = complete_exactly bag faults judged rising
