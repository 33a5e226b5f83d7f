use Rattle.bag_rules.proofs.ValidityLemmas.{valid_exactly}
use Rattle.bag_rules.proofs.laws.a_judged_bag_is_valid_exactly_if_it_has_no_fault.Goals as goal

pub returns : goal.returns
returns c bag faults rising judged = valid_exactly bag faults judged rising
