use Rattle.bag_rules.proofs.OneLimitLemmas.{one_limit}
use Rattle.bag_rules.proofs.laws.a_bag_meets_one_limit_first_at_most.Goals as goal

pub returns : goal.returns
returns c = one_limit
