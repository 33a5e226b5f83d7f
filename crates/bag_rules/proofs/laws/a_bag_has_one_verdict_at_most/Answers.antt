use Rattle.bag_rules.proofs.OneVerdictLemmas.{one_verdict}
use Rattle.bag_rules.proofs.laws.a_bag_has_one_verdict_at_most.Goals as goal

pub returns : goal.returns
returns c = one_verdict
