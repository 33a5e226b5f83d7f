use Rattle.bag_receiver.proofs.ReceiverLemmas.{plan_added}
use Rattle.bag_receiver.proofs.receiver.keep_plan.Goals as goal

pub returns-in-Ok-clause-kept : goal.returns-in-Ok-clause-kept
returns-in-Ok-clause-kept c = plan_added c.args.plans.now c.insert.new.self c.in_ok-name.name c.args.plan c.args.name.now c.in-Ok.ensures.entries c.in_ok-name.ensures.ok
