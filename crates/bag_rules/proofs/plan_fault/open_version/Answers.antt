use Rattle.bag_rules.proofs.OpeningVerdicts.{broken_refused}
use Rattle.bag_rules.proofs.plan_fault.open_version.Goals as goal

pub returns-in-Broken-clause-refused : goal.returns-in-Broken-clause-refused
returns-in-Broken-clause-refused c = broken_refused c.args.tags.now c.in-Broken.fault c.in_ok-version.ensures.tags (rw c.in-Broken.is at c.in_ok-version.ensures.scope)
