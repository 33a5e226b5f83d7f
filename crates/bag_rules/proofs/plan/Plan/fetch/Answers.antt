use Rattle.bag_rules.proofs.PlanLemmas.{lines_are}
use Rattle.bag_rules.proofs.plan.Plan.fetch.Goals as goal

pub returns : goal.returns
returns c = λ tags is. lines_are tags c.args.self.now is c.fetch_lines.result.now c.fetch_lines.ensures
