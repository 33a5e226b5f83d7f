use Rattle.std.proofs.Common.{◌≡◌, [], List, subst}
use Rattle.bag_rules.specs.Plans.{IsPlanOf, sizes_of}
use Rattle.bag_rules.specs.Transfers.{AreHeldFor, held_bag}
use Rattle.bag_rules.proofs.Words.{Adds, Fault, Files, HasFaultOf, IsJudged, Judged, kinds_of_files}
use Rattle.bag_rules.proofs.DeclaredLemmas.{verdict_means}
use Rattle.bag_rules.proofs.HeldBags.{rising}
use Rattle.bag_rules.proofs.ReportLemmas.{held_scope, none_below}
use Rattle.bag_rules.proofs.VerdictLemmas.{judged_by_files}
use Rattle.bag_rules.proofs.plan.Plan.report.Goals as goal
use Rattle.bag_rules.proofs.plan.Plan.report.Goals.{After-new}

judged : (c : After-new) (tags items : Files) → IsPlanOf tags c.args.self.now → AreHeldFor tags items → c.args.sizes.now ≡ sizes_of items → IsJudged (held_bag tags items) c.new.result
judged c tags items is held sizes_are =
    let faults = c.add_item_faults.new.faults.items in
    let adds : Adds [] faults (HasFaultOf (held_bag tags items) kinds_of_files) =
    subst (λ (old : List Fault). Adds old faults (HasFaultOf (held_bag tags items) kinds_of_files)) c.new-faults.ensures.items (c.in_ok-add_item_faults.ensures tags items is.tag_files is.opens is.texts held sizes_are) in
    judged_by_files (held_bag tags items) faults c.new.result (held_scope tags items is.tag_files held is.opens) (none_below tags items is.tag_files held is.opens) adds c.new.ensures.in_order c.new.ensures.same

pub returns-clause-verdict : goal.returns-clause-verdict
returns-clause-verdict c = judged (goal.at.returns-clause-verdict c).After-new

pub returns-clause-meaning : goal.returns-clause-meaning
returns-clause-meaning c = λ tags items is held sizes_are.
    verdict_means (held_bag tags items) (Judged c.new.result) (rising tags items is.tag_files held) (judged (goal.at.returns-clause-meaning c).After-new tags items is held sizes_are)
