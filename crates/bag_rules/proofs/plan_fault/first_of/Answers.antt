use Rattle.std.proofs.Common.{◌≡◌, ◌∙◌, List, Some, length, get_or, ap}
use Rattle.std.specs.Vec.Iter.{into_iter_items}
use Rattle.bag_rules.proofs.Words.{Fault}
use Rattle.bag_rules.proofs.FirstFault.{first_picked}
use Rattle.bag_rules.proofs.plan_fault.first_of.Goals as goal

pub returns : goal.returns
returns c =
    let run = c.min.ensures.runs in
    let p = run.0 in
    let same : into_iter_items p.from ≡ c.args.faults.items = ap into_iter_items run.1 ∙ c.into_iter.ensures.rest in
    let items = c.into_iter.ensures.runs p p.seen in
    first_picked c.min.result p.len p.at c.args.faults.items (items.1 run.2 ∙ ap length same) (λ k d below. items.2 k d below ∙ ap (λ (fs : List Fault). Some (get_or fs k d)) same) run.3
