use Rattle.std.proofs.Common.{◌≡◌, true, subst, rules}
use Rattle.bag_receiver.proofs.Words.{IsPlanned, plans_in}
use Rattle.bag_receiver.proofs.receiver.Receiver.find_plan.Goals as goal

pub returns-in-true-clause-finds : goal.returns-in-true-clause-finds
returns-in-true-clause-finds g c = λ text clean now in_state.
    let is : c.in_ok-has_plan.field-0 ≡ true = search rules in
    subst (IsPlanned c.args.name.now now.held (plans_in c.has_plan.new.self.plans)) is (c.in_ok-has_plan.ensures.found clean now in_state)
