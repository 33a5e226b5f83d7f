use Rattle.std.proofs.Common.{◌∙◌, sym, subst, rules}
use Rattle.bag_receiver.proofs.PlaceLemmas.{held_by, not_listed, of_plan, place_found, text_refused}
use Rattle.bag_receiver.proofs.ReceiverLemmas.{found_there, plan_at}
use Rattle.bag_receiver.proofs.Words.{err_from_is_err_and, IsExpected, IsWantOf}
use Rattle.bag_receiver.proofs.deliver.slot_of.Goals as goal

pub returns-in_err-path-clause-finds : goal.returns-in_err-path-clause-finds
returns-in_err-path-clause-finds g c =
    let error = err_from_is_err_and c.from_residual.result c.from_residual.ensures.1 in
    rw (error.1, error.2) (λ planned clean now in_state.
    let found = of_plan now.held c.args.name.now _ _ in_state.plans (planned now.held).0 (planned now.held).1.1 in
    text_refused now c.args.name.now (g.P.GivenPath.text c.args.path) found.0 c.in_err-path.field-0.0 found.1 c.in_err-path.ensures)

pub returns-in_default-clause-finds : goal.returns-in_default-clause-finds
returns-in_default-clause-finds g c = λ planned clean now in_state.
    absurd (found_there c.args.name.now now.held c.args.plans.now (planned now.held) (sym c.get.ensures.value ∙ search rules))

pub returns-in_default-want-clause-finds : goal.returns-in_default-want-clause-finds
returns-in_default-want-clause-finds g c = λ planned clean now in_state.
    let found = of_plan now.held c.args.name.now _ c.in-Some.plan.now in_state.plans (planned now.held).0 (plan_at c.args.name.now c.args.plans.now ∙ sym c.in-Some.ensures.value) in
    not_listed now c.args.name.now (g.P.GivenPath.text c.args.path) found.0 found.1 c.in_ok-path.ensures.1
    (subst (λ p. ¬ IsExpected found.0.tags p) c.in_ok-path.ensures.0 (c.in_default-want.ensures found.0.tags found.2))

pub returns-clause-finds : goal.returns-clause-finds
returns-clause-finds g c = λ planned clean now in_state.
    let found = of_plan now.held c.args.name.now _ c.in-Some.plan.now in_state.plans (planned now.held).0 (plan_at c.args.name.now c.args.plans.now ∙ sym c.in-Some.ensures.value) in
    place_found now.held c.args.name.now (g.P.GivenPath.text c.args.path) found.0 c.in-Some-want.want c.is_some-is_held.result found.1 c.in_ok-path.ensures.1
    (subst (λ p. IsWantOf found.0.tags p c.in-Some-want.want) c.in_ok-path.ensures.0 (c.in-Some-want.ensures found.0.tags found.2))
    (held_by now.held c.args.name.now c.in_ok-path.path (g.P.GivenPath.text c.args.path) c.in_ok-size_of.field-0 c.is_some-is_held.result c.in_ok-path.ensures.0
    (c.in_ok-size_of.ensures.size clean now.held in_state.kept.held) c.is_some-is_held.ensures)
