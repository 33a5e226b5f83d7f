use Rattle.std.proofs.Common.{◌≡◌, ◌∙◌, true, sym, subst, rules}
use Rattle.bag_receiver.specs.declared.report.ViewFault.TheVariants.{Keeper}
use Rattle.bag_receiver.proofs.AuditLemmas.{plan_for}
use Rattle.bag_receiver.proofs.CountLemmas.{counts_after, counts_as, no_fault}
use Rattle.bag_receiver.proofs.ReceiverLemmas.{does_after, does_read, found_there, plan_at, still}
use Rattle.bag_receiver.proofs.ReportLemmas.{audited, told}
use Rattle.bag_receiver.proofs.Words.{err_from_is_err_and, IsPlanned, plans_in, Same}
use Rattle.bag_receiver.proofs.receiver.Receiver.view.Goals as goal

pub returns-in_default-clause-reported : goal.returns-in_default-clause-reported
returns-in_default-clause-reported g c = λ clean now in_state e.
    let is : c.in_ok-has_plan.field-0 ≡ true = search rules in
    let planned = subst (IsPlanned c.args.name.now now.held (plans_in c.has_plan.new.self.plans)) is (c.in_ok-has_plan.ensures.found clean now in_state) in
    absurd (found_there c.args.name.now now.held c.has_plan.new.self.plans planned (sym c.get.ensures.value ∙ search rules))

pub returns-in_err-sizes-clause-store : goal.returns-in_err-sizes-clause-store
returns-in_err-sizes-clause-store g c =
    let error = err_from_is_err_and c.from_residual-in_err-sizes.result c.from_residual-in_err-sizes.ensures.1 in
    rw (error.1, error.2) (counts_after _ _ _ _ _ (no_fault _ _) c.in_ok-has_plan.ensures.store (counts_as Keeper (λ a b e. cc) _ _ _ c.in_err-sizes.ensures.keeper.counted))

pub returns-in_err-report-clause-looks : goal.returns-in_err-report-clause-looks
returns-in_err-report-clause-looks g c =
    does_after g.K.Keeper.holds g.K.Keeper.may_leave g.K.Keeper.clean c.args.self.now c.has_plan.new.self _ Same c.has_plan.ensures.looks
    (does_read g.K.Keeper.holds g.K.Keeper.may_leave g.K.Keeper.clean c.has_plan.new.self.keeper c.sizes_by.new.keeper c.has_plan.new.self.plans c.sizes_by.ensures.keeper.reads)

pub returns-clause-looks : goal.returns-clause-looks
returns-clause-looks g c =
    does_after g.K.Keeper.holds g.K.Keeper.may_leave g.K.Keeper.clean c.args.self.now c.has_plan.new.self _ Same c.has_plan.ensures.looks
    (does_read g.K.Keeper.holds g.K.Keeper.may_leave g.K.Keeper.clean c.has_plan.new.self.keeper c.sizes_by.new.keeper c.has_plan.new.self.plans c.sizes_by.ensures.keeper.reads)

pub returns-clause-reported : goal.returns-clause-reported
returns-clause-reported g c = λ clean now in_state.
    let clean_before = c.sizes_by.ensures.keeper.reads.was_clean clean in
    let is : c.in_ok-has_plan.field-0 ≡ true = search rules in
    let planned = subst (IsPlanned c.args.name.now now.held (plans_in c.has_plan.new.self.plans)) is (c.in_ok-has_plan.ensures.found clean_before now in_state) in
    let after = still g.K.Keeper.holds g.K.Keeper.may_leave g.K.Keeper.clean c.args.self.now c.has_plan.new.self now c.has_plan.ensures.looks clean_before in_state in
    let at = plan_at c.args.name.now c.has_plan.new.self.plans ∙ sym c.in-Some.ensures.value in
    let sound = g.met.K.Keeper.sound c.has_plan.new.self.keeper now.held clean_before after.kept.held in
    told now.held c.args.name.now (plans_in c.has_plan.new.self.plans) c.in-Some.plan.now c.in_ok-sizes.sizes.items c.in_ok-report.report after.plans sound planned.0 at
    (c.in_ok-sizes.ensures.found clean now.held after.kept.held (plan_for now.held c.args.name.now (plans_in c.has_plan.new.self.plans) c.in-Some.plan.now after.plans sound planned.0 at))
    (λ tags items plan held same. c.in_ok-report.ensures.verdict tags items plan held (c.as_slice.ensures.value ∙ same))
    (λ tags items plan held same. c.in_ok-report.ensures.meaning tags items plan held (c.as_slice.ensures.value ∙ same))

pub returns-clause-read : goal.returns-clause-read
returns-clause-read g c = λ octets. (
  c.in-Some.plan.now,
  plan_at c.args.name.now c.has_plan.new.self.plans ∙ sym c.in-Some.ensures.value,
  λ tags planned. audited tags c.in-Some.plan.now c.in_ok-sizes.sizes.items c.in_ok-report.report planned (c.in_ok-sizes.ensures.valid octets tags planned)
      (λ tags items plan held same. c.in_ok-report.ensures.verdict tags items plan held (c.as_slice.ensures.value ∙ same))
      (λ tags items plan held same. c.in_ok-report.ensures.meaning tags items plan held (c.as_slice.ensures.value ∙ same)),
)
