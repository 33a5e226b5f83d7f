use Rattle.std.proofs.Common.{◌≡◌, ◌∙◌, true, List, sym, subst, rules}
use Rattle.bag_rules.specs.declared.plan.ItemSize.{ItemSize}
use Rattle.bag_rules.specs.Plans.{item_paths}
use Rattle.bag_receiver.specs.declared.report.ViewFault.TheVariants.{Keeper}
use Rattle.bag_receiver.specs.FetchingInside.{AreMarks}
use Rattle.bag_receiver.proofs.CountLemmas.{counts_after, counts_as, no_fault}
use Rattle.bag_receiver.proofs.FetchLemmas.{starts}
use Rattle.bag_receiver.proofs.PlaceLemmas.{of_plan}
use Rattle.bag_receiver.proofs.ReceiverLemmas.{does_after, does_read, found_there, plan_at, still}
use Rattle.bag_receiver.proofs.Words.{err_from_is_err_and, IsPlanned, plans_in, Same}
use Rattle.bag_receiver.proofs.receiver.Receiver.requests.Goals as goal

pub returns-in_default-clause-prepared : goal.returns-in_default-clause-prepared
returns-in_default-clause-prepared g c = λ clean now in_state e.
    let is : c.in_ok-has_plan.field-0 ≡ true = search rules in
    let planned = subst (IsPlanned c.args.name.now now.held (plans_in c.has_plan.new.self.plans)) is (c.in_ok-has_plan.ensures.found clean now in_state) in
    absurd (found_there c.args.name.now now.held c.has_plan.new.self.plans planned (sym c.get.ensures.value ∙ search rules))

pub returns-in_err-sizes-clause-store : goal.returns-in_err-sizes-clause-store
returns-in_err-sizes-clause-store g c =
    let error = err_from_is_err_and c.from_residual-in_err-sizes.result c.from_residual-in_err-sizes.ensures.1 in
    rw (error.1, error.2) (counts_after _ _ _ _ _ (no_fault _ _) c.in_ok-has_plan.ensures.store (counts_as Keeper (λ a b e. cc) _ _ _ c.in_err-sizes.ensures.store.counted))

pub returns-in_err-held-clause-looks : goal.returns-in_err-held-clause-looks
returns-in_err-held-clause-looks g c =
    does_after g.K.Keeper.holds g.K.Keeper.may_leave g.K.Keeper.clean c.args.self.now c.has_plan.new.self _ Same c.has_plan.ensures.looks
    (does_read g.K.Keeper.holds g.K.Keeper.may_leave g.K.Keeper.clean c.has_plan.new.self.keeper c.sizes.new.self c.has_plan.new.self.plans c.sizes.ensures.reads)

pub returns-in_err-list-clause-looks : goal.returns-in_err-list-clause-looks
returns-in_err-list-clause-looks g c =
    does_after g.K.Keeper.holds g.K.Keeper.may_leave g.K.Keeper.clean c.args.self.now c.has_plan.new.self _ Same c.has_plan.ensures.looks
    (does_read g.K.Keeper.holds g.K.Keeper.may_leave g.K.Keeper.clean c.has_plan.new.self.keeper c.sizes.new.self c.has_plan.new.self.plans c.sizes.ensures.reads)

pub returns-clause-looks : goal.returns-clause-looks
returns-clause-looks g c =
    does_after g.K.Keeper.holds g.K.Keeper.may_leave g.K.Keeper.clean c.args.self.now c.has_plan.new.self _ Same c.has_plan.ensures.looks
    (does_read g.K.Keeper.holds g.K.Keeper.may_leave g.K.Keeper.clean c.has_plan.new.self.keeper c.sizes.new.self c.has_plan.new.self.plans c.sizes.ensures.reads)

pub returns-clause-prepared : goal.returns-clause-prepared
returns-clause-prepared g c = λ clean now in_state.
    let clean_before = c.sizes.ensures.reads.was_clean clean in
    let is : c.in_ok-has_plan.field-0 ≡ true = search rules in
    let planned = subst (IsPlanned c.args.name.now now.held (plans_in c.has_plan.new.self.plans)) is (c.in_ok-has_plan.ensures.found clean_before now in_state) in
    let after = still g.K.Keeper.holds g.K.Keeper.may_leave g.K.Keeper.clean c.args.self.now c.has_plan.new.self now c.has_plan.ensures.looks clean_before in_state in
    let at = plan_at c.args.name.now c.has_plan.new.self.plans ∙ sym c.in-Some.ensures.value in
    let found = of_plan now.held c.args.name.now (plans_in c.has_plan.new.self.plans) c.in-Some.plan.now after.plans planned.0 at in
    let rising = (c.paths-paths.ensures found.0.tags found.2).rising in
    let listed = c.in_ok-list.ensures found.0.tags found.2 in
    let sizes = c.as_slice.ensures.value ∙ c.in_ok-sizes.ensures.sizes clean now.held after.kept.held in
    starts now.held c.args.name.now found.0 c.paths-paths.result.now c.in_ok-held.held.items listed.0 c.in_ok-list.list.items found.1 rising listed.1 listed.2
    (subst (λ (s : List ItemSize). AreMarks c.paths-paths.result.now c.in_ok-held.held.items (item_paths s)) sizes (c.in_ok-held.ensures rising))
