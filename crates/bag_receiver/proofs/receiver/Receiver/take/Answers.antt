use Rattle.std.proofs.Common.{◌≡◌, true, false, ap, subst, inl, inr, rules}
use Rattle.bag_receiver.proofs.CountLemmas.{counts_after, counts_on, counts_put, no_fault}
use Rattle.bag_receiver.proofs.PlaceLemmas.{known_refused, no_plan_judged, repeated}
use Rattle.bag_receiver.proofs.ReceiverLemmas.{does_then, found_step, found_then, known_refused_by, known_taken, refused_step}
use Rattle.bag_receiver.proofs.Words.{err_from_is_err_and, IsPlaceIn, IsWanted, Refused, Whole}
use Rattle.bag_receiver.proofs.receiver.Receiver.take.Goals as goal

pub returns-in_err-find_plan-clause-taken : goal.returns-in_err-find_plan-clause-taken
returns-in_err-find_plan-clause-taken g c =
    let error = err_from_is_err_and c.from_residual.result c.from_residual.ensures.1 in
    rw (error.1, error.2) (refused_step g.K.Keeper.holds g.K.Keeper.may_leave g.K.Keeper.clean _ _ c.args.name.now c.args.path.now (Whole c.args.content.now) _
    (c.find_plan.ensures.looks, c.in_err-find_plan.ensures.finds c.args.path.now))

pub returns-in_err-find_plan-clause-judged : goal.returns-in_err-find_plan-clause-judged
returns-in_err-find_plan-clause-judged g c =
    let error = err_from_is_err_and c.from_residual.result c.from_residual.ensures.1 in
    let why = c.in_err-find_plan.ensures.named in
    rw (error.1, error.2) (record { unnamed = λ other. ap Refused (why.1 other); judges = no_plan_judged _ (Whole c.args.content.now) _ why.0 })

pub returns-in_err-find_plan-clause-store : goal.returns-in_err-find_plan-clause-store
returns-in_err-find_plan-clause-store g c =
    let error = err_from_is_err_and c.from_residual.result c.from_residual.ensures.1 in
    rw (error.1, error.2) (counts_on _ _ _ _ c.in_err-find_plan.ensures.store)

pub returns-in_err-slot-clause-taken : goal.returns-in_err-slot-clause-taken
returns-in_err-slot-clause-taken g c =
    let error = err_from_is_err_and c.from_residual-in_err-slot.result c.from_residual-in_err-slot.ensures.1 in
    rw (error.1, error.2) (refused_step g.K.Keeper.holds g.K.Keeper.may_leave g.K.Keeper.clean _ _ c.args.name.now c.args.path.now (Whole c.args.content.now) _
    (found_then g.K.Keeper.holds g.K.Keeper.may_leave g.K.Keeper.clean c.args.self.now c.find_plan.new.self _ _ _ (c.find_plan.ensures.looks, c.in_ok-find_plan.ensures.finds c.args.path.now) c.slot_of.ensures.looks
    (λ clean now in_state planned. c.in_err-slot.ensures.finds (λ ledger. planned) clean now in_state)))

pub returns-in_err-slot-clause-judged : goal.returns-in_err-slot-clause-judged
returns-in_err-slot-clause-judged g c =
    let error = err_from_is_err_and c.from_residual-in_err-slot.result c.from_residual-in_err-slot.ensures.1 in
    rw (error.1, error.2) (record { unnamed = λ other. absurd (other c.in_ok-find_plan.ensures.named); judges = c.in_err-slot.ensures.judged (Whole c.args.content.now) })

pub returns-in_err-slot-clause-store : goal.returns-in_err-slot-clause-store
returns-in_err-slot-clause-store g c =
    let error = err_from_is_err_and c.from_residual-in_err-slot.result c.from_residual-in_err-slot.ensures.1 in
    rw (error.1, error.2) (counts_after _ _ _ _ _ (no_fault _ _) c.in_ok-find_plan.ensures.store (counts_on _ _ _ _ c.in_err-slot.ensures.store))

pub returns-in_err-test_content-clause-taken : goal.returns-in_err-test_content-clause-taken
returns-in_err-test_content-clause-taken g c =
    let placed = found_then g.K.Keeper.holds g.K.Keeper.may_leave g.K.Keeper.clean c.args.self.now c.find_plan.new.self _ _ (λ now. IsPlaceIn now.held c.args.name.now c.args.path.now c.in_ok-slot.slot)
    (c.find_plan.ensures.looks, c.in_ok-find_plan.ensures.finds c.args.path.now) c.slot_of.ensures.looks
    (λ clean now in_state planned. c.in_ok-slot.ensures.finds (λ ledger. planned) clean now in_state) in
    let error = err_from_is_err_and c.from_residual-in_err-test_content.result c.from_residual-in_err-test_content.ensures.1 in
    rw (error.1, error.2) (found_step g.K.Keeper.holds g.K.Keeper.may_leave g.K.Keeper.clean c.args.self.now _ _
    (placed.0, λ clean now in_state. known_refused now c.args.name.now c.args.path.now c.in_ok-slot.slot (placed.1 clean now in_state) c.args.content.now _ c.in_err-test_content.ensures.test))

pub returns-then-slot-clause-taken : goal.returns-then-slot-clause-taken
returns-then-slot-clause-taken g c =
    let placed = found_then g.K.Keeper.holds g.K.Keeper.may_leave g.K.Keeper.clean c.args.self.now c.find_plan.new.self _ _ (λ now. IsPlaceIn now.held c.args.name.now c.args.path.now c.in_ok-slot.slot)
    (c.find_plan.ensures.looks, c.in_ok-find_plan.ensures.finds c.args.path.now) c.slot_of.ensures.looks
    (λ clean now in_state planned. c.in_ok-slot.ensures.finds (λ ledger. planned) clean now in_state) in
    let test = c.in_ok-test_content.ensures.test in
    let held : c.in_ok-slot.slot.is_held ≡ true = search rules in
    found_step g.K.Keeper.holds g.K.Keeper.may_leave g.K.Keeper.clean c.args.self.now _ _ (
      placed.0,
      λ clean now in_state. repeated now c.args.name.now c.args.path.now c.in_ok-slot.slot (placed.1 clean now in_state) c.args.content.now test.1.0.1
          (subst (IsWanted c.in_ok-slot.slot.want) test.1.0.0 test.1.1) held,
    )

pub returns-in_err-put-clause-taken : goal.returns-in_err-put-clause-taken
returns-in_err-put-clause-taken g c =
    let placed = found_then g.K.Keeper.holds g.K.Keeper.may_leave g.K.Keeper.clean c.args.self.now c.find_plan.new.self _ _ (λ now. IsPlaceIn now.held c.args.name.now c.args.path.now c.in_ok-slot.slot)
    (c.find_plan.ensures.looks, c.in_ok-find_plan.ensures.finds c.args.path.now) c.slot_of.ensures.looks
    (λ clean now in_state planned. c.in_ok-slot.ensures.finds (λ ledger. planned) clean now in_state) in
    let free : c.in_ok-slot.slot.is_held ≡ false = search rules in
    let error = err_from_is_err_and c.from_residual-in_err-put.result c.from_residual-in_err-put.ensures.1 in
    rw (error.1, error.2) (does_then g.K.Keeper.holds g.K.Keeper.may_leave g.K.Keeper.clean c.args.self.now _ _ _ _ placed
    (elim c.in_err-put.ensures.put.1 [ inl reads ↦ reads.was_clean | inr h ↦ h.1.leaves.was_clean ])
    (known_refused_by g.K.Keeper.holds g.K.Keeper.may_leave g.K.Keeper.clean c.slot_of.new.keeper c.put.new.self c.find_plan.new.self.plans c.args.name.now c.args.path.now c.args.content.now c.in_ok-slot.slot free
    _ c.in_err-put.ensures.put.0 c.in_err-put.ensures.put.1))

pub returns-in_err-put-clause-store : goal.returns-in_err-put-clause-store
returns-in_err-put-clause-store g c =
    let error = err_from_is_err_and c.from_residual-in_err-put.result c.from_residual-in_err-put.ensures.1 in
    rw (error.1, error.2) (counts_after _ _ _ _ _ (no_fault _ _) c.in_ok-find_plan.ensures.store (counts_after _ _ _ _ _ (no_fault _ _) c.in_ok-slot.ensures.store
    (counts_put _ _ _ c.in_err-put.ensures.store.counted)))

pub returns-clause-taken : goal.returns-clause-taken
returns-clause-taken g c =
    let placed = found_then g.K.Keeper.holds g.K.Keeper.may_leave g.K.Keeper.clean c.args.self.now c.find_plan.new.self _ _ (λ now. IsPlaceIn now.held c.args.name.now c.args.path.now c.in_ok-slot.slot)
    (c.find_plan.ensures.looks, c.in_ok-find_plan.ensures.finds c.args.path.now) c.slot_of.ensures.looks
    (λ clean now in_state planned. c.in_ok-slot.ensures.finds (λ ledger. planned) clean now in_state) in
    let free : c.in_ok-slot.slot.is_held ≡ false = search rules in
    let put = c.in_ok-put.ensures.put in
    does_then g.K.Keeper.holds g.K.Keeper.may_leave g.K.Keeper.clean c.args.self.now _ _ _ _ placed put.1.writes.was_clean
    (known_taken g.K.Keeper.holds g.K.Keeper.may_leave g.K.Keeper.clean c.slot_of.new.keeper c.put.new.self c.find_plan.new.self.plans c.args.name.now c.args.path.now c.args.content.now c.in_ok-slot.slot free
    put.0 put.1)
