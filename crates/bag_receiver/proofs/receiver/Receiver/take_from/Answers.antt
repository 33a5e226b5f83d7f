use Rattle.std.proofs.Common.{◌≡◌, true, false, ap, inl, inr, rules}
use Rattle.bag_receiver.proofs.CountLemmas.{counts_after, counts_on, counts_put, no_fault, not_used, uses_put}
use Rattle.bag_receiver.proofs.PlaceLemmas.{content_read, no_plan_judged, not_reader, nothing_brought, read_brought, read_judged, read_refused, repeated}
use Rattle.bag_receiver.proofs.ReceiverLemmas.{content_put, does_then, found_step, found_then, put_brought, put_judged, read_refused_by, read_taken, refused_step}
use Rattle.bag_receiver.proofs.Words.{err_from_is_err_and, IsPlaceIn, Refused, Unread, Whole}
use Rattle.bag_receiver.proofs.receiver.Receiver.take_from.Goals as goal

pub returns-in_err-find_plan-clause-taken : goal.returns-in_err-find_plan-clause-taken
returns-in_err-find_plan-clause-taken g c =
    let error = err_from_is_err_and c.from_residual.result c.from_residual.ensures.1 in
    let why = c.in_err-find_plan.ensures.named in
    rw (error.1, error.2) (
      Unread,
      nothing_brought _,
      record { unnamed = λ other. ap Refused (why.1 other); judges = no_plan_judged _ Unread _ why.0 },
      refused_step g.K.Keeper.holds g.K.Keeper.may_leave g.K.Keeper.clean _ _ c.args.name.now (g.P.GivenPath.text c.args.path) Unread _ (c.find_plan.ensures.looks, c.in_err-find_plan.ensures.finds (g.P.GivenPath.text c.args.path)),
    )

pub returns-in_err-find_plan-clause-store : goal.returns-in_err-find_plan-clause-store
returns-in_err-find_plan-clause-store g c =
    let error = err_from_is_err_and c.from_residual.result c.from_residual.ensures.1 in
    rw (error.1, error.2) (counts_on _ _ _ _ c.in_err-find_plan.ensures.store)

pub returns-in_err-slot-clause-taken : goal.returns-in_err-slot-clause-taken
returns-in_err-slot-clause-taken g c =
    let error = err_from_is_err_and c.from_residual-in_err-slot.result c.from_residual-in_err-slot.ensures.1 in
    rw (error.1, error.2) (
      Unread,
      nothing_brought _,
      record { unnamed = λ other. absurd (other c.in_ok-find_plan.ensures.named); judges = c.in_err-slot.ensures.judged Unread },
      refused_step g.K.Keeper.holds g.K.Keeper.may_leave g.K.Keeper.clean _ _ c.args.name.now (g.P.GivenPath.text c.args.path) Unread _
          (found_then g.K.Keeper.holds g.K.Keeper.may_leave g.K.Keeper.clean c.args.self.now c.find_plan.new.self _ _ _ (c.find_plan.ensures.looks, c.in_ok-find_plan.ensures.finds (g.P.GivenPath.text c.args.path)) c.slot_of.ensures.looks
          (λ clean now in_state planned. c.in_err-slot.ensures.finds (λ ledger. planned) clean now in_state)),
    )

pub returns-in_err-slot-clause-reader : goal.returns-in_err-slot-clause-reader
returns-in_err-slot-clause-reader g c =
    let error = err_from_is_err_and c.from_residual-in_err-slot.result c.from_residual-in_err-slot.ensures.1 in
    rw (error.1, error.2) (not_used _ _ _ _ _ c.args.reader.now (g.met.S.Source.keeps_itself c.args.reader.now) (not_reader (g.P.GivenPath.text c.args.path) _ c.in_err-slot.ensures.judged))

pub returns-in_err-slot-clause-store : goal.returns-in_err-slot-clause-store
returns-in_err-slot-clause-store g c =
    let error = err_from_is_err_and c.from_residual-in_err-slot.result c.from_residual-in_err-slot.ensures.1 in
    rw (error.1, error.2) (counts_after _ _ _ _ _ (no_fault _ _) c.in_ok-find_plan.ensures.store (counts_on _ _ _ _ c.in_err-slot.ensures.store))

pub returns-in_err-test_reader-clause-taken : goal.returns-in_err-test_reader-clause-taken
returns-in_err-test_reader-clause-taken g c =
    let placed = found_then g.K.Keeper.holds g.K.Keeper.may_leave g.K.Keeper.clean c.args.self.now c.find_plan.new.self _ _ (λ now. IsPlaceIn now.held c.args.name.now (g.P.GivenPath.text c.args.path) c.in_ok-slot.slot)
    (c.find_plan.ensures.looks, c.in_ok-find_plan.ensures.finds (g.P.GivenPath.text c.args.path)) c.slot_of.ensures.looks
    (λ clean now in_state planned. c.in_ok-slot.ensures.finds (λ ledger. planned) clean now in_state) in
    let error = err_from_is_err_and c.from_residual-in_err-test_reader.result c.from_residual-in_err-test_reader.ensures.1 in
    let test = c.in_err-test_reader.ensures.test in
    rw (error.1, error.2) (
      content_read c.in_ok-slot.slot.want (g.S.Source.remaining c.args.reader.now) (g.S.Source.remaining c.test_reader.new.reader) _ test,
      read_brought c.in_ok-slot.slot.want _ _ _ test,
      record { unnamed = λ other. absurd (other c.in_ok-find_plan.ensures.named); judges = read_judged c.in_ok-slot.slot.want _ _ (g.P.GivenPath.text c.args.path) _ test c.in_ok-slot.ensures.judged },
      found_step g.K.Keeper.holds g.K.Keeper.may_leave g.K.Keeper.clean c.args.self.now _ _ (placed.0, λ clean now in_state. read_refused now c.args.name.now (g.P.GivenPath.text c.args.path) c.in_ok-slot.slot (placed.1 clean now in_state) _ _ _ test),
    )

pub returns-in_err-test_reader-clause-unread : goal.returns-in_err-test_reader-clause-unread
returns-in_err-test_reader-clause-unread g c =
    let placed = found_then g.K.Keeper.holds g.K.Keeper.may_leave g.K.Keeper.clean c.args.self.now c.find_plan.new.self _ _ (λ now. IsPlaceIn now.held c.args.name.now (g.P.GivenPath.text c.args.path) c.in_ok-slot.slot)
    (c.find_plan.ensures.looks, c.in_ok-find_plan.ensures.finds (g.P.GivenPath.text c.args.path)) c.slot_of.ensures.looks
    (λ clean now in_state planned. c.in_ok-slot.ensures.finds (λ ledger. planned) clean now in_state) in
    λ clean now in_state. (let at = placed.1 clean now in_state in inr (at.transfer, at.named, at.listed))

pub returns-in_err-test_reader-clause-reader : goal.returns-in_err-test_reader-clause-reader
returns-in_err-test_reader-clause-reader g c =
    let error = err_from_is_err_and c.from_residual-in_err-test_reader.result c.from_residual-in_err-test_reader.ensures.1 in
    rw (error.1, error.2) (uses_put _ _ _ _ _ _ c.in_err-test_reader.ensures.reader)

pub returns-then-slot-clause-taken : goal.returns-then-slot-clause-taken
returns-then-slot-clause-taken g c =
    let placed = found_then g.K.Keeper.holds g.K.Keeper.may_leave g.K.Keeper.clean c.args.self.now c.find_plan.new.self _ _ (λ now. IsPlaceIn now.held c.args.name.now (g.P.GivenPath.text c.args.path) c.in_ok-slot.slot)
    (c.find_plan.ensures.looks, c.in_ok-find_plan.ensures.finds (g.P.GivenPath.text c.args.path)) c.slot_of.ensures.looks
    (λ clean now in_state planned. c.in_ok-slot.ensures.finds (λ ledger. planned) clean now in_state) in
    let test = c.in_ok-test_reader.ensures.test in
    let held : c.in_ok-slot.slot.is_held ≡ true = search rules in (
      Whole test.0,
      test.1.0,
      record { unnamed = λ other. absurd (other c.in_ok-find_plan.ensures.named); judges = (c.in_ok-slot.ensures.judged, test.1.0.within) },
      found_step g.K.Keeper.holds g.K.Keeper.may_leave g.K.Keeper.clean c.args.self.now _ _
          (placed.0, λ clean now in_state. repeated now c.args.name.now (g.P.GivenPath.text c.args.path) c.in_ok-slot.slot (placed.1 clean now in_state) test.0 test.1.0.within test.1.1 held),
    )

pub returns-then-slot-clause-unread : goal.returns-then-slot-clause-unread
returns-then-slot-clause-unread g c =
    let placed = found_then g.K.Keeper.holds g.K.Keeper.may_leave g.K.Keeper.clean c.args.self.now c.find_plan.new.self _ _ (λ now. IsPlaceIn now.held c.args.name.now (g.P.GivenPath.text c.args.path) c.in_ok-slot.slot)
    (c.find_plan.ensures.looks, c.in_ok-find_plan.ensures.finds (g.P.GivenPath.text c.args.path)) c.slot_of.ensures.looks
    (λ clean now in_state planned. c.in_ok-slot.ensures.finds (λ ledger. planned) clean now in_state) in
    λ clean now in_state. (let at = placed.1 clean now in_state in inr (at.transfer, at.named, at.listed))

pub returns-in_err-put_from-clause-taken : goal.returns-in_err-put_from-clause-taken
returns-in_err-put_from-clause-taken g c =
    let placed = found_then g.K.Keeper.holds g.K.Keeper.may_leave g.K.Keeper.clean c.args.self.now c.find_plan.new.self _ _ (λ now. IsPlaceIn now.held c.args.name.now (g.P.GivenPath.text c.args.path) c.in_ok-slot.slot)
    (c.find_plan.ensures.looks, c.in_ok-find_plan.ensures.finds (g.P.GivenPath.text c.args.path)) c.slot_of.ensures.looks
    (λ clean now in_state planned. c.in_ok-slot.ensures.finds (λ ledger. planned) clean now in_state) in
    let free : c.in_ok-slot.slot.is_held ≡ false = search rules in
    let error = err_from_is_err_and c.from_residual-in_err-put_from.result c.from_residual-in_err-put_from.ensures.1 in
    let put = c.in_err-put_from.ensures.put in
    rw (error.1, error.2) (
      content_put g.K.Keeper.holds g.K.Keeper.may_leave g.K.Keeper.clean c.slot_of.new.keeper c.put_from.new.self c.find_plan.new.self.plans (g.S.Source.remaining c.args.reader.now) (g.S.Source.remaining c.put_from.new.reader) c.args.name.now (g.P.GivenPath.text c.args.path) c.in_ok-slot.slot free _ put.0 put.1,
      put_brought g.K.Keeper.holds g.K.Keeper.may_leave g.K.Keeper.clean c.slot_of.new.keeper c.put_from.new.self c.find_plan.new.self.plans _ _ c.args.name.now (g.P.GivenPath.text c.args.path) c.in_ok-slot.slot free _ put.0 put.1,
      record {
        unnamed = λ other. absurd (other c.in_ok-find_plan.ensures.named);
        judges = put_judged g.K.Keeper.holds g.K.Keeper.may_leave g.K.Keeper.clean c.slot_of.new.keeper c.put_from.new.self c.find_plan.new.self.plans _ _ c.args.name.now (g.P.GivenPath.text c.args.path) c.in_ok-slot.slot free _ put.0 put.1 c.in_ok-slot.ensures.judged;
      },
      does_then g.K.Keeper.holds g.K.Keeper.may_leave g.K.Keeper.clean c.args.self.now _ _ _ _ placed (elim put.1 [ inl reads ↦ reads.was_clean | inr h ↦ h.1.leaves.was_clean ])
          (read_refused_by g.K.Keeper.holds g.K.Keeper.may_leave g.K.Keeper.clean c.slot_of.new.keeper c.put_from.new.self c.find_plan.new.self.plans _ _ c.args.name.now (g.P.GivenPath.text c.args.path) c.in_ok-slot.slot free _ put.0 put.1),
    )

pub returns-in_err-put_from-clause-unread : goal.returns-in_err-put_from-clause-unread
returns-in_err-put_from-clause-unread g c =
    let placed = found_then g.K.Keeper.holds g.K.Keeper.may_leave g.K.Keeper.clean c.args.self.now c.find_plan.new.self _ _ (λ now. IsPlaceIn now.held c.args.name.now (g.P.GivenPath.text c.args.path) c.in_ok-slot.slot)
    (c.find_plan.ensures.looks, c.in_ok-find_plan.ensures.finds (g.P.GivenPath.text c.args.path)) c.slot_of.ensures.looks
    (λ clean now in_state planned. c.in_ok-slot.ensures.finds (λ ledger. planned) clean now in_state) in
    λ clean now in_state. elim c.in_err-put_from.ensures.put.1 [
      | inl reads ↦ (let at = placed.1 (reads.was_clean clean) now in_state in inr (at.transfer, at.named, at.listed))
      | inr h ↦ (let at = placed.1 (h.1.leaves.was_clean clean) now in_state in inr (at.transfer, at.named, at.listed))
    ]

pub returns-in_err-put_from-clause-reader : goal.returns-in_err-put_from-clause-reader
returns-in_err-put_from-clause-reader g c =
    let error = err_from_is_err_and c.from_residual-in_err-put_from.result c.from_residual-in_err-put_from.ensures.1 in
    rw (error.1, error.2) (uses_put _ _ _ _ _ _ c.in_err-put_from.ensures.reader)

pub returns-in_err-put_from-clause-store : goal.returns-in_err-put_from-clause-store
returns-in_err-put_from-clause-store g c =
    let error = err_from_is_err_and c.from_residual-in_err-put_from.result c.from_residual-in_err-put_from.ensures.1 in
    rw (error.1, error.2) (counts_after _ _ _ _ _ (no_fault _ _) c.in_ok-find_plan.ensures.store (counts_after _ _ _ _ _ (no_fault _ _) c.in_ok-slot.ensures.store
    (counts_put _ _ _ c.in_err-put_from.ensures.store.counted)))

pub returns-clause-taken : goal.returns-clause-taken
returns-clause-taken g c =
    let placed = found_then g.K.Keeper.holds g.K.Keeper.may_leave g.K.Keeper.clean c.args.self.now c.find_plan.new.self _ _ (λ now. IsPlaceIn now.held c.args.name.now (g.P.GivenPath.text c.args.path) c.in_ok-slot.slot)
    (c.find_plan.ensures.looks, c.in_ok-find_plan.ensures.finds (g.P.GivenPath.text c.args.path)) c.slot_of.ensures.looks
    (λ clean now in_state planned. c.in_ok-slot.ensures.finds (λ ledger. planned) clean now in_state) in
    let free : c.in_ok-slot.slot.is_held ≡ false = search rules in
    let put = c.in_ok-put_from.ensures.put in (
      Whole put.0,
      put.1.is_given.0,
      record { unnamed = λ other. absurd (other c.in_ok-find_plan.ensures.named); judges = (c.in_ok-slot.ensures.judged, put.1.is_given.0.within) },
      does_then g.K.Keeper.holds g.K.Keeper.may_leave g.K.Keeper.clean c.args.self.now _ _ _ _ placed put.1.writes.was_clean
          (read_taken g.K.Keeper.holds g.K.Keeper.may_leave g.K.Keeper.clean c.slot_of.new.keeper c.put_from.new.self c.find_plan.new.self.plans _ _ c.args.name.now (g.P.GivenPath.text c.args.path) c.in_ok-slot.slot free put.0 put.1),
    )

pub returns-clause-unread : goal.returns-clause-unread
returns-clause-unread g c =
    let placed = found_then g.K.Keeper.holds g.K.Keeper.may_leave g.K.Keeper.clean c.args.self.now c.find_plan.new.self _ _ (λ now. IsPlaceIn now.held c.args.name.now (g.P.GivenPath.text c.args.path) c.in_ok-slot.slot)
    (c.find_plan.ensures.looks, c.in_ok-find_plan.ensures.finds (g.P.GivenPath.text c.args.path)) c.slot_of.ensures.looks
    (λ clean now in_state planned. c.in_ok-slot.ensures.finds (λ ledger. planned) clean now in_state) in
    λ clean now in_state. (let at = placed.1 (c.in_ok-put_from.ensures.put.1.writes.was_clean clean) now in_state in inr (at.transfer, at.named, at.listed))
