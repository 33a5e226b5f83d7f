use Rattle.std.proofs.Common.{rules, ◌≡◌, ◌∙◌, ◌++◌, ◌∷◌, [], append_assoc, length, refl, sym, ap, arith}
use Rattle.bag_ledger.specs.declared.keeper_faults.KeepFault.TheVariants.{Store}
use Rattle.bag_receiver.specs.AuditsInside.{PassesTest}
use Rattle.bag_receiver.proofs.AuditLemmas.{counts_since, none_left, reads_nothing, reads_on, room_after, still_passes}
use Rattle.bag_receiver.proofs.CountLemmas.{counts_on, no_fault}
use Rattle.bag_receiver.proofs.ValidSizes.{comes_among, held_rising}
use Rattle.bag_receiver.proofs.Words.{err_from_is_err_and}
use Rattle.bag_receiver.proofs.audit.passing_sizes.Goals as goal

pub returns-in_err-sizes-clause-keeper : goal.returns-in_err-sizes-clause-keeper
returns-in_err-sizes-clause-keeper g c =
    let error = err_from_is_err_and c.from_residual.result c.from_residual.ensures.1 in
    rw (error.1, error.2) (record {
      reads = c.sizes.ensures.reads;
      counted = counts_on _ Store _ _ c.in_err-sizes.ensures.store.counted;
    })

pub loop-size-init : goal.loop-size-init
loop-size-init g c = record {
  room = search rules;
  reads = reads_nothing g.K.Keeper.holds g.K.Keeper.may_leave g.K.Keeper.clean c.sizes.new.self;
  stays = refl;
  sound = λ tags planned. c.none-audited.ensures.sound tags;
  whole = λ clean ledger held planned all. ([], refl, c.none-audited.ensures.whole);
}

pub returns-in_err-finding-clause-keeper : goal.returns-in_err-finding-clause-keeper
returns-in_err-finding-clause-keeper g c =
    let error = err_from_is_err_and c.from_residual-in_err-finding.result c.from_residual-in_err-finding.ensures.1 in
    rw (error.1, error.2) (record {
      reads = reads_on g.K.Keeper.holds g.K.Keeper.may_leave g.K.Keeper.clean c.args.keeper.now c.sizes.new.self c.read_again.new.keeper c.sizes.ensures.reads
          (reads_on g.K.Keeper.holds g.K.Keeper.may_leave g.K.Keeper.clean c.sizes.new.self c.loop-size.keeper c.read_again.new.keeper c.loop-size.invariant.reads c.read_again.ensures.keeper.reads);
      counted = counts_since _ _ _ _ _ (c.in_ok-sizes.ensures.store.counted.stays (no_fault c.in_ok-sizes.sizes Store)) c.loop-size.invariant.stays (counts_on _ Store _ _ c.in_err-finding.ensures.keeper.counted);
    })

pub loop-size-preserved : goal.loop-size-preserved
loop-size-preserved g c =
    let same = ap length c.as_mut_slice.ensures.value in
    let size = c.in-Some.size in
    let after = c.next.new.self.rest.items in
    record {
      room = room_after c.loop-size.buffer.len c.read_again.new.buffer c.loop-size.buffer.items (omega (arith, same, c.as_mut_slice.ensures.len)) (c.read_again.ensures.room ∙ same) c.loop-size.invariant.room;
      reads = reads_on g.K.Keeper.holds g.K.Keeper.may_leave g.K.Keeper.clean c.sizes.new.self c.loop-size.keeper c.read_again.new.keeper c.loop-size.invariant.reads c.read_again.ensures.keeper.reads;
      stays = c.in_ok-finding.ensures.keeper.counted.stays (no_fault c.in_ok-finding.finding Store) ∙ c.loop-size.invariant.stays;
      sound = λ tags planned. c.in_ok-audited.ensures.sound tags (c.loop-size.invariant.sound tags planned) (c.in_ok-finding.ensures.some tags planned);
      whole = λ clean ledger held planned all.
          let before = c.read_again.ensures.keeper.reads.was_clean clean in
          let (done, here, whole) = c.loop-size.invariant.whole before ledger held planned all in
          let joined : done ++ size ∷ after ≡ c.into_iter-size-iterator.result.rest.items = sym (ap (λ rest. done ++ rest) c.in-Some.ensures.steps.0) ∙ here in
          let rising = comes_among done size after c.into_iter-size-iterator.result.rest.items joined (held_rising ledger c.args.name.now c.args.plan.now c.into_iter-size-iterator.result.rest.items planned all) in
          let passes = still_passes g.K.Keeper.holds c.loop-size.keeper ledger c.args.name.now c.args.plan.now done after size (PassesTest c.in_ok-finding.finding)
          (c.loop-size.invariant.reads.held before ledger held) planned (joined ∙ all) (c.in_ok-finding.ensures.judged clean) in
          (done ++ size ∷ [], append_assoc done (size ∷ []) after ∙ joined, c.in_ok-audited.ensures.whole planned.0 done (c.loop-size.invariant.sound planned.0 planned.1) whole rising passes);
    }

pub returns-clause-found : goal.returns-clause-found
returns-clause-found g c = λ clean ledger held planned.
    let none : length c.loop-size.size-iterator.rest.items ≡ 0 = search rules in
    let told : c.into_iter-size-iterator.result.rest.items ≡ c.in_ok-sizes.sizes.items = search rules in
    let was_clean = c.loop-size.invariant.reads.was_clean clean in
    let all = told ∙ c.in_ok-sizes.ensures.sizes was_clean ledger held in
    let (done, here, whole) = c.loop-size.invariant.whole clean ledger (c.sizes.ensures.reads.held was_clean ledger held) planned all in
    let every = sym (none_left done c.loop-size.size-iterator.rest.items none) ∙ here ∙ all in
    c.in_ok-settle.ensures.whole planned.0 done (c.loop-size.invariant.sound planned.0 planned.1) whole (held_rising ledger c.args.name.now c.args.plan.now done planned every) ∙ every
