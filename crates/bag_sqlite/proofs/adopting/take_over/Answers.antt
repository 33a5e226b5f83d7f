use Rattle.std.proofs.Common.{arith, subst}
use Rattle.bag_sqlite.proofs.Words.{err_from_is_err_and, Format, HasCleanDisk, HasFormat, number_of, state}
use Rattle.bag_sqlite.proofs.AdoptedLemmas.{held_first, kept_first, kept_second, survives_moving, survives_reading, unanswered}
use Rattle.bag_sqlite.proofs.AdoptingLemmas.{left_then}
use Rattle.bag_sqlite.proofs.OpenedLemmas.{shows_offered}
use Rattle.bag_sqlite.proofs.OwnLedgerLemmas.{not_refused}
use Rattle.bag_sqlite.proofs.ReadingLemmas.{still_holds}
use Rattle.bag_sqlite.proofs.adopting.take_over.Goals as goal

pub returns-in_err-verify_ledger-clause-adopted : goal.returns-in_err-verify_ledger-clause-adopted
returns-in_err-verify_ledger-clause-adopted g c =
    let p = err_from_is_err_and c.from_residual.result c.from_residual.ensures.1 in
    let old = state g.S.Store c.args.connection.now in
    let new = state g.S.Store c.verify_ledger.new.connection in
    rw (p.1, p.2) (record {
      unchanged = c.verify_ledger.ensures.left;
      reason = c.in_err-verify_ledger.ensures.verified;
      own = λ clean ledger offers. not_refused g.S.Store old ledger (shows_offered old ledger offers).2 c.in_err-verify_ledger.field-0.0 (c.in_err-verify_ledger.ensures.verified clean);
      survives = survives_reading g.S.Store old new c.verify_ledger.ensures.survives;
    })

pub returns-in-Ok-clause-adopted : goal.returns-in-Ok-clause-adopted
returns-in-Ok-clause-adopted g c =
    let old = state g.S.Store c.args.connection.now in
    let mid = state g.S.Store c.verify_ledger.new.connection in
    let new = state g.S.Store c.migrate.new.connection in
    let it = c.in_ok-verify_ledger.ensures in
    let idle = it.idle.0 in
    let settled = g.met.S.Store.settled c.migrate.new.connection.store in
    let named = λ (early : HasCleanDisk mid). subst (λ (f : Format). HasFormat g.S.Store old.committed (number_of f)) c.in-First.is (it.verified early).named in
    let before = λ (clean : HasCleanDisk new). let early : HasCleanDisk mid = omega (arith, clean, c.migrate.ensures.survives.clean) in early in
    record {
      verified = λ clean. (_, it.verified (before clean));
      holds = λ clean ledger holds. held_first g.S.Store old new ledger (it.opened (before clean)) (named (before clean)) holds;
      keeps = λ clean ledger offers. kept_first g.S.Store old mid new idle ledger settled clean (it.left (before clean)) (c.in-Ok.ensures.moved clean).was_open (named (before clean)) (c.in-Ok.ensures.moved clean).moved offers;
      survives = survives_moving g.S.Store old mid new idle (λ early. (named early, it.left early)) it.survives c.migrate.ensures.survives;
    }

pub returns-in-Err-clause-adopted : goal.returns-in-Err-clause-adopted
returns-in-Err-clause-adopted g c =
    let old = state g.S.Store c.args.connection.now in
    let mid = state g.S.Store c.verify_ledger.new.connection in
    let new = state g.S.Store c.migrate.new.connection in
    let it = c.in_ok-verify_ledger.ensures in
    let named = λ (early : HasCleanDisk mid). subst (λ (f : Format). HasFormat g.S.Store old.committed (number_of f)) c.in-First.is (it.verified early).named in
    let before = λ (clean : HasCleanDisk new). let early : HasCleanDisk mid = omega (arith, clean, c.migrate.ensures.survives.clean) in early in
    record {
      unchanged = λ clean. left_then old mid new it.idle.1 (it.left (before clean)) (c.in-Err.ensures.unchanged clean);
      reason = λ clean. unanswered g.S.Store old c.moving_fault.result c.moving_fault.ensures.told;
      own = λ clean ledger offers. c.moving_fault.ensures.told;
      survives = survives_moving g.S.Store old mid new it.idle.0 (λ early. (named early, it.left early)) it.survives c.migrate.ensures.survives;
    }

pub returns-in-Second-clause-adopted : goal.returns-in-Second-clause-adopted
returns-in-Second-clause-adopted g c =
    let old = state g.S.Store c.args.connection.now in
    let new = state g.S.Store c.verify_ledger.new.connection in
    let it = c.in_ok-verify_ledger.ensures in
    let settled = g.met.S.Store.settled c.args.connection.now.store in
    let named = λ (clean : HasCleanDisk new). subst (λ (f : Format). HasFormat g.S.Store old.committed (number_of f)) c.in-Second.is (it.verified clean).named in
    record {
      verified = λ clean. (_, it.verified clean);
      holds = λ clean ledger holds. still_holds old new ledger clean (it.left clean) it.idle.0 it.survives holds;
      keeps = λ clean ledger offers. kept_second g.S.Store old new ledger settled clean (it.left clean) it.idle.0 it.survives (named clean) offers;
      survives = survives_reading g.S.Store old new it.survives;
    }
