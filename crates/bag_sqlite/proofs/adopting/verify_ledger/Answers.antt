use Rattle.std.proofs.Common.{IsTrue, arith, refl, rules}
use Rattle.bag_sqlite.proofs.Words.{err_from_is_err_and, HasCleanDisk, Stands, state}
use Rattle.bag_sqlite.proofs.AdoptingLemmas.{stands_still}
use Rattle.bag_sqlite.proofs.RefusingLemmas.{by_format, in_order, to_adopt}
use Rattle.bag_sqlite.proofs.adopting.verify_ledger.Goals as goal

pub returns-clause-verified : goal.returns-clause-verified
returns-clause-verified g c clean =
    let s0 = state g.S.Store c.args.connection.now in
    let s1 = state g.S.Store c.format_of.new.connection in
    let s2 = state g.S.Store c.test_rows.new.connection in
    let c2 : HasCleanDisk s2 = omega (arith, clean, c.verify_transfers.ensures.reads.survives.clean) in
    let c1 : HasCleanDisk s1 = omega (arith, c2, c.test_rows.ensures.reads.survives.clean) in
    let db = s0.committed in
    let idle : IsTrue c.is_autocommit.result = search rules in
    let d0 : Stands s0 db = λ is_open. (c.is_autocommit.ensures.settled idle is_open, refl) in
    let d1 = stands_still s0 s1 db (c.format_of.ensures.reads.read c1) d0 in
    let d2 = stands_still s1 s2 db (c.test_rows.ensures.reads.read c2) d1 in
    record { named = c.in_ok-format.ensures.format c1 db d0; rows = c.in_ok-test_rows.ensures.rows c2 db d1; transfers = c.in_ok-verify_transfers.ensures.verified clean db d2 }

pub returns-in_err-format-clause-verified : goal.returns-in_err-format-clause-verified
returns-in_err-format-clause-verified g c clean =
    let s0 = state g.S.Store c.args.connection.now in
    let db = s0.committed in
    let idle : IsTrue c.is_autocommit.result = search rules in
    let d0 : Stands s0 db = λ is_open. (c.is_autocommit.ensures.settled idle is_open, refl) in
    let p = err_from_is_err_and c.from_residual.result c.from_residual.ensures.1 in
    rw (p.1, p.2) (by_format g.S.Store db _ (c.in_err-format.ensures.refused clean db d0))

pub returns-in_err-test_rows-clause-verified : goal.returns-in_err-test_rows-clause-verified
returns-in_err-test_rows-clause-verified g c clean =
    let s0 = state g.S.Store c.args.connection.now in
    let s1 = state g.S.Store c.format_of.new.connection in
    let db = s0.committed in
    let idle : IsTrue c.is_autocommit.result = search rules in
    let d0 : Stands s0 db = λ is_open. (c.is_autocommit.ensures.settled idle is_open, refl) in
    let p = err_from_is_err_and c.from_residual-in_err-test_rows.result c.from_residual-in_err-test_rows.ensures.1 in
    let c1 : HasCleanDisk s1 = omega (arith, clean, c.test_rows.ensures.reads.survives.clean) in
    rw (p.1, p.2) (to_adopt g.S.Store db c.in_ok-format.format (c.in_ok-format.ensures.format c1 db d0) _ (c.in_err-test_rows.ensures.refused clean db (stands_still s0 s1 db (c.format_of.ensures.reads.read c1) d0)))

pub returns-in_err-verify_transfers-clause-verified : goal.returns-in_err-verify_transfers-clause-verified
returns-in_err-verify_transfers-clause-verified g c clean =
    let s0 = state g.S.Store c.args.connection.now in
    let s1 = state g.S.Store c.format_of.new.connection in
    let s2 = state g.S.Store c.test_rows.new.connection in
    let c2 : HasCleanDisk s2 = omega (arith, clean, c.verify_transfers.ensures.reads.survives.clean) in
    let c1 : HasCleanDisk s1 = omega (arith, c2, c.test_rows.ensures.reads.survives.clean) in
    let db = s0.committed in
    let idle : IsTrue c.is_autocommit.result = search rules in
    let d0 : Stands s0 db = λ is_open. (c.is_autocommit.ensures.settled idle is_open, refl) in
    let d1 = stands_still s0 s1 db (c.format_of.ensures.reads.read c1) d0 in
    let d2 = stands_still s1 s2 db (c.test_rows.ensures.reads.read c2) d1 in
    let p = err_from_is_err_and c.from_residual-in_err-verify_transfers.result c.from_residual-in_err-verify_transfers.ensures.1 in
    rw (p.1, p.2) (in_order g.S.Store db c.in_ok-format.format (c.in_ok-format.ensures.format c1 db d0) _ (c.in_ok-test_rows.ensures.rows c2 db d1) (c.in_err-verify_transfers.ensures.refused clean db d2))
