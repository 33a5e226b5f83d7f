use Rattle.std.proofs.Common.{arith, inl, inr, refl}
use Rattle.bag_sqlite.proofs.Words.{err_from_is_err_and, HasCleanDisk, IsNoLedger, state, strays}
use Rattle.bag_sqlite.proofs.AdoptingLemmas.{reads_then, stands_still}
use Rattle.bag_sqlite.proofs.SqlLemmas.{on_ok}
use Rattle.bag_sqlite.proofs.RefusingLemmas.{none_for}
use Rattle.bag_sqlite.proofs.adopting.test_strays.Goals as goal

pub returns-clause-none : goal.returns-clause-none
returns-clause-none g c clean db stands =
    let s0 = state g.S.Store c.args.connection.now in
    let s1 = state g.S.Store c.test_none.new.connection in
    let s2 = state g.S.Store c.test_none-2.new.connection in
    let c2 : HasCleanDisk s2 = omega (arith, clean, c.test_items.ensures.reads.survives.clean) in
    let c1 : HasCleanDisk s1 = omega (arith, c2, c.test_none-2.ensures.reads.survives.clean) in
    let d1 = stands_still s0 s1 db (c.test_none.ensures.reads.read c1) stands in
    let d2 = stands_still s1 s2 db (c.test_none-2.ensures.reads.read c2) d1 in
    on_ok c.test_items.result (λ items. (c.in_ok-test_none.ensures.none c1 db stands, (c.in_ok-test_none-2.ensures.none c2 db d1, items))) (c.test_items.ensures.none clean db d2)

pub returns-in_err-test_none-clause-refused : goal.returns-in_err-test_none-clause-refused
returns-in_err-test_none-clause-refused g c clean db stands =
    let p = err_from_is_err_and c.from_residual.result c.from_residual.ensures.1 in
    rw (p.1, p.2) (none_for _ (IsNoLedger g.S.Store db c.args.format) (λ no. (strays _, inl refl, no)) _ (c.in_err-test_none.ensures.refused clean db stands))

pub returns-in_err-test_none-2-clause-refused : goal.returns-in_err-test_none-2-clause-refused
returns-in_err-test_none-2-clause-refused g c clean db stands =
    let s0 = state g.S.Store c.args.connection.now in
    let s1 = state g.S.Store c.test_none.new.connection in
    let c1 : HasCleanDisk s1 = omega (arith, clean, c.test_none-2.ensures.reads.survives.clean) in
    let p = err_from_is_err_and c.from_residual-in_err-test_none-2.result c.from_residual-in_err-test_none-2.ensures.1 in
    rw (p.1, p.2) (none_for _ (IsNoLedger g.S.Store db c.args.format) (λ no. (strays _, inr (inl refl), no)) _ (c.in_err-test_none-2.ensures.refused clean db (stands_still s0 s1 db (c.test_none.ensures.reads.read c1) stands)))

pub returns-clause-refused : goal.returns-clause-refused
returns-clause-refused g c clean db stands =
    let s0 = state g.S.Store c.args.connection.now in
    let s1 = state g.S.Store c.test_none.new.connection in
    let s2 = state g.S.Store c.test_none-2.new.connection in
    let c2 : HasCleanDisk s2 = omega (arith, clean, c.test_items.ensures.reads.survives.clean) in
    let c1 : HasCleanDisk s1 = omega (arith, c2, c.test_none-2.ensures.reads.survives.clean) in
    let d1 = stands_still s0 s1 db (c.test_none.ensures.reads.read c1) stands in
    c.test_items.ensures.refused clean db (stands_still s1 s2 db (c.test_none-2.ensures.reads.read c2) d1)

pub returns-in_err-test_none-2-clause-reads : goal.returns-in_err-test_none-2-clause-reads
returns-in_err-test_none-2-clause-reads g c = reads_then c.test_none.ensures.reads c.test_none-2.ensures.reads

pub returns-clause-reads : goal.returns-clause-reads
returns-clause-reads g c = reads_then c.test_none.ensures.reads (reads_then c.test_none-2.ensures.reads c.test_items.ensures.reads)
