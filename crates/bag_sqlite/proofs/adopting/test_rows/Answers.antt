use Rattle.std.proofs.Common.{arith}
use Rattle.bag_sqlite.proofs.Words.{err_from_is_err_and, HasCleanDisk, state}
use Rattle.bag_sqlite.proofs.AdoptingLemmas.{reads_then, stands_still}
use Rattle.bag_sqlite.proofs.SqlLemmas.{on_ok}
use Rattle.bag_sqlite.proofs.adopting.test_rows.Goals as goal

pub returns-clause-rows : goal.returns-clause-rows
returns-clause-rows g c clean db stands =
    let s0 = state g.S.Store c.args.connection.now in
    let s1 = state g.S.Store c.test_strays.new.connection in
    let c1 : HasCleanDisk s1 = omega (arith, clean, c.test_texts.ensures.reads.survives.clean) in
    let d1 = stands_still s0 s1 db (c.test_strays.ensures.reads.read c1) stands in
    on_ok c.test_texts.result (λ texts. record { none_stray = c.in_ok-test_strays.ensures.none c1 db stands; in_text = texts }) (c.test_texts.ensures.texts clean db d1)

pub returns-in_err-test_strays-clause-refused : goal.returns-in_err-test_strays-clause-refused
returns-in_err-test_strays-clause-refused g c clean db stands =
    let p = err_from_is_err_and c.from_residual.result c.from_residual.ensures.1 in
    rw (p.1, p.2) (c.in_err-test_strays.ensures.refused clean db stands)

pub returns-clause-refused : goal.returns-clause-refused
returns-clause-refused g c clean db stands =
    let s0 = state g.S.Store c.args.connection.now in
    let s1 = state g.S.Store c.test_strays.new.connection in
    let c1 : HasCleanDisk s1 = omega (arith, clean, c.test_texts.ensures.reads.survives.clean) in
    c.test_texts.ensures.refused clean db (stands_still s0 s1 db (c.test_strays.ensures.reads.read c1) stands)

pub returns-clause-reads : goal.returns-clause-reads
returns-clause-reads g c = reads_then c.test_strays.ensures.reads c.test_texts.ensures.reads
