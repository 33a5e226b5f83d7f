use Rattle.std.proofs.Common.{arith, sym, subst, []}
use Rattle.bag_sqlite.proofs.Words.{err_from_is_err_and, HasCleanDisk, state, Tells, the_transfers, transfers_text}
use Rattle.bag_sqlite.proofs.AdoptingLemmas.{reads_then, stands_still}
use Rattle.bag_sqlite.proofs.SqlLemmas.{on_ok}
use Rattle.bag_sqlite.proofs.RefusingLemmas.{no_query, to_transfers}
use Rattle.bag_sqlite.proofs.verifying.verify_transfers.Goals as goal

pub returns-clause-verified : goal.returns-clause-verified
returns-clause-verified g c clean db stands =
    let old = state g.S.Store c.args.connection.now in
    let mid = state g.S.Store c.rows_of.new.connection in
    let early : HasCleanDisk mid = omega (arith, clean, c.verify_rows.ensures.reads.survives.clean) in
    let told = c.in_ok-rows.ensures.rows early db stands in
    let still = stands_still old mid db (c.in_ok-rows.ensures.reads.read early) stands in
    on_ok c.verify_rows.result (λ each. record { rows = c.in_ok-rows.rows.items; told = told; each = rw c.as_slice.ensures.value at each }) (c.verify_rows.ensures.verified clean db still)

pub returns-in_err-rows-clause-refused : goal.returns-in_err-rows-clause-refused
returns-in_err-rows-clause-refused g c clean db stands =
    let p = err_from_is_err_and c.from_residual.result c.from_residual.ensures.1 in
    rw (p.1, p.2) (to_transfers g.S.Store db c.args.format _ (no_query g.S.Store db c.args.format the_transfers tt _ (c.in_err-rows.ensures.refused clean db stands)))

pub returns-clause-refused : goal.returns-clause-refused
returns-clause-refused g c clean db stands =
    let old = state g.S.Store c.args.connection.now in
    let mid = state g.S.Store c.rows_of.new.connection in
    let early : HasCleanDisk mid = omega (arith, clean, c.verify_rows.ensures.reads.survives.clean) in
    let still = stands_still old mid db (c.in_ok-rows.ensures.reads.read early) stands in
    c.verify_rows.ensures.refused clean db still (subst (Tells g.S.Store db transfers_text []) (sym c.as_slice.ensures.value) (c.in_ok-rows.ensures.rows early db stands))

pub returns-clause-reads : goal.returns-clause-reads
returns-clause-reads g c = reads_then c.rows_of.ensures.reads c.verify_rows.ensures.reads
