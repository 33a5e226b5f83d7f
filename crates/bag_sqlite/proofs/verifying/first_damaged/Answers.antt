use Rattle.std.proofs.Common.{arith, w64, sym, subst, [], ◌∷◌}
use Rattle.bag_sqlite.proofs.Words.{err_from_is_err_and, HasCleanDisk, Int, items_text, items_under, state, Tells, to_z-of_z}
use Rattle.bag_sqlite.proofs.AdoptingLemmas.{ok_none, reads_then, stands_still}
use Rattle.bag_sqlite.proofs.RefusingLemmas.{no_query}
use Rattle.bag_sqlite.proofs.verifying.first_damaged.Goals as goal

pub returns-clause-passing : goal.returns-clause-passing
returns-clause-passing g c clean db stands tags plan =
    let old = state g.S.Store c.args.connection.now in
    let mid = state g.S.Store c.rows_of.new.connection in
    let early : HasCleanDisk mid = omega (arith, clean, c.damaged_in.ensures.reads.survives.clean) in
    let rows = c.in_ok-rows.rows.items in
    let told = rw (c.params-to_sql.ensures, to_z-of_z w64 c.args.transfer c.ranges.transfer, c.items_text.ensures) at (c.in_ok-rows.ensures.rows early db stands) in
    let still = stands_still old mid db (c.in_ok-rows.ensures.reads.read early) stands in
    ok_none c.damaged_in.result (λ all. (rows, told, all)) (rw c.as_slice.ensures.value at (c.damaged_in.ensures.passing clean db still tags plan))

pub returns-in_err-rows-clause-refused : goal.returns-in_err-rows-clause-refused
returns-in_err-rows-clause-refused g c clean db stands tags plan =
    let p = err_from_is_err_and c.from_residual.result c.from_residual.ensures.1 in
    rw (p.1, p.2) (no_query g.S.Store db c.args.format (items_under c.args.transfer) tt _ (rw c.items_text.ensures at (c.in_err-rows.ensures.refused clean db stands)))

pub returns-clause-refused : goal.returns-clause-refused
returns-clause-refused g c clean db stands tags plan =
    let old = state g.S.Store c.args.connection.now in
    let mid = state g.S.Store c.rows_of.new.connection in
    let early : HasCleanDisk mid = omega (arith, clean, c.damaged_in.ensures.reads.survives.clean) in
    let told = rw (c.params-to_sql.ensures, to_z-of_z w64 c.args.transfer c.ranges.transfer, c.items_text.ensures) at (c.in_ok-rows.ensures.rows early db stands) in
    let still = stands_still old mid db (c.in_ok-rows.ensures.reads.read early) stands in
    c.damaged_in.ensures.refused clean db still tags plan c.args.transfer (subst (Tells g.S.Store db (items_text c.args.format) (Int c.args.transfer ∷ [])) (sym c.as_slice.ensures.value) told)

pub returns-clause-reads : goal.returns-clause-reads
returns-clause-reads g c = reads_then c.rows_of.ensures.reads c.damaged_in.ensures.reads
