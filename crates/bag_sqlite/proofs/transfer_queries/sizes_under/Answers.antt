use Rattle.std.proofs.Common.{◌≡◌, ◌∙◌, IsTrue, ap, true}
use Rattle.std.proofs.Math.Facts.{to_z-of_z}
use Rattle.bag_sqlite.proofs.Words.{Int, items_of, sizes_of, state}
use Rattle.bag_sqlite.proofs.ReadingLemmas.{if_ok, was_open}
use Rattle.bag_sqlite.proofs.SqlLemmas.{whichever}
use Rattle.bag_sqlite.proofs.TransferRows.{sizes_read, sizes_shown}
use Rattle.bag_sqlite.proofs.transfer_queries.sizes_under.Goals as goal

pub returns-clause-sizes : goal.returns-clause-sizes
returns-clause-sizes g c clean ledger holds name there =
    let begun = state g.S.Store (record c.args.connection.now { in_transaction = true }) in
    let it = c.in_ok-rows.ensures.shown clean in
    let is_open : IsTrue begun.is_open = was_open begun (state g.S.Store it.then) _ _ _ it.shown in
    let (_, shows) = holds.shows is_open in
    let shown = sizes_shown begun (state g.S.Store it.then) c.in_ok-rows.rows.items ledger name c.args.transfer shows.schema_is shows.database.tables.held there (rw (c.params-to_sql.ensures ∙ ap Int (to_z-of_z c.ranges.transfer)) at it.shown) in
    if_ok c.sizes_in.result _ (λ sizes. sizes.items ≡ sizes_of (items_of ledger name))
    (λ sizes read. sizes_read sizes.items (sizes_of (items_of ledger name)) c.as_slice.result.now (c.as_slice.ensures.value ∙ shown) read) c.sizes_in.ensures

pub returns-clause-opened : goal.returns-clause-opened
returns-clause-opened g c clean =
    let begun = state g.S.Store (record c.args.connection.now { in_transaction = true }) in
    let it = c.in_ok-rows.ensures.shown clean in
    whichever c.sizes_in.result (was_open begun (state g.S.Store it.then) _ _ _ it.shown)
