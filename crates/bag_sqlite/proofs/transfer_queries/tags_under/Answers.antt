use Rattle.std.proofs.Common.{◌≡◌, ◌∙◌, IsTrue, Some, ap, sym, true}
use Rattle.std.proofs.Math.Facts.{to_z-of_z}
use Rattle.bag_sqlite.proofs.Words.{Int, state, tags_of}
use Rattle.bag_sqlite.proofs.ReadingLemmas.{if_ok, was_open}
use Rattle.bag_sqlite.proofs.SqlLemmas.{whichever}
use Rattle.bag_sqlite.proofs.TransferRows.{tags_shown}
use Rattle.bag_sqlite.proofs.transfer_queries.tags_under.Goals as goal

pub returns-clause-tags : goal.returns-clause-tags
returns-clause-tags g c clean ledger holds name there =
    let begun = state g.S.Store (record c.args.connection.now { in_transaction = true }) in
    let it = c.in_ok-rows.ensures.shown clean in
    let is_open : IsTrue begun.is_open = was_open begun (state g.S.Store it.then) _ _ _ it.shown in
    let (_, shows) = holds.shows is_open in
    let shown = tags_shown begun (state g.S.Store it.then) c.in_ok-rows.rows.items ledger name c.args.transfer shows.schema_is shows.database.tables.held there (rw (c.params-to_sql.ensures ∙ ap Int (to_z-of_z c.ranges.transfer)) at it.shown) in
    if_ok c.tag_set_in.result (λ tags. tags ≡ shown.0) (λ tags. tags_of ledger name ≡ Some tags) (λ tags is. shown.1 ∙ ap Some (sym is))
    (c.tag_set_in.ensures.files shown.0 shown.2 (c.as_slice.ensures.value ∙ shown.3))

pub returns-clause-opened : goal.returns-clause-opened
returns-clause-opened g c clean =
    let begun = state g.S.Store (record c.args.connection.now { in_transaction = true }) in
    let it = c.in_ok-rows.ensures.shown clean in
    whichever c.tag_set_in.result (was_open begun (state g.S.Store it.then) _ _ _ it.shown)
