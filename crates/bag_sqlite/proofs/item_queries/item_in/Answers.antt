use Rattle.std.proofs.Common.{w64, ap, ◌∙◌, [], ℕ, ℤ, MatchOption, pos, slice_index_or, subst, true, ◌≡◌}
use Rattle.bag_sqlite.proofs.Words.{column, HasItemRow, Int, state, to_z-of_z}
use Rattle.bag_sqlite.proofs.ItemLemmas.{item_shown}
use Rattle.bag_sqlite.proofs.ReadingLemmas.{if_ok, was_open}
use Rattle.bag_sqlite.proofs.SqlLemmas.{whichever}
use Rattle.bag_sqlite.proofs.item_queries.item_in.Goals as goal

pub returns-clause-item : goal.returns-clause-item
returns-clause-item g c clean ledger o shows =
    let begun = state g.S.Store (record c.args.connection.now { in_transaction = true }) in
    let it = c.in_ok-rows.ensures.shown clean in
    let transfer = c.args.transfer in
    let path = c.args.path.now in
    let first = c.params-to_sql.ensures ∙ ap Int (to_z-of_z w64 c.args.transfer c.ranges.transfer) in
    if_ok c.first_item.result _
    (λ item. MatchOption item ((number : ℤ) (size : ℕ) → ¬ HasItemRow o begun.now.trees number transfer path size) (λ item. HasItemRow o begun.now.trees item.number transfer path item.size))
    (λ item read. item_shown begun (state g.S.Store it.then) c.in_ok-rows.rows.items ledger shows.schema_is shows.database.tables.held transfer path (rw (first, c.params-to_sql-2.ensures) at it.shown) item
    (subst (λ rows. MatchOption item (rows ≡ []) (λ item. (column (slice_index_or rows 0 []) 0 ≡ Int item.number) × (column (slice_index_or rows 0 []) 1 ≡ Int (pos item.size)))) c.as_slice.ensures.value read)) c.first_item.ensures

pub returns-clause-opened : goal.returns-clause-opened
returns-clause-opened g c clean =
    let it = c.in_ok-rows.ensures.shown clean in
    whichever c.first_item.result (was_open (state g.S.Store (record c.args.connection.now { in_transaction = true })) (state g.S.Store it.then) _ _ _ it.shown)
