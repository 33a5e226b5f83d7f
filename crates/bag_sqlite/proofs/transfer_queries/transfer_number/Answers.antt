use Rattle.std.proofs.Common.{IsTrue, MatchOption, None, subst, ◌≡◌, [], slice_index_or, true}
use Rattle.bag_sqlite.proofs.Words.{column, HasTransferRow, Int, state, transfer_of}
use Rattle.bag_sqlite.proofs.ReadingLemmas.{if_ok, was_open}
use Rattle.bag_sqlite.proofs.SqlLemmas.{whichever}
use Rattle.bag_sqlite.proofs.TransferLemmas.{number_shown}
use Rattle.bag_sqlite.proofs.transfer_queries.transfer_number.Goals as goal

pub returns-clause-number : goal.returns-clause-number
returns-clause-number g c clean ledger holds =
    let old = c.args.connection.now in
    let begun = state g.S.Store (record old { in_transaction = true }) in
    let it = c.in_ok-rows.ensures.shown clean in
    let is_open : IsTrue (state g.S.Store old).is_open = was_open begun (state g.S.Store it.then) _ _ _ it.shown in
    let (_, shows) = holds.shows is_open in
    if_ok c.first_number.result _ (λ number. MatchOption number (transfer_of ledger c.args.name.now ≡ None) (HasTransferRow begun.now.trees c.args.name.now))
    (λ number read. number_shown begun (state g.S.Store it.then) c.in_ok-rows.rows.items ledger c.args.name.now shows.schema_is shows.database.tables.held (rw c.params-to_sql.ensures at it.shown) number
    (subst (λ rows. MatchOption number (rows ≡ []) (λ n. column (slice_index_or rows 0 []) 0 ≡ Int n)) c.as_slice.ensures.value read)) c.first_number.ensures

pub returns-clause-opened : goal.returns-clause-opened
returns-clause-opened g c clean =
    let it = c.in_ok-rows.ensures.shown clean in
    whichever c.first_number.result (was_open (state g.S.Store (record c.args.connection.now { in_transaction = true })) (state g.S.Store it.then) _ _ _ it.shown)
