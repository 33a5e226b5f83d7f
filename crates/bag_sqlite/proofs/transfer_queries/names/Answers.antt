use Rattle.std.proofs.Common.{◌≡◌, ◌∙◌, IsTrue, map, string_bytes, true}
use Rattle.bag_sqlite.proofs.Words.{keys_of, state}
use Rattle.bag_sqlite.proofs.NamesLemmas.{names_shown}
use Rattle.bag_sqlite.proofs.ReadingLemmas.{if_ok, texts_named, was_open}
use Rattle.bag_sqlite.proofs.transfer_queries.names.Goals as goal

pub returns-clause-names : goal.returns-clause-names
returns-clause-names g c clean ledger holds =
    let old = c.args.connection.now in
    let begun = state g.S.Store (record old { in_transaction = true }) in
    let it = c.in_ok-rows.ensures.shown clean in
    let is_open : IsTrue (state g.S.Store old).is_open = was_open begun (state g.S.Store it.then) _ _ _ it.shown in
    let (_, shows) = holds.shows is_open in
    let rows = names_shown begun (state g.S.Store it.then) _ ledger shows.schema_is shows.database.tables.held it.shown in
    if_ok c.texts_in.result _ (λ names. map string_bytes names.items ≡ keys_of ledger) (λ names read. texts_named c.as_slice.result.now names.items (keys_of ledger) (c.as_slice.ensures.value ∙ rows) read) c.texts_in.ensures
