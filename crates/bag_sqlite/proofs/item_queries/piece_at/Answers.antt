use Rattle.std.proofs.Common.{arith, ◌<◌, ◌^◌, w64, ap, ◌∙◌, [], ℕ, List, MatchOption, slice_index_or, subst, true, ◌/◌, ◌≡◌}
use Rattle.bag_sqlite.proofs.Words.{Blob, column, HasPieceRow, Int, PIECE, state, to_z-of_z, to_z_pos}
use Rattle.bag_sqlite.proofs.ItemLemmas.{piece_shown}
use Rattle.bag_sqlite.proofs.ReadingLemmas.{if_ok, was_open}
use Rattle.bag_sqlite.proofs.SqlLemmas.{whichever}
use Rattle.bag_sqlite.proofs.item_queries.piece_at.Goals as goal

pub returns-clause-piece : goal.returns-clause-piece
returns-clause-piece g c clean ledger o shows =
    let begun = state g.S.Store (record c.args.connection.now { in_transaction = true }) in
    let it = c.in_ok-rows.ensures.shown clean in
    let item = c.args.item in
    let n = c.args.offset / PIECE in
    let first = c.params-to_sql.ensures ∙ ap Int (to_z-of_z w64 c.args.item c.ranges.item) in
    let low : n < 2 ^ 63 = omega (arith, c.ranges.offset.fits) in
    let second = c.params-to_sql-2.ensures ∙ ap Int (to_z_pos w64 low) in
    if_ok c.first_octets.result _
    (λ piece. MatchOption piece ((body : List ℕ) → ¬ HasPieceRow o begun.now.trees item n body) (λ piece. HasPieceRow o begun.now.trees item n piece.items))
    (λ piece read. piece_shown begun (state g.S.Store it.then) c.in_ok-rows.rows.items ledger shows.schema_is shows.database.tables.held item n (rw (first, second) at it.shown) piece
    (subst (λ rows. MatchOption piece (rows ≡ []) (λ octets. column (slice_index_or rows 0 []) 0 ≡ Blob octets.items)) c.as_slice.ensures.value read)) c.first_octets.ensures

pub returns-clause-opened : goal.returns-clause-opened
returns-clause-opened g c clean =
    let it = c.in_ok-rows.ensures.shown clean in
    whichever c.first_octets.result (was_open (state g.S.Store (record c.args.connection.now { in_transaction = true })) (state g.S.Store it.then) _ _ _ it.shown)
