use Rattle.std.proofs.Common.{[], ◌≡◌, ◌∷◌, ◌∙◌, ap, arith, slice_index_or, sym, w64}
use Rattle.bag_sqlite.proofs.Words.{Blob, body_text, column, HasCleanDisk, Int, Migrated, Shown, state, to_z-of_z}
use Rattle.bag_sqlite.proofs.MigratingLemmas.{item_moved}
use Rattle.bag_sqlite.proofs.ReadingLemmas.{same_mode, within_query, within_refusal}
use Rattle.bag_sqlite.proofs.SqlLemmas.{on_ok, within_then, within_transaction}
use Rattle.bag_sqlite.proofs.migrating.move_item.Goals as goal

pub returns-in_err-rows-clause-kept : goal.returns-in_err-rows-clause-kept
returns-in_err-rows-clause-kept g c = within_refusal _ _ c.query_all.ensures.same_reference c.query_all.ensures.survives c.in_err-rows.field-0.0 c.in_err-rows.ensures.err

pub returns-in-Some-clause-moved : goal.returns-in-Some-clause-moved
returns-in-Some-clause-moved g c clean =
    let old = state g.S.Store c.args.tx.now.conn.now in
    let mid = state g.S.Store c.query_all.new.self.conn.now in
    let new = state g.S.Store c.store_content.new.tx.conn.now in
    let early : HasCleanDisk mid = omega (arith, clean, c.store_content.ensures.kept.survives.clean) in
    let rows = c.in_ok-rows.rows.items in
    let shown : Shown body_text (Int c.args.item ∷ []) old mid rows = rw (c.params-to_sql.ensures ∙ ap Int (to_z-of_z w64 c.args.item c.ranges.item)) at (c.in_ok-rows.ensures.ok early) in
    let blob = rw c.in-Some.is at c.first_body.ensures in
    let read : column (slice_index_or rows 0 []) 0 ≡ Blob c.in-Some.body.now = ap (λ rs. column (slice_index_or rs 0 []) 0) (sym c.as_slice.ensures.value) ∙ blob in
    on_ok c.store_content.result (λ stored content way has.
    item_moved old mid new rows c.args.item c.args.transfer c.args.path.now content c.in-Some.body.now way has shown read (rw (to_z-of_z w64 c.args.transfer c.ranges.transfer) at (stored Migrated)))
    (c.store_content.ensures.stored clean)

pub returns-in-Some-clause-inside : goal.returns-in-Some-clause-inside
returns-in-Some-clause-inside g c clean =
    let old = state g.S.Store c.args.tx.now.conn.now in
    let mid = state g.S.Store c.query_all.new.self.conn.now in
    let early : HasCleanDisk mid = omega (arith, clean, c.store_content.ensures.kept.survives.clean) in
    on_ok c.store_content.result (λ stays mode. stays (same_mode old mid _ _ _ (c.in_ok-rows.ensures.ok early) ∙ mode)) (c.store_content.ensures.inside clean)

pub returns-in-Some-clause-kept : goal.returns-in-Some-clause-kept
returns-in-Some-clause-kept g c =
    let old = state g.S.Store c.args.tx.now.conn.now in
    let mid = state g.S.Store c.query_all.new.self.conn.now in
    within_then (within_query _ _ c.query_all.ensures.same_reference c.query_all.ensures.survives c.in_ok-rows.rows.items c.in_ok-rows.ensures.ok)
    (λ early mode. same_mode old mid _ _ _ (c.in_ok-rows.ensures.ok early) ∙ mode) (within_transaction c.store_content.ensures.kept)

pub returns-clause-kept : goal.returns-clause-kept
returns-clause-kept g c = within_query _ _ c.query_all.ensures.same_reference c.query_all.ensures.survives c.in_ok-rows.rows.items c.in_ok-rows.ensures.ok
