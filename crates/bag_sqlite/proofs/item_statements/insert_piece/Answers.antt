use Rattle.std.proofs.Common.{Ok, [], ◌∷◌, ◌<◌, ◌/◌, ◌^◌, ◌∙◌, ap, arith, pos, w64}
use Rattle.bag_sqlite.proofs.Words.{Blob, ExecutesInside, Int, PIECE, state, to_z-of_z, to_z_pos}
use Rattle.bag_sqlite.proofs.RowLemmas.{piece_inserted}
use Rattle.bag_sqlite.proofs.RowMeanings.{new_piece_text}
use Rattle.bag_sqlite.proofs.SqlLemmas.{nothing_executed}
use Rattle.bag_sqlite.proofs.item_statements.insert_piece.Goals as goal

pub returns-clause-added : goal.returns-clause-added
returns-clause-added g c clean o way =
    let old = state g.S.Store c.args.tx.now.conn.now in
    let new = state g.S.Store c.execute.new.self.conn.now in
    let n = c.args.offset / PIECE in
    let low : n < 2 ^ 63 = omega (arith, c.ranges.offset.fits) in
    let first = c.params-to_sql.ensures ∙ ap Int (to_z-of_z w64 c.args.item c.ranges.item) in
    let second = c.params-to_sql-2.ensures ∙ ap Int (to_z_pos w64 low) in
    let ran : ExecutesInside 0 new_piece_text (Int c.args.item ∷ Int (pos n) ∷ Blob c.args.body.now ∷ []) old new (Ok c.in_ok-execute.field-0) =
    rw (first, second, c.params-to_sql-3.ensures) at (c.in_ok-execute.ensures.runs clean way.mode) in
    piece_inserted old new c.args.item n c.args.body.now c.in_ok-execute.field-0 way ran

pub returns-in_err-execute-clause-kept : goal.returns-in_err-execute-clause-kept
returns-in_err-execute-clause-kept g c = nothing_executed _ _ c.execute.result c.execute.ensures.same_reference (λ outside. (c.execute.ensures.ended outside).1) c.execute.ensures.runs c.execute.ensures.survives

pub returns-clause-inside : goal.returns-clause-inside
returns-clause-inside g c clean mode = (c.in_ok-execute.ensures.runs clean mode).1.mode
