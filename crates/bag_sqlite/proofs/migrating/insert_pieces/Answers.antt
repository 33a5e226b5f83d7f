use Rattle.std.proofs.Common.{◌≡◌, ◌∙◌, [], arith, length, min, refl, rules, slice_range, take_all, w64, ◌+◌}
use Rattle.bag_sqlite.proofs.Words.{HasCleanDisk, PIECE, state, to_z-of_z}
use Rattle.bag_sqlite.proofs.PuttingLemmas.{cut_more, cut_nothing, cut_number, no_pieces, rows_then}
use Rattle.bag_sqlite.proofs.SqlLemmas.{nothing_same, nothing_then}
use Rattle.bag_sqlite.proofs.migrating.insert_pieces.Goals as goal

pub loop-offset-init : goal.loop-offset-init
loop-offset-init g c = record {
  kept = nothing_same;
  inside = λ clean mode. mode;
  stored = ([], cut_nothing c.args.content.now, λ clean o way. (way, no_pieces _ _));
}

pub loop-offset-preserved : goal.loop-offset-preserved
loop-offset-preserved g c =
    let old = state g.S.Store c.args.tx.now.conn.now in
    let mid = state g.S.Store c.loop-offset.tx.conn.now in
    let new = state g.S.Store c.insert_piece.new.tx.conn.now in
    let content = c.args.content.now in
    let it = c.loop-offset.invariant.stored in
    let same = to_z-of_z w64 c.args.item c.ranges.item in
    let body = slice_range content c.loop-offset.offset c.min-end.result in
    let end = c.min-end.result in
    let before = λ (clean : HasCleanDisk new). let early : HasCleanDisk mid = omega (arith, clean, c.insert_piece.ensures.kept.survives.clean) in early in
    let ends : end ≡ min (length content) (c.loop-offset.offset + PIECE) = search rules in
    record {
      kept = nothing_then c.loop-offset.invariant.kept c.insert_piece.ensures.kept;
      inside = λ clean mode. c.in_ok-insert_piece.ensures.inside clean (c.loop-offset.invariant.inside (before clean) mode);
      stored = (
        _,
        cut_more content c.loop-offset.offset end it.0 body it.1 c.loop-offset-test.true ends refl,
        rw same (λ clean o. rows_then old mid new c.args.item c.loop-offset.offset it.0 body (cut_number content c.loop-offset.offset it.0 it.1 c.loop-offset-test.true) (rw same at (it.2 (before clean) o))
            (rw same at (c.in_ok-insert_piece.ensures.added clean o))),
      );
    }

pub returns-in_err-insert_piece-clause-kept : goal.returns-in_err-insert_piece-clause-kept
returns-in_err-insert_piece-clause-kept g c = nothing_then c.loop-offset.invariant.kept c.insert_piece.ensures.kept

pub returns-clause-stored : goal.returns-clause-stored
returns-clause-stored g c =
    let it = c.loop-offset.invariant.stored in
    (it.0, it.1.cut, it.1.octets ∙ take_all c.loop-offset.offset c.args.content.now c.loop-offset-test.false, rw (to_z-of_z w64 c.args.item c.ranges.item) at it.2)
