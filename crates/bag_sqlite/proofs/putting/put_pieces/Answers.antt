use Rattle.std.proofs.Common.{rules, ◌≡◌, [], w64, arith, length}
use Rattle.bag_sqlite.proofs.Words.{err_from_is_err_and, given_before, given_piece, PIECE, read_fault, state, to_z-of_z}
use Rattle.bag_sqlite.proofs.PuttingLemmas.{next_number, no_pieces, read_last, read_more, read_nothing, read_to_end, refused_reading, rows_then, uses_then}
use Rattle.bag_sqlite.proofs.SqlLemmas.{nothing_same, nothing_then}
use Rattle.bag_sqlite.proofs.putting.put_pieces.Goals as goal

pub pieces-init : goal.pieces-init
pieces-init g c = record {
  kept = nothing_same;
  used = search rules;
  room = search rules;
  read = ([], read_nothing _ c.args.want.now c.new-multi.result c.algs.result c.algs.ensures c.new-multi.ensures, λ clean o way. (way, no_pieces _ _));
}

pub returns-in_err-n-clause-read : goal.returns-in_err-n-clause-read
returns-in_err-n-clause-read g c =
    let p = err_from_is_err_and c.from_residual.result c.from_residual.ensures.1 in
    let fault = c.in_err-n.field-0.0 in
    rw (p.1, p.2) (λ told. refused_reading _ _ c.args.want.now fault (given_before _ _ _ _ _ _ (read_fault fault) c.pieces.invariant.read.1.given c.in_err-n.ensures.stopped))

pub returns-in_err-n-clause-uses : goal.returns-in_err-n-clause-uses
returns-in_err-n-clause-uses g c =
    let p = err_from_is_err_and c.from_residual.result c.from_residual.ensures.1 in
    let was = c.in_err-n.was in
    uses_then (g.met.R.Source.keeps_on _ _ _) c.pieces.invariant.used c.fill.ensures.uses (λ e. cc (e, p.1, p.2, was)) (λ e. cc (e, p.1, p.2, was))

pub returns-then-n-eq0-clause-read : goal.returns-then-n-eq0-clause-read
returns-then-n-eq0-clause-read g c =
    let it = c.pieces.invariant.read in
    (it.0, read_to_end _ _ _ c.args.want.now _ _ c.in_ok-n.n it.0 _ it.1 c.in_ok-n.ensures.piece c.finish.result c.if-n-eq0.true c.finish.ensures, rw (to_z-of_z w64 c.args.item c.ranges.item) at it.2)

pub returns-then-n-eq0-clause-uses : goal.returns-then-n-eq0-clause-uses
returns-then-n-eq0-clause-uses g c =
    let was = c.in_ok-n.was in
    uses_then (g.met.R.Source.keeps_on _ _ _) c.pieces.invariant.used c.fill.ensures.uses (λ e. cc e) (λ e. cc (e, was))

pub returns-in_err-insert_piece-clause-read : goal.returns-in_err-insert_piece-clause-read
returns-in_err-insert_piece-clause-read g c =
    let p = err_from_is_err_and c.from_residual-in_err-insert_piece.result c.from_residual-in_err-insert_piece.ensures.1 in
    rw (p.1, p.2) (λ told. given_piece _ _ _ _ _ _ _ _ c.pieces.invariant.read.1.given c.in_ok-n.ensures.piece)

pub returns-in_err-insert_piece-clause-uses : goal.returns-in_err-insert_piece-clause-uses
returns-in_err-insert_piece-clause-uses g c =
    let p = err_from_is_err_and c.from_residual-in_err-insert_piece.result c.from_residual-in_err-insert_piece.ensures.1 in
    let was = c.in_ok-n.was in
    uses_then (g.met.R.Source.keeps_on _ _ _) c.pieces.invariant.used c.fill.ensures.uses (λ e. cc (e, p.1, p.2)) (λ e. cc (e, was))

pub returns-then-n-buffer-clause-read : goal.returns-then-n-buffer-clause-read
returns-then-n-buffer-clause-read g c =
    let old = state g.S.Store c.args.tx.now.conn.now in
    let mid = state g.S.Store c.pieces.tx.conn.now in
    let new = state g.S.Store c.insert_piece.new.tx.conn.now in
    let it = c.pieces.invariant.read in
    let n = c.in_ok-n.n in
    let last = read_last _ _ _ c.args.want.now _ _ n it.0 _ it.1 c.in_ok-n.ensures.piece c.update.new.self c.update.ensures c.finish-then-n-buffer.result (omega (arith, c.if-n-eq0.false))
    (search rules) (c.in_ok-n.ensures.short c.if-n-buffer.true) c.finish-then-n-buffer.ensures in
    let same = to_z-of_z w64 c.args.item c.ranges.item in (
      _,
      last,
      λ clean o. rows_then old mid new c.args.item c.pieces.total it.0 _ (next_number _ _ c.args.want.now _ _ it.0 it.1) (rw same at (it.2 (omega (arith, clean, c.insert_piece.ensures.kept.survives.clean)) o))
          (rw same at (c.in_ok-insert_piece.ensures.added clean o)),
    )

pub returns-then-n-buffer-clause-uses : goal.returns-then-n-buffer-clause-uses
returns-then-n-buffer-clause-uses g c =
    let was = c.in_ok-n.was in
    uses_then (g.met.R.Source.keeps_on _ _ _) c.pieces.invariant.used c.fill.ensures.uses (λ e. cc e) (λ e. cc (e, was))

pub pieces-preserved : goal.pieces-preserved
pieces-preserved g c =
    let old = state g.S.Store c.args.tx.now.conn.now in
    let mid = state g.S.Store c.pieces.tx.conn.now in
    let new = state g.S.Store c.insert_piece.new.tx.conn.now in
    let it = c.pieces.invariant.read in
    let was = c.in_ok-n.was in
    let same = to_z-of_z w64 c.args.item c.ranges.item in
    let room : length c.fill.new.buffer ≡ PIECE = search rules in
    record {
      kept = nothing_then c.pieces.invariant.kept c.insert_piece.ensures.kept;
      used = uses_then (g.met.R.Source.keeps_on _ _ _) c.pieces.invariant.used c.fill.ensures.uses (λ none. absurd none) (λ e. cc (e, was));
      room = room;
      read = (
        _,
        read_more _ _ _ c.args.want.now _ _ c.in_ok-n.n it.0 _ it.1 c.in_ok-n.ensures.piece c.update.new.self c.update.ensures (omega (arith, room, c.if-n-buffer.false, c.in_ok-n.ensures.piece.bound)),
        rw same (λ clean o. rows_then old mid new c.args.item c.pieces.total it.0 _ (next_number _ _ c.args.want.now _ _ it.0 it.1) (rw same at (it.2 (omega (arith, clean, c.insert_piece.ensures.kept.survives.clean)) o))
            (rw same at (c.in_ok-insert_piece.ensures.added clean o))),
      );
    }

pub returns-in_err-insert_piece-clause-kept : goal.returns-in_err-insert_piece-clause-kept
returns-in_err-insert_piece-clause-kept g c = nothing_then c.pieces.invariant.kept c.insert_piece.ensures.kept

pub returns-then-n-buffer-clause-kept : goal.returns-then-n-buffer-clause-kept
returns-then-n-buffer-clause-kept g c = nothing_then c.pieces.invariant.kept c.insert_piece.ensures.kept
