use Rattle.std.proofs.Common.{◌≡◌, ◌++◌, take}
use Rattle.std.proofs.lemmas.Result.{err_from_is_err_and}
use Rattle.bag_writer.specs.declared.payload.CopyFault.TheVariants.{Sink}
use Rattle.bag_writer.proofs.OctetSteps.{found_hashed, read_stops, write_failed}
use Rattle.bag_writer.proofs.payload_in_turn.copy_octets.Goals as goal

pub returns-in_err-n-clause-copied : goal.returns-in_err-n-clause-copied
returns-in_err-n-clause-copied g c =
    let p = err_from_is_err_and c.from_residual.result c.from_residual.ensures.1 in
    rw (p.1, p.2) (read_stops c.pieces.invariant.copied.1 c.in_err-n.field-0.0 c.in_err-n.ensures.stopped)

pub returns-in_err-write_piece-clause-copied : goal.returns-in_err-write_piece-clause-copied
returns-in_err-write_piece-clause-copied g c =
    let p = err_from_is_err_and c.from_residual-in_err-write_piece.result c.from_residual-in_err-write_piece.ensures.1 in
    let e : c.in_err-write_piece.field-0.0 ≡ Sink = c.in_err-write_piece.ensures.err in
    rw (p.1, p.2, e) (write_failed c.pieces.invariant.copied.1 c.in_ok-n.ensures.piece c.in_err-write_piece.ensures.written)

pub returns-then-is_last-2-clause-copied : goal.returns-then-is_last-2-clause-copied
returns-then-is_last-2-clause-copied g c =
    let copied = c.pieces.invariant.copied in
    let hashed = c.update.ensures c.args.set copied.0 copied.1.hashed in
    found_hashed copied.1 c.in_ok-n.ensures.piece (c.in_ok-n.ensures.short c.if-is_last-2.true) (c.finish.ensures c.args.set (copied.0 ++ take c.in_ok-n.n c.fill.new.buffer) hashed) c.in_ok-write_piece.ensures.written
