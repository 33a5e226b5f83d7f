use Rattle.std.proofs.lemmas.Result.{err_from_is_err_and}
use Rattle.bag_digest.specs.Reading.{read_fault}
use Rattle.bag_digest.proofs.Progress.{given_before, given_piece}
use Rattle.bag_digest.proofs.reading.read_to_end_within.Goals as goal

pub returns-in_err-n-clause-stopped : goal.returns-in_err-n-clause-stopped
returns-in_err-n-clause-stopped g c =
    let p = err_from_is_err_and c.from_residual.result c.from_residual.ensures.1 in
    rw (p.1, p.2) (given_before _ _ _ _ _ _ (read_fault c.in_err-n.field-0.0) c.pieces.invariant.given c.in_err-n.ensures.stopped)

pub returns-in_err-extend_from_slice-clause-stopped : goal.returns-in_err-extend_from_slice-clause-stopped
returns-in_err-extend_from_slice-clause-stopped g c =
    let p = err_from_is_err_and c.from_residual-in_err-extend_from_slice.result c.from_residual-in_err-extend_from_slice.ensures.1 in
    rw (p.1, p.2) (given_piece _ _ _ _ _ _ _ _ c.pieces.invariant.given c.in_ok-n.ensures.piece)
