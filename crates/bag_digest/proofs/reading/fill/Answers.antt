use Rattle.std.proofs.Common.{rules, arith}
use Rattle.std.proofs.lemmas.Result.{err_from_is_err_and}
use Rattle.bag_digest.specs.Reading.{read_fault}
use Rattle.bag_digest.proofs.Progress.{given_before}
use Rattle.bag_digest.proofs.Filling.{filled_more}
use Rattle.bag_digest.proofs.reading.fill.Goals as goal

pub returns-in_err-n-clause-stopped : goal.returns-in_err-n-clause-stopped
returns-in_err-n-clause-stopped g c =
    let p = err_from_is_err_and c.from_residual.result c.from_residual.ensures.1 in
    rw (p.1, p.2) (given_before _ _ _ _ _ _ (read_fault c.in_err-n.field-0.0) c.loop-filled.invariant.given c.in_err-n.ensures.stopped)

pub loop-filled-preserved : goal.loop-filled-preserved
loop-filled-preserved g c = record {
  given = filled_more _ _ _ _ _ _ _ _ _ (omega arith) c.loop-filled.invariant.given c.in_ok-n.ensures.piece;
  used = search rules;
  same_room = search rules;
}
