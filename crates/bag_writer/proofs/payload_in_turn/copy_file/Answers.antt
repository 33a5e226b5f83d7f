use Rattle.std.proofs.Common.{[], inl}
use Rattle.std.proofs.lemmas.Result.{err_from_is_err_and}
use Rattle.bag_writer.specs.declared.payload.CopyFault.TheVariants.{Sink}
use Rattle.bag_writer.proofs.FileSteps.{none_until, not_ended, part_begun, until_sink}
use Rattle.bag_writer.proofs.payload_in_turn.copy_file.Goals as goal

pub returns-in_err-file-clause-copied : goal.returns-in_err-file-clause-copied
returns-in_err-file-clause-copied g c =
    let p = err_from_is_err_and c.from_residual.result c.from_residual.ensures.1 in
    rw (p.1, p.2) ([], (none_until _ Sink (λ e. cc), λ rest. inl c.in_err-file.ensures.kept))

pub returns-in_err-found-clause-copied : goal.returns-in_err-found-clause-copied
returns-in_err-found-clause-copied g c =
    let p = err_from_is_err_and c.from_residual-in_err-found.result c.from_residual-in_err-found.ensures.1 in
    let copied = c.in_err-found.ensures.copied in
    rw (p.1, p.2) (copied.0, (copied.1.0, part_begun c.args.path.now copied.0 c.in_ok-file.ensures.begun copied.1.1))

pub returns-in_err-end-clause-copied : goal.returns-in_err-end-clause-copied
returns-in_err-end-clause-copied g c =
    let p = err_from_is_err_and c.from_residual-in_err-end.result c.from_residual-in_err-end.ensures.1 in
    let copied = c.in_ok-found.ensures.copied in
    rw (p.1, p.2) (copied.0, (until_sink copied.1.0, not_ended c.args.path.now copied.0 c.in_ok-file.ensures.begun copied.1.1 c.in_err-end.ensures.lost))
