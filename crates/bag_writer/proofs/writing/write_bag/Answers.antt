use Rattle.std.proofs.Common.{◌≡◌, subst}
use Rattle.std.proofs.lemmas.Result.{err_from_is_err_and}
use Rattle.bag_writer.specs.Writing.{IsLarge, IsMetBefore, empty_files, payload_paths}
use Rattle.bag_writer.specs.declared.write_fault.WriteFault.TheVariants.{Memory, TooLarge}
use Rattle.bag_writer.proofs.DoneLemmas.{unwritten_done}
use Rattle.bag_writer.proofs.writing.write_bag.Goals as goal

pub returns-in_err-marks-clause-done : goal.returns-in_err-marks-clause-done
returns-in_err-marks-clause-done g c =
    let error = err_from_is_err_and c.from_residual.result c.from_residual.ensures.1 in
    let fault = c.in_err-marks.field-0.0 in
    rw (error.1, error.2) (unwritten_done (g.T.Paths.shown c.args.tree.now) c.args.spec.now (g.S.Sink.stored c.args.sink.now) fault
    (λ what e. absurd (subst IsMetBefore e c.in_err-marks.ensures.accepted.1)))

pub returns-in_err-large-clause-done : goal.returns-in_err-large-clause-done
returns-in_err-large-clause-done g c =
    let error = err_from_is_err_and c.from_residual-in_err-large.result c.from_residual-in_err-large.ensures.1 in
    rw (error.1, error.2) (unwritten_done (g.T.Paths.shown c.args.tree.now) c.args.spec.now (g.S.Sink.stored c.args.sink.now) Memory (λ what e. absurd (cc)))

pub returns-in-Some-clause-done : goal.returns-in-Some-clause-done
returns-in-Some-clause-done g c =
    unwritten_done (g.T.Paths.shown c.args.tree.now) c.args.spec.now (g.S.Sink.stored c.args.sink.now) (TooLarge c.in-Some.large)
    (λ what e. let same : c.in-Some.large ≡ what = cc in subst (IsLarge c.args.spec.now (empty_files (payload_paths (g.T.Paths.shown c.args.tree.now)))) same (rw c.in-Some.is at c.in_ok-large.ensures))
