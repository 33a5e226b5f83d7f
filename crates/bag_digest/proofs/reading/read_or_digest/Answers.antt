use Rattle.std.proofs.Common.{◌++◌, [], arith, length-append}
use Rattle.std.proofs.KnownBytes.{Consumes-trans}
use Rattle.std.proofs.lemmas.Result.{err_from_is_err_and}
use Rattle.bag_digest.specs.Reading.{read_fault}
use Rattle.bag_digest.proofs.Filling.{filled_whole}
use Rattle.bag_digest.proofs.Progress.{given_before}
use Rattle.bag_digest.proofs.reading.read_or_digest.Goals as goal

pub returns-in_err-rest-clause-stopped : goal.returns-in_err-rest-clause-stopped
returns-in_err-rest-clause-stopped g c =
    let p = err_from_is_err_and c.from_residual-in_err-rest.result c.from_residual-in_err-rest.ensures.1 in
    let whole = filled_whole _ _ _ _ _ c.in_ok-n.ensures.piece (omega (arith, c.if-n-buffer.false)) in
    rw (p.1, p.2) (given_before _ _ _ _ _ _ (read_fault c.in_err-rest.field-0.0) whole c.in_err-rest.ensures.stopped)

pub returns-clause-found : goal.returns-clause-found
returns-clause-found g c =
    let whole = filled_whole _ _ _ _ _ c.in_ok-n.ensures.piece (omega (arith, c.if-n-buffer.false)) in
    let rest = c.in_ok-rest.ensures.digests in
    let front = c.fill.new.buffer in (
      front ++ rest.0,
      record {
        gave = Consumes-trans _ _ _ _ _ whole.gave rest.1.gave;
        none_left = rest.1.none_left;
        within = omega (arith, whole.count, whole.within, rest.1.within, length-append front rest.0);
      },
      (
        omega (arith, whole.count, rest.2, length-append front rest.0),
        rest.3 c.args.set front (c.update.ensures c.args.set [] c.new-multi.ensures),
      ),
    )
