use Rattle.std.proofs.Common.{[], arith, length-append, subst}
use Rattle.std.proofs.lemmas.Result.{err_from_is_err_and}
use Rattle.bag_digest.specs.Hash.{Holds}
use Rattle.bag_digest.proofs.StreamLemmas.{uses_err, uses_ok}
use Rattle.bag_digest.proofs.streams.digest_alone.Goals as goal

pub returns-in_err-rest-clause-stopped : goal.returns-in_err-rest-clause-stopped
returns-in_err-rest-clause-stopped g c =
    let p = err_from_is_err_and c.from_residual.result c.from_residual.ensures.1 in
    let s = g.S.Source in
    let fault = c.in_err-rest.field-0.0 in
    rw (p.1, p.2) record {
      gave = c.in_err-rest.ensures.stopped;
      uses = uses_err s.failures s.ready s.keeps c.args.stream.now.source c.digest_on.new.reader fault c.in_err-rest.ensures.uses;
    }

pub returns-clause-ended : goal.returns-clause-ended
returns-clause-ended g c =
    let s = g.S.Source in
    let front = c.args.stream.now.piece.items in
    let rest = c.in_ok-rest.ensures.digests in
    let held : Holds c.update.new.self c.args.set front = subst (Holds c.update.new.self c.args.set) c.as_slice.ensures.value (c.update.ensures c.args.set [] c.new-multi.ensures) in (
      record {
        more = rest.0;
        gave = rest.1;
        sums = (
          omega (arith, c.requires.fresh.room, rest.2, length-append front rest.0),
          rest.3 c.args.set front held,
        );
      },
      uses_ok s.failures s.ready s.keeps c.args.stream.now.source c.digest_on.new.reader c.in_ok-rest.rest c.in_ok-rest.ensures.uses,
    )
