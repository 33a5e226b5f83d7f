use Rattle.std.proofs.lemmas.Result.{MatchResult-from_both, err_from_is_err_and, on_err_weaker, on_ok_weaker}
use Rattle.bag_writer.proofs.TagSteps.{end_lost, end_written, front_written}
use Rattle.bag_writer.proofs.sink.add_file.Goals as goal

pub returns-in_err-write-clause-added : goal.returns-in_err-write-clause-added
returns-in_err-write-clause-added g c =
    let error = err_from_is_err_and c.from_residual-in_err-write.result c.from_residual-in_err-write.ensures.1 in
    let part = c.in_err-write.ensures.part in
    rw error.1 (front_written c.args.path.now c.args.octets.now part.0 _ _ _ c.in_ok-file.ensures.begun part.1)

pub returns-clause-added : goal.returns-clause-added
returns-clause-added g c =
    let begun = c.in_ok-file.ensures.begun in
    let written = c.in_ok-write.ensures.written in
    MatchResult-from_both c.end.result _ _
    (on_ok_weaker c.end.result (end_written c.args.path.now c.args.octets.now _ _ _ _ begun written) c.end.ensures.ended)
    (on_err_weaker c.end.result (end_lost c.args.path.now c.args.octets.now _ _ _ _ begun written) c.end.ensures.lost)
