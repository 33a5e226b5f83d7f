use Rattle.std.proofs.Common.{◌∙◌, ◌∷◌, []}
use Rattle.std.proofs.lemmas.Result.{err_from_is_err_and}
use Rattle.bag_rules.proofs.Words.{Payload}
use Rattle.bag_writer.specs.WrittenBags.{manifest_of}
use Rattle.bag_writer.proofs.TagSteps.{as_listed, as_written, writes_stopped}
use Rattle.bag_writer.proofs.tag_files.write_payload_manifest.Goals as goal

pub manifest_text-requires : goal.manifest_text-requires
manifest_text-requires g c = (c.args.set, c.requires.0, c.requires.1, c.requires.2, c.requires.3)

pub returns-in_err-text-clause-written : goal.returns-in_err-text-clause-written
returns-in_err-text-clause-written g c = λ payload are wanted can.
    let error = err_from_is_err_and c.from_residual.result c.from_residual.ensures.1 in
    rw (error.1, error.2) (writes_stopped g.S.Sink.stored g.S.Sink.is_open g.S.Sink.failures g.S.Sink.sure (manifest_of Payload payload c.args.alg ∷ []) c.args.sink.now)

pub returns-in_err-path-clause-written : goal.returns-in_err-path-clause-written
returns-in_err-path-clause-written g c = λ payload are wanted can.
    let error = err_from_is_err_and c.from_residual-in_err-path.result c.from_residual-in_err-path.ensures.1 in
    rw (error.1, error.2) (writes_stopped g.S.Sink.stored g.S.Sink.is_open g.S.Sink.failures g.S.Sink.sure (manifest_of Payload payload c.args.alg ∷ []) c.args.sink.now)

pub returns-clause-written : goal.returns-clause-written
returns-clause-written g c = λ payload are wanted can.
    as_written g.S.Sink.stored g.S.Sink.is_open g.S.Sink.failures g.S.Sink.sure (manifest_of Payload payload c.args.alg) _ _ _ _ _ c.in_ok-path.ensures
    (c.as_slice.ensures.value ∙ c.in_ok-text.ensures c.args.set payload are wanted can) c.write_listed.ensures.written

pub returns-clause-listed : goal.returns-clause-listed
returns-clause-listed g c = λ payload are wanted can.
    as_listed c.args.set (manifest_of Payload payload c.args.alg) _ _ _ _ c.write_listed.result c.in_ok-path.ensures
    (c.as_slice.ensures.value ∙ c.in_ok-text.ensures c.args.set payload are wanted can) c.write_listed.ensures.listed
