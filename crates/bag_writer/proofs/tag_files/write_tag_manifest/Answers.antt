use Rattle.std.proofs.Common.{◌∙◌, ◌∷◌, []}
use Rattle.std.proofs.lemmas.Result.{err_from_is_err_and}
use Rattle.bag_rules.proofs.Words.{Tag}
use Rattle.bag_writer.specs.WrittenBags.{manifest_of}
use Rattle.bag_writer.proofs.TagSteps.{as_written, writes_stopped}
use Rattle.bag_writer.proofs.tag_files.write_tag_manifest.Goals as goal

pub returns-in_err-text : goal.returns-in_err-text
returns-in_err-text g c = λ set files are wanted can.
    let error = err_from_is_err_and c.from_residual.result c.from_residual.ensures.1 in
    rw (error.1, error.2) (writes_stopped g.S.Sink.stored g.S.Sink.is_open g.S.Sink.failures g.S.Sink.sure (manifest_of Tag files c.args.alg ∷ []) c.args.sink.now)

pub returns-in_err-path : goal.returns-in_err-path
returns-in_err-path g c = λ set files are wanted can.
    let error = err_from_is_err_and c.from_residual-in_err-path.result c.from_residual-in_err-path.ensures.1 in
    rw (error.1, error.2) (writes_stopped g.S.Sink.stored g.S.Sink.is_open g.S.Sink.failures g.S.Sink.sure (manifest_of Tag files c.args.alg ∷ []) c.args.sink.now)

pub returns : goal.returns
returns g c = λ set files are wanted can.
    as_written g.S.Sink.stored g.S.Sink.is_open g.S.Sink.failures g.S.Sink.sure (manifest_of Tag files c.args.alg) _ _ _ _ _ c.in_ok-path.ensures
    (c.as_slice.ensures.value ∙ c.in_ok-text.ensures set files are wanted can) c.write_whole.ensures
