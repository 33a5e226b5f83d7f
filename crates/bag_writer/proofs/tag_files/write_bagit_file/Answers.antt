use Rattle.std.proofs.Common.{◌∷◌, [], ◌∙◌}
use Rattle.std.proofs.lemmas.Result.{err_from_is_err_and}
use Rattle.bag_writer.specs.WrittenBags.{bagit_file}
use Rattle.bag_writer.proofs.TagPaths.{declaration_path}
use Rattle.bag_writer.proofs.TagSteps.{as_listed, as_written, writes_stopped}
use Rattle.bag_writer.proofs.tag_files.write_bagit_file.Goals as goal

pub tag_path-requires : goal.tag_path-requires
tag_path-requires g c = declaration_path

pub returns-in_err-text-clause-written : goal.returns-in_err-text-clause-written
returns-in_err-text-clause-written g c =
    let error = err_from_is_err_and c.from_residual.result c.from_residual.ensures.1 in
    rw (error.1, error.2) (writes_stopped g.S.Sink.stored g.S.Sink.is_open g.S.Sink.failures g.S.Sink.sure (bagit_file ∷ []) c.args.sink.now)

pub returns-in_err-path-clause-written : goal.returns-in_err-path-clause-written
returns-in_err-path-clause-written g c =
    let error = err_from_is_err_and c.from_residual-in_err-path.result c.from_residual-in_err-path.ensures.1 in
    rw (error.1, error.2) (writes_stopped g.S.Sink.stored g.S.Sink.is_open g.S.Sink.failures g.S.Sink.sure (bagit_file ∷ []) c.args.sink.now)

pub returns-clause-written : goal.returns-clause-written
returns-clause-written g c =
    as_written g.S.Sink.stored g.S.Sink.is_open g.S.Sink.failures g.S.Sink.sure bagit_file _ _ _ _ _ c.in_ok-path.ensures (c.as_slice.ensures.value ∙ c.in_ok-text.ensures.octets) c.write_listed.ensures.written

pub returns-clause-listed : goal.returns-clause-listed
returns-clause-listed g c =
    as_listed c.args.set bagit_file _ _ _ _ c.write_listed.result c.in_ok-path.ensures (c.as_slice.ensures.value ∙ c.in_ok-text.ensures.octets) c.write_listed.ensures.listed
