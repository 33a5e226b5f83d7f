use Rattle.std.proofs.Common.{◌≡◌, ◌∙◌, ◌++◌, ◌∷◌, [], ap, codes}
use Rattle.std.proofs.lemmas.Result.{err_from_is_err_and}
use Rattle.bag_rules.proofs.Words.{Files, Oxum}
use Rattle.bag_tags.specs.Infos.{element, written_info}
use Rattle.bag_tags.specs.Oxums.{written_oxum}
use Rattle.bag_writer.specs.WrittenBags.{info_file}
use Rattle.bag_writer.specs.Writing.{oxum_of}
use Rattle.bag_writer.specs.declared.spec.Spec.{Spec}
use Rattle.bag_writer.proofs.TagPaths.{info_path}
use Rattle.bag_writer.proofs.TagSteps.{as_listed, as_written, writes_stopped}
use Rattle.bag_writer.proofs.tag_files.write_info_file.Goals as goal

-- the text is that of the payload
info_is : (spec : Spec) (payload : Files) (oxum : Oxum) → oxum ≡ oxum_of payload → written_info (spec.info ++ element (codes "Payload-Oxum") (written_oxum oxum.octets oxum.streams) ∷ []) ≡ (info_file spec payload).1
info_is spec payload oxum is = ap (λ (o : Oxum). written_info (spec.info ++ element (codes "Payload-Oxum") (written_oxum o.octets o.streams) ∷ [])) is

pub tag_path-requires : goal.tag_path-requires
tag_path-requires g c = info_path

pub returns-in_err-text-clause-written : goal.returns-in_err-text-clause-written
returns-in_err-text-clause-written g c = λ payload is.
    let error = err_from_is_err_and c.from_residual.result c.from_residual.ensures.1 in
    rw (error.1, error.2) (writes_stopped g.S.Sink.stored g.S.Sink.is_open g.S.Sink.failures g.S.Sink.sure (info_file c.args.spec.now payload ∷ []) c.args.sink.now)

pub returns-in_err-path-clause-written : goal.returns-in_err-path-clause-written
returns-in_err-path-clause-written g c = λ payload is.
    let error = err_from_is_err_and c.from_residual-in_err-path.result c.from_residual-in_err-path.ensures.1 in
    rw (error.1, error.2) (writes_stopped g.S.Sink.stored g.S.Sink.is_open g.S.Sink.failures g.S.Sink.sure (info_file c.args.spec.now payload ∷ []) c.args.sink.now)

pub returns-clause-written : goal.returns-clause-written
returns-clause-written g c = λ payload is.
    as_written g.S.Sink.stored g.S.Sink.is_open g.S.Sink.failures g.S.Sink.sure (info_file c.args.spec.now payload) _ _ _ _ _ c.in_ok-path.ensures
    (c.as_slice.ensures.value ∙ c.in_ok-text.ensures ∙ info_is c.args.spec.now payload c.args.oxum is) c.write_listed.ensures.written

pub returns-clause-listed : goal.returns-clause-listed
returns-clause-listed g c = λ payload is.
    as_listed c.args.spec.now.algs (info_file c.args.spec.now payload) _ _ _ _ c.write_listed.result c.in_ok-path.ensures
    (c.as_slice.ensures.value ∙ c.in_ok-text.ensures ∙ info_is c.args.spec.now payload c.args.oxum is) c.write_listed.ensures.listed
