use Rattle.std.proofs.Common.{◌≡◌, ◌∙◌, ◌==◌, List, OnOk, ap, false, length, subst, sym, rules}
use Rattle.std.specs.Result.{result_err}
use Rattle.std.proofs.lemmas.Result.{err_from_is_err_and}
use Rattle.bag_rules.proofs.Words.{Files}
use Rattle.bag_writer.specs.TagWriting.{AddsItems, CanBeFetched}
use Rattle.bag_writer.specs.declared.spec.Hole.{Hole}
use Rattle.bag_writer.proofs.TagPaths.{fetch_path}
use Rattle.bag_writer.proofs.TagTexts.{fetch_file, some_fetched}
use Rattle.bag_writer.proofs.TagSteps.{Writes, as_listed, as_written, writes_stopped}
use Rattle.bag_writer.proofs.tag_files.write_fetch_file.Goals as goal

pub tag_path-requires : goal.tag_path-requires
tag_path-requires g c = fetch_path

pub returns-in_err-text-clause-written : goal.returns-in_err-text-clause-written
returns-in_err-text-clause-written g c = λ payload are can.
    let error = err_from_is_err_and c.from_residual.result c.from_residual.ensures.1 in
    rw (error.1, error.2) (writes_stopped g.S.Sink.stored g.S.Sink.is_open g.S.Sink.failures g.S.Sink.sure _ c.args.sink.now)

pub returns-in_err-path-clause-written : goal.returns-in_err-path-clause-written
returns-in_err-path-clause-written g c = λ payload are can.
    let error = err_from_is_err_and c.from_residual-in_err-path.result c.from_residual-in_err-path.ensures.1 in
    rw (error.1, error.2) (writes_stopped g.S.Sink.stored g.S.Sink.is_open g.S.Sink.failures g.S.Sink.sure _ c.args.sink.now)

pub returns-clause-written : goal.returns-clause-written
returns-clause-written g c = λ payload are can.
    let spec = c.args.spec.now in
    let holes = spec.holes.items in
    let some : (length holes == 0) ≡ false = search rules in
    let slice = c.as_slice.ensures.value in
    let made = c.in_ok-text.ensures spec.algs payload are (subst (CanBeFetched payload) (sym slice) can) in
    subst (λ (files : Files). Writes g.S.Sink.stored g.S.Sink.is_open g.S.Sink.failures g.S.Sink.sure files c.args.sink.now c.write_listed.new.sink (result_err c.write_listed.result)) (sym (some_fetched payload holes some))
    (as_written g.S.Sink.stored g.S.Sink.is_open g.S.Sink.failures g.S.Sink.sure (fetch_file payload holes) _ _ _ _ _ c.in_ok-path.ensures
    (c.as_slice-2.ensures.value ∙ made ∙ ap (λ (hs : List Hole). (fetch_file payload hs).1) slice) c.write_listed.ensures.written)

pub returns-clause-listed : goal.returns-clause-listed
returns-clause-listed g c = λ payload are can.
    let spec = c.args.spec.now in
    let holes = spec.holes.items in
    let some : (length holes == 0) ≡ false = search rules in
    let slice = c.as_slice.ensures.value in
    let made = c.in_ok-text.ensures spec.algs payload are (subst (CanBeFetched payload) (sym slice) can) in
    subst (λ (files : Files). OnOk c.write_listed.result (AddsItems spec.algs files c.args.listed.now.items c.write_listed.new.listed.items)) (sym (some_fetched payload holes some))
    (as_listed spec.algs (fetch_file payload holes) _ _ _ _ c.write_listed.result c.in_ok-path.ensures
    (c.as_slice-2.ensures.value ∙ made ∙ ap (λ (hs : List Hole). (fetch_file payload hs).1) slice) c.write_listed.ensures.listed)
