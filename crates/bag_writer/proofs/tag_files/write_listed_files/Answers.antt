use Rattle.std.proofs.Common.{◌++◌, ◌∷◌, [], List, map, subst, sym}
use Rattle.std.proofs.lemmas.Result.{err_from_is_err_and}
use Rattle.bag_rules.proofs.Words.{Files, Payload}
use Rattle.bag_writer.specs.Steps.{AreItemsOf}
use Rattle.bag_writer.specs.WrittenBags.{algs_in, bagit_file, fetch_files, info_file, manifest_of}
use Rattle.bag_writer.specs.declared.item.Item.{Item}
use Rattle.bag_writer.specs.declared.spec.Spec.{Spec}
use Rattle.bag_writer.proofs.TagSteps.{adds_after, writes_after, writes_cut}
use Rattle.bag_writer.proofs.tag_files.write_listed_files.Goals as goal

-- the tag files from each on
abbrev manifests : Spec → Files → Files
manifests spec payload = map (manifest_of Payload payload) (algs_in spec.algs)

abbrev fetches : Spec → Files → Files
fetches spec payload = fetch_files payload spec.holes.items

abbrev from_fetch : Spec → Files → Files
from_fetch spec payload = fetches spec payload ++ manifests spec payload

abbrev from_bagit : Spec → Files → Files
from_bagit spec payload = bagit_file ∷ from_fetch spec payload

pub returns-in_err-write_info_file-clause-written : goal.returns-in_err-write_info_file-clause-written
returns-in_err-write_info_file-clause-written g c = λ payload are holes listed is.
    let error = err_from_is_err_and c.from_residual.result c.from_residual.ensures.1 in
    let spec = c.args.spec.now in
    rw (error.1, error.2) (writes_cut g.S.Sink.stored g.S.Sink.is_open g.S.Sink.failures g.S.Sink.sure (info_file spec payload ∷ []) (from_bagit spec payload) _ _ _ (c.in_err-write_info_file.ensures.written payload is))

pub returns-in_err-write_bagit_file-clause-written : goal.returns-in_err-write_bagit_file-clause-written
returns-in_err-write_bagit_file-clause-written g c = λ payload are holes listed is.
    let error = err_from_is_err_and c.from_residual-in_err-write_bagit_file.result c.from_residual-in_err-write_bagit_file.ensures.1 in
    let spec = c.args.spec.now in
    rw (error.1, error.2) (
    writes_after g.S.Sink.stored g.S.Sink.is_open g.S.Sink.failures g.S.Sink.sure (info_file spec payload ∷ []) (from_bagit spec payload) _ _ _ _ (c.in_ok-write_info_file.ensures.written payload is)
    (writes_cut g.S.Sink.stored g.S.Sink.is_open g.S.Sink.failures g.S.Sink.sure (bagit_file ∷ []) (from_fetch spec payload) _ _ _ c.in_err-write_bagit_file.ensures.written))

pub returns-in_err-write_fetch_file-clause-written : goal.returns-in_err-write_fetch_file-clause-written
returns-in_err-write_fetch_file-clause-written g c = λ payload are holes listed is.
    let error = err_from_is_err_and c.from_residual-in_err-write_fetch_file.result c.from_residual-in_err-write_fetch_file.ensures.1 in
    let spec = c.args.spec.now in
    rw (error.1, error.2) (
    writes_after g.S.Sink.stored g.S.Sink.is_open g.S.Sink.failures g.S.Sink.sure (info_file spec payload ∷ []) (from_bagit spec payload) _ _ _ _ (c.in_ok-write_info_file.ensures.written payload is)
    (writes_after g.S.Sink.stored g.S.Sink.is_open g.S.Sink.failures g.S.Sink.sure (bagit_file ∷ []) (from_fetch spec payload) _ _ _ _ c.in_ok-write_bagit_file.ensures.written
    (writes_cut g.S.Sink.stored g.S.Sink.is_open g.S.Sink.failures g.S.Sink.sure (fetches spec payload) (manifests spec payload) _ _ _ (c.in_err-write_fetch_file.ensures.written payload are holes))))

pub returns-in_err-write_payload_manifests-clause-written : goal.returns-in_err-write_payload_manifests-clause-written
returns-in_err-write_payload_manifests-clause-written g c = λ payload are holes listed is.
    let error = err_from_is_err_and c.from_residual-in_err-write_payload_manifests.result c.from_residual-in_err-write_payload_manifests.ensures.1 in
    let spec = c.args.spec.now in
    rw (error.1, error.2) (
    writes_after g.S.Sink.stored g.S.Sink.is_open g.S.Sink.failures g.S.Sink.sure (info_file spec payload ∷ []) (from_bagit spec payload) _ _ _ _ (c.in_ok-write_info_file.ensures.written payload is)
    (writes_after g.S.Sink.stored g.S.Sink.is_open g.S.Sink.failures g.S.Sink.sure (bagit_file ∷ []) (from_fetch spec payload) _ _ _ _ c.in_ok-write_bagit_file.ensures.written
    (writes_after g.S.Sink.stored g.S.Sink.is_open g.S.Sink.failures g.S.Sink.sure (fetches spec payload) (manifests spec payload) _ _ _ _ (c.in_ok-write_fetch_file.ensures.written payload are holes)
    (c.in_err-write_payload_manifests.ensures.written payload are listed))))

pub returns-clause-written : goal.returns-clause-written
returns-clause-written g c = λ payload are holes listed is.
    let spec = c.args.spec.now in
    writes_after g.S.Sink.stored g.S.Sink.is_open g.S.Sink.failures g.S.Sink.sure (info_file spec payload ∷ []) (from_bagit spec payload) _ _ _ _ (c.in_ok-write_info_file.ensures.written payload is)
    (writes_after g.S.Sink.stored g.S.Sink.is_open g.S.Sink.failures g.S.Sink.sure (bagit_file ∷ []) (from_fetch spec payload) _ _ _ _ c.in_ok-write_bagit_file.ensures.written
    (writes_after g.S.Sink.stored g.S.Sink.is_open g.S.Sink.failures g.S.Sink.sure (fetches spec payload) (manifests spec payload) _ _ _ _ (c.in_ok-write_fetch_file.ensures.written payload are holes)
    (c.in_ok-write_payload_manifests.ensures.written payload are listed)))

pub returns-clause-listed : goal.returns-clause-listed
returns-clause-listed g c = λ payload are holes listed is.
    let spec = c.args.spec.now in
    let set = spec.algs in
    adds_after set (info_file spec payload ∷ []) (from_bagit spec payload) _ _ _ (c.in_ok-write_info_file.ensures.listed payload is)
    (adds_after set (bagit_file ∷ []) (from_fetch spec payload) _ _ _ c.in_ok-write_bagit_file.ensures.listed
    (adds_after set (fetches spec payload) (manifests spec payload) _ _ _ (c.in_ok-write_fetch_file.ensures.listed payload are holes)
    (c.in_ok-write_payload_manifests.ensures.listed payload are listed)))
    [] (subst (λ (items : List Item). AreItemsOf set items []) (sym c.new-listed.ensures.items) tt)
