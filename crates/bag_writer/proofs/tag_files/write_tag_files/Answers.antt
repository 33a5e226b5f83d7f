use Rattle.std.proofs.Common.{List, None, Some, map, refl, subst, sym}
use Rattle.std.proofs.lemmas.Result.{err_from_is_err_and}
use Rattle.bag_rules.proofs.Words.{Files, Tag}
use Rattle.bag_writer.specs.Steps.{AreItemsOf, IsWritable}
use Rattle.bag_writer.specs.WrittenBags.{algs_in, listed_tags, manifest_of, tag_files}
use Rattle.bag_writer.specs.declared.item.Item.{Item}
use Rattle.bag_writer.specs.declared.spec.Spec.{Spec}
use Rattle.bag_writer.proofs.ItemLemmas.{oxum_is, total_fits}
use Rattle.bag_writer.proofs.SinkUses.{sink_if, sink_so}
use Rattle.bag_writer.proofs.TagLists.{holes_fetched, payload_listed, tags_listed}
use Rattle.bag_writer.proofs.TagsFree.{tags_free}
use Rattle.bag_writer.proofs.TagSteps.{Writes, writes_after, writes_cut}
use Rattle.bag_writer.proofs.tag_files.write_tag_files.Given.{Over}
use Rattle.bag_writer.proofs.tag_files.write_tag_files.Goals as goal

abbrev manifests : Spec → Files → Files
manifests spec payload = map (manifest_of Tag (listed_tags spec payload)) (algs_in spec.algs)

pub total_octets-requires : goal.total_octets-requires
total_octets-requires g c =
    let needs = c.requires.payload in
    total_fits c.args.spec.now.algs c.args.items.now needs.0 needs.1 needs.2.few needs.2.short

pub write_listed_files-requires : goal.write_listed_files-requires
write_listed_files-requires g c =
    let needs = c.requires.payload in
    let spec = c.args.spec.now in
    (needs.0, needs.1, holes_fetched spec needs.0 needs.2, payload_listed spec needs.0 needs.2)

pub write_tag_manifests-requires : goal.write_tag_manifests-requires
write_tag_manifests-requires g c =
    let needs = c.requires.payload in
    let spec = c.args.spec.now in
    let items = c.args.items.now in
    let listed = c.in_ok-listed.ensures.listed needs.0 needs.1 (holes_fetched spec needs.0 needs.2) (payload_listed spec needs.0 needs.2) (oxum_is spec.algs items needs.0 needs.1 c.total_octets.result c.total_octets.ensures) in
    (listed_tags spec needs.0, subst (λ (all : List Item). AreItemsOf spec.algs all (listed_tags spec needs.0)) (sym c.as_slice.ensures.value) listed, tags_listed spec needs.0)

-- A FAULT AMONG THE FIRST

written_first : (g : Over) (c : goal.After-from_residual g) (payload : Files) → AreItemsOf c.args.spec.now.algs c.args.items.now payload → IsWritable c.args.spec.now payload
    → Writes g.S.Sink.stored g.S.Sink.is_open g.S.Sink.failures g.S.Sink.sure (tag_files c.args.spec.now payload) c.args.sink.now c.write_listed_files.new.sink (Some c.in_err-listed.field-0.0)
written_first g c payload are writable =
    let spec = c.args.spec.now in
    writes_cut g.S.Sink.stored g.S.Sink.is_open g.S.Sink.failures g.S.Sink.sure (listed_tags spec payload) (manifests spec payload) _ _ _
    (c.in_err-listed.ensures.written payload are (holes_fetched spec payload writable) (payload_listed spec payload writable) (oxum_is spec.algs c.args.items.now payload are c.total_octets.result c.total_octets.ensures))

pub returns-in_err-listed-clause-written : goal.returns-in_err-listed-clause-written
returns-in_err-listed-clause-written g c = λ payload are writable.
    let error = err_from_is_err_and c.from_residual.result c.from_residual.ensures.1 in
    let written = (written_first g c payload are writable).written in
    rw (error.1, error.2) (written.2, written.0)

pub returns-in_err-listed-clause-err : goal.returns-in_err-listed-clause-err
returns-in_err-listed-clause-err g c =
    let error = err_from_is_err_and c.from_residual.result c.from_residual.ensures.1 in
    let needs = c.requires.payload in
    rw (error.1, error.2) ((written_first g c needs.0 needs.1 needs.2).written.1)

pub returns-in_err-listed-clause-sink : goal.returns-in_err-listed-clause-sink
returns-in_err-listed-clause-sink g c =
    let error = err_from_is_err_and c.from_residual.result c.from_residual.ensures.1 in
    let needs = c.requires.payload in
    rw (error.1, error.2) (record {
      uses = sink_so (sink_if (written_first g c needs.0 needs.1 needs.2).uses (λ order. (order.0, tags_free c.args.spec.now needs.0 _ order.1))) (λ is. cc) (λ is. cc);
      closed = λ closed. tt;
    })

-- A FAULT AMONG THE TAG MANIFESTS

written_later : (g : Over) (c : goal.After-drop-listed g) (payload : Files) → AreItemsOf c.args.spec.now.algs c.args.items.now payload → IsWritable c.args.spec.now payload
    → Writes g.S.Sink.stored g.S.Sink.is_open g.S.Sink.failures g.S.Sink.sure (tag_files c.args.spec.now payload) c.args.sink.now c.write_tag_manifests.new.sink (Some c.in_err-write_tag_manifests.field-0.0)
written_later g c payload are writable =
    let spec = c.args.spec.now in
    let oxum = oxum_is spec.algs c.args.items.now payload are c.total_octets.result c.total_octets.ensures in
    let holes = holes_fetched spec payload writable in
    let files = payload_listed spec payload writable in
    let listed = c.in_ok-listed.ensures.listed payload are holes files oxum in
    writes_after g.S.Sink.stored g.S.Sink.is_open g.S.Sink.failures g.S.Sink.sure (listed_tags spec payload) (manifests spec payload) _ _ _ _
    (c.in_ok-listed.ensures.written payload are holes files oxum)
    (c.in_err-write_tag_manifests.ensures (listed_tags spec payload) (subst (λ (all : List Item). AreItemsOf spec.algs all (listed_tags spec payload)) (sym c.as_slice.ensures.value) listed) (tags_listed spec payload))

pub returns-in_err-write_tag_manifests-clause-written : goal.returns-in_err-write_tag_manifests-clause-written
returns-in_err-write_tag_manifests-clause-written g c = λ payload are writable.
    let error = err_from_is_err_and c.from_residual-in_err-write_tag_manifests.result c.from_residual-in_err-write_tag_manifests.ensures.1 in
    let written = (written_later g c payload are writable).written in
    rw (error.1, error.2) (written.2, written.0)

pub returns-in_err-write_tag_manifests-clause-err : goal.returns-in_err-write_tag_manifests-clause-err
returns-in_err-write_tag_manifests-clause-err g c =
    let error = err_from_is_err_and c.from_residual-in_err-write_tag_manifests.result c.from_residual-in_err-write_tag_manifests.ensures.1 in
    let needs = c.requires.payload in
    rw (error.1, error.2) ((written_later g c needs.0 needs.1 needs.2).written.1)

pub returns-in_err-write_tag_manifests-clause-sink : goal.returns-in_err-write_tag_manifests-clause-sink
returns-in_err-write_tag_manifests-clause-sink g c =
    let error = err_from_is_err_and c.from_residual-in_err-write_tag_manifests.result c.from_residual-in_err-write_tag_manifests.ensures.1 in
    let needs = c.requires.payload in
    rw (error.1, error.2) (record {
      uses = sink_so (sink_if (written_later g c needs.0 needs.1 needs.2).uses (λ order. (order.0, tags_free c.args.spec.now needs.0 _ order.1))) (λ is. cc) (λ is. cc);
      closed = λ closed. tt;
    })

-- ALL IS WRITTEN

written_all : (g : Over) (c : goal.After-drop-listed-2 g) (payload : Files) → AreItemsOf c.args.spec.now.algs c.args.items.now payload → IsWritable c.args.spec.now payload
    → Writes g.S.Sink.stored g.S.Sink.is_open g.S.Sink.failures g.S.Sink.sure (tag_files c.args.spec.now payload) c.args.sink.now c.write_tag_manifests.new.sink None
written_all g c payload are writable =
    let spec = c.args.spec.now in
    let oxum = oxum_is spec.algs c.args.items.now payload are c.total_octets.result c.total_octets.ensures in
    let holes = holes_fetched spec payload writable in
    let files = payload_listed spec payload writable in
    let listed = c.in_ok-listed.ensures.listed payload are holes files oxum in
    writes_after g.S.Sink.stored g.S.Sink.is_open g.S.Sink.failures g.S.Sink.sure (listed_tags spec payload) (manifests spec payload) _ _ _ _
    (c.in_ok-listed.ensures.written payload are holes files oxum)
    (c.in_ok-write_tag_manifests.ensures (listed_tags spec payload) (subst (λ (all : List Item). AreItemsOf spec.algs all (listed_tags spec payload)) (sym c.as_slice.ensures.value) listed) (tags_listed spec payload))

pub returns-clause-written : goal.returns-clause-written
returns-clause-written g c = λ payload are writable.
    let written = (written_all g c payload are writable).written in
    (oxum_is c.args.spec.now.algs c.args.items.now payload are c.total_octets.result c.total_octets.ensures, written.1, written.0)

pub returns-clause-sink : goal.returns-clause-sink
returns-clause-sink g c =
    let needs = c.requires.payload in
    let written = written_all g c needs.0 needs.1 needs.2 in
    record {
      uses = sink_so (sink_if written.uses (λ order. (order.0, tags_free c.args.spec.now needs.0 _ order.1))) (λ is. cc) (λ is. cc);
      closed = λ closed. written.closed closed refl;
    }
