use Rattle.std.proofs.Common.{◌∷◌, [], length, refl, subst, sym}
use Rattle.std.proofs.lemmas.Result.{err_from_is_err_and}
use Rattle.bag_writer.proofs.SinkKept.{sink_kept}
use Rattle.bag_writer.proofs.SinkUses.{sink_on}
use Rattle.bag_writer.specs.Sinks.{IsFree}
use Rattle.bag_writer.specs.Steps.{ArePart, AreWhole}
use Rattle.bag_receiver.proofs.ExportLemmas.{free_here, part_here, tag_at, whole_more}
use Rattle.bag_receiver.proofs.Words.{Files, slice_get_read}
use Rattle.bag_receiver.proofs.export.write_tags.Goals as goal

pub returns-in_err-add_file-clause-written : goal.returns-in_err-add_file-clause-written
returns-in_err-add_file-clause-written g c =
    let error = err_from_is_err_and c.from_residual.result c.from_residual.ensures.1 in
    let files = c.files-file-items.result.now in
    let file = c.file-item.result in
    let here = tag_at c.args.tags.now files c.loop-file.file-index file c.files-file-items.ensures.files (slice_get_read files (length files) c.loop-file.file-index file refl c.loop-file-test.true c.file-item.is) in
    let old = g.S.Sink.stored c.args.sink.now in
    let mid = g.S.Sink.stored c.loop-file.sink in
    let new = g.S.Sink.stored c.add_file.new.sink in
    rw error.1 (part_here c.args.tags.now c.loop-file.file-index (file.path, file.body.items) here old mid new c.loop-file.invariant.written
    (subst (λ (fs : Files). ArePart fs mid new) (λ t. (c.path.ensures t, c.body.ensures t) ∷ []) c.in_err-add_file.ensures.added))

pub returns-in_err-add_file-clause-sink : goal.returns-in_err-add_file-clause-sink
returns-in_err-add_file-clause-sink g c =
    let error = err_from_is_err_and c.from_residual.result c.from_residual.ensures.1 in
    let files = c.files-file-items.result.now in
    let file = c.file-item.result in
    let here = tag_at c.args.tags.now files c.loop-file.file-index file c.files-file-items.ensures.files (slice_get_read files (length files) c.loop-file.file-index file refl c.loop-file-test.true c.file-item.is) in
    let old = g.S.Sink.stored c.args.sink.now in
    let mid = g.S.Sink.stored c.loop-file.sink in
    rw error.1 (record {
      uses = sink_on (sink_kept c.loop-file.invariant.used (λ no. no)) (λ no. no) c.in_err-add_file.ensures.sink.uses (λ order. (
        c.loop-file.invariant.closed order.0,
        subst (IsFree mid) (sym c.path.ensures) (free_here c.args.tags.now c.loop-file.file-index (file.path, file.body.items) here old mid mid c.loop-file.invariant.written order.1),
      ));
      closed = λ closed. tt;
    })

pub loop-file-preserved : goal.loop-file-preserved
loop-file-preserved g c =
    let files = c.files-file-items.result.now in
    let file = c.file-item.result in
    let here = tag_at c.args.tags.now files c.loop-file.file-index file c.files-file-items.ensures.files (slice_get_read files (length files) c.loop-file.file-index file refl c.loop-file-test.true c.file-item.is) in
    let old = g.S.Sink.stored c.args.sink.now in
    let mid = g.S.Sink.stored c.loop-file.sink in
    let new = g.S.Sink.stored c.add_file.new.sink in
    record {
      written = whole_more c.args.tags.now c.loop-file.file-index (file.path, file.body.items) here old mid new c.loop-file.invariant.written
          (subst (λ (fs : Files). AreWhole fs mid new) (λ t. (c.path.ensures t, c.body.ensures t) ∷ []) c.in_ok-add_file.ensures.added);
      closed = λ closed. c.in_ok-add_file.ensures.sink.closed;
      used = sink_on c.loop-file.invariant.used (λ no. no) (sink_kept c.in_ok-add_file.ensures.sink.uses (λ e. cc)) (λ h. h);
    }
