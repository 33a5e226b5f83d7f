use Rattle.std.proofs.Common.{◌∙◌}
use Rattle.std.proofs.lemmas.Result.{err_from_is_err_and}
use Rattle.bag_rules.proofs.Words.{false≢true}
use Rattle.bag_writer.specs.declared.write_fault.WriteFault.TheVariants.{Memory, Sink}
use Rattle.bag_writer.proofs.DoneLemmas.{payload_failed, tags_done, unwritten_done, writable, written_alone}
use Rattle.bag_writer.proofs.SinkUses.{no_file_yet, ok_is_no_error, sink_if, sink_on}
use Rattle.bag_writer.proofs.writing.write_accepted.Goals as goal

pub returns-in_err-buffer-clause-done : goal.returns-in_err-buffer-clause-done
returns-in_err-buffer-clause-done g c =
    let error = err_from_is_err_and c.from_residual.result c.from_residual.ensures.1 in
    rw (error.1, error.2) (unwritten_done (g.T.Paths.shown c.args.tree.now) c.args.spec.now (g.S.Sink.stored c.args.sink.now) Memory (λ what e. absurd (cc)))

pub returns-in_default-clause-done : goal.returns-in_default-clause-done
returns-in_default-clause-done g c =
    rw c.in_default.ensures.kept (unwritten_done (g.T.Paths.shown c.args.tree.now) c.args.spec.now (g.S.Sink.stored c.args.sink.now) Sink (λ what e. absurd (cc)))

pub returns-in_err-items-clause-done : goal.returns-in_err-items-clause-done
returns-in_err-items-clause-done g c =
    let error = err_from_is_err_and c.from_residual-in_err-items.result c.from_residual-in_err-items.ensures.1 in
    let told = c.in_err-items.ensures.written in
    rw (error.1, error.2) (
      told.0,
      payload_failed (g.T.Paths.shown c.args.tree.now) c.args.spec.now c.requires.accepted.rising told.0 told.1
          (g.S.Sink.stored c.args.sink.now) (g.S.Sink.stored c.payload_dir.new.self) c.in-Ok.ensures.made
          (g.S.Sink.stored c.write_payload.new.sink) c.in_err-items.field-0.0 told.2.0 told.2.1,
    )

pub write_tag_files-requires : goal.write_tag_files-requires
write_tag_files-requires g c =
    let told = c.in_ok-items.ensures.written in
    record {
      payload = rw c.as_slice.ensures.value (
        told.0,
        told.2.0,
        writable (g.T.Paths.shown c.args.tree.now) c.args.spec.now c.requires.accepted.rising told.0 told.1
            (g.S.Sink.stored c.args.sink.now) (g.S.Sink.stored c.payload_dir.new.self) c.in-Ok.ensures.made c.requires.accepted.accepted c.requires.accepted.few told.2.1,
      );
    }

pub returns-clause-done : goal.returns-clause-done
returns-clause-done g c =
    let told = c.in_ok-items.ensures.written in
    let shown = g.T.Paths.shown c.args.tree.now in
    let old = g.S.Sink.stored c.args.sink.now in
    let mid = g.S.Sink.stored c.payload_dir.new.self in
    let fit = writable shown c.args.spec.now c.requires.accepted.rising told.0 told.1 old mid c.in-Ok.ensures.made c.requires.accepted.accepted c.requires.accepted.few told.2.1 in (
      told.0,
      tags_done shown c.args.spec.now c.requires.accepted.rising told.0 told.1 old mid c.in-Ok.ensures.made c.requires.accepted.accepted c.requires.accepted.few told.2.1
          (g.S.Sink.stored c.write_payload.new.sink) (g.S.Sink.stored c.write_tag_files.new.sink) told.2.2 c.write_tag_files.result
          (c.write_tag_files.ensures.written told.0 (rw c.as_slice.ensures.value told.2.0) fit),
    )

pub returns-clause-sink : goal.returns-clause-sink
returns-clause-sink g c =
    let told = c.in_ok-items.ensures.written in
    record {
      uses = sink_on (sink_if c.in-Ok.ensures.uses (λ order. tt)) (λ f. false≢true f)
          (sink_on c.in_ok-items.ensures.sink.uses (λ f. ok_is_no_error c.in_ok-items.items f) c.write_tag_files.ensures.sink.uses
          (λ order. (
            c.in_ok-items.ensures.sink.closed order.0,
            written_alone (g.T.Paths.shown c.args.tree.now) c.args.spec.now told.0 told.1
                (g.S.Sink.stored c.payload_dir.new.self) (g.S.Sink.stored c.write_payload.new.sink) told.2.2 order.1,
          )))
          (λ order. (c.in-Ok.ensures.open ∙ order.0, no_file_yet (g.S.Sink.stored c.args.sink.now) (g.S.Sink.stored c.payload_dir.new.self) c.in-Ok.ensures.made order.1));
      closed = λ closed. c.write_tag_files.ensures.sink.closed (c.in_ok-items.ensures.sink.closed (c.in-Ok.ensures.open ∙ closed));
    }
