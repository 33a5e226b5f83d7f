use Rattle.std.proofs.Common.{◌∙◌, ◌++◌, refl, subst, sym}
use Rattle.std.proofs.lemmas.Result.{err_from_is_err_and}
use Rattle.bag_rules.proofs.Words.{false≢true}
use Rattle.bag_writer.specs.TagWriting.{AreFree}
use Rattle.bag_writer.proofs.SinkUses.{sink_if, sink_on, sink_so}
use Rattle.bag_writer.proofs.TagSteps.{free_after, free_front}
use Rattle.bag_receiver.proofs.ExportedBags.{bag_told, tags_part}
use Rattle.bag_receiver.proofs.export.write_bag.Goals as goal

pub returns-in_err-write_tags-clause-written : goal.returns-in_err-write_tags-clause-written
returns-in_err-write_tags-clause-written g c =
    let error = err_from_is_err_and c.from_residual-in_err-write_tags.result c.from_residual-in_err-write_tags.ensures.1 in
    rw error.1 (λ clean files items sized. tags_part c.args.tags.now files _ _ _ c.in_ok-payload_dir.ensures.made c.in_err-write_tags.ensures.written)

pub returns-in_err-write_tags-clause-sink : goal.returns-in_err-write_tags-clause-sink
returns-in_err-write_tags-clause-sink g c =
    let error = err_from_is_err_and c.from_residual-in_err-write_tags.result c.from_residual-in_err-write_tags.ensures.1 in
    rw (error.1, error.2) (record {
      uses = sink_on (sink_if c.in_ok-payload_dir.ensures.uses (λ order. tt)) (λ f. false≢true f)
          (sink_so c.in_err-write_tags.ensures.sink.uses (λ f. refl) (λ f. refl))
          (λ order. (
            c.in_ok-payload_dir.ensures.open ∙ order.0.1,
            subst (λ s. AreFree s c.args.tags.now) (sym c.in_ok-payload_dir.ensures.made) (free_front c.args.tags.now order.1.0 _ order.1.3),
          ));
      closed = λ closed. tt;
    })

pub returns-clause-written : goal.returns-clause-written
returns-clause-written g c = λ clean files items sized.
    bag_told c.args.tags.now files _ _ _ _ c.write_items.result c.in_ok-payload_dir.ensures.made c.in_ok-write_tags.ensures.written (c.write_items.ensures.written clean files items sized)

pub returns-clause-sink : goal.returns-clause-sink
returns-clause-sink g c =
    record {
      uses = sink_on
          (sink_on (sink_if c.in_ok-payload_dir.ensures.uses (λ order. tt)) (λ f. false≢true f) c.in_ok-write_tags.ensures.sink.uses (λ order. (
            c.in_ok-payload_dir.ensures.open ∙ order.0.1,
            subst (λ s. AreFree s c.args.tags.now) (sym c.in_ok-payload_dir.ensures.made) (free_front c.args.tags.now order.1.0 _ order.1.3),
          )))
          (λ f. false≢true f) c.write_items.ensures.sink.uses (λ order. (
            (order.0.0, c.in_ok-write_tags.ensures.sink.closed (c.in_ok-payload_dir.ensures.open ∙ order.0.1)),
            (
              order.1.0,
              order.1.1,
              order.1.2,
              free_after c.args.tags.now order.1.0 _ _ (subst (λ s. AreFree s (c.args.tags.now ++ order.1.0)) (sym c.in_ok-payload_dir.ensures.made) order.1.3) c.in_ok-write_tags.ensures.written,
            ),
          ));
      closed = λ closed. c.write_items.ensures.sink.closed (c.in_ok-write_tags.ensures.sink.closed (c.in_ok-payload_dir.ensures.open ∙ closed));
    }
