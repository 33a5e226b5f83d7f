use Rattle.std.proofs.Common.{◌∙◌, length, refl}
use Rattle.std.proofs.lemmas.Result.{err_from_is_err_and}
use Rattle.bag_writer.proofs.SinkKept.{sink_kept}
use Rattle.bag_writer.proofs.SinkUses.{sink_on}
use Rattle.bag_receiver.specs.declared.export.ExportFault.TheVariants.{Keeper}
use Rattle.bag_receiver.proofs.AuditLemmas.{reads_on}
use Rattle.bag_receiver.proofs.CountLemmas.{no_fault}
use Rattle.bag_receiver.proofs.ExportLemmas.{items_free, items_more, items_part}
use Rattle.bag_receiver.proofs.Words.{slice_get_read, Store}
use Rattle.bag_receiver.proofs.export.write_items.Goals as goal

pub returns-in_err-write_item-clause-written : goal.returns-in_err-write_item-clause-written
returns-in_err-write_item-clause-written g c =
    let error = err_from_is_err_and c.from_residual.result c.from_residual.ensures.1 in
    let items = c.args.items.now in
    let at = slice_get_read items (length items) c.loop-item.item-index c.item-item.result refl c.loop-item-test.true c.item-item.is in
    let inv = c.loop-item.invariant in
    rw error.1 (items_part g.K.Keeper.holds g.K.Keeper.may_leave g.K.Keeper.clean c.args.keeper.now c.loop-item.keeper c.write_item.new.keeper c.args.name.now items c.loop-item.item-index c.item-item.result at
    inv.reads c.write_item.ensures.keeper.reads _ _ _ inv.written c.in_err-write_item.ensures.written)

pub returns-in_err-write_item-clause-sink : goal.returns-in_err-write_item-clause-sink
returns-in_err-write_item-clause-sink g c =
    let error = err_from_is_err_and c.from_residual.result c.from_residual.ensures.1 in
    let items = c.args.items.now in
    let at = slice_get_read items (length items) c.loop-item.item-index c.item-item.result refl c.loop-item-test.true c.item-item.is in
    let inv = c.loop-item.invariant in
    rw (error.1, error.2) (record {
      uses = sink_on (sink_kept inv.used (λ no. no)) (λ no. no) c.in_err-write_item.ensures.sink.uses (λ order. (
        inv.closed order.0.1,
        items_free g.K.Keeper.holds g.K.Keeper.may_leave g.K.Keeper.clean c.args.keeper.now c.loop-item.keeper c.write_item.new.keeper c.args.name.now items c.loop-item.item-index c.item-item.result at
            inv.reads c.write_item.ensures.keeper.reads _ _ (g.S.Sink.stored c.loop-item.sink) inv.written order.0.0 order.1.0 order.1.1 order.1.2 order.1.3,
      ));
      closed = λ closed. tt;
    })

pub loop-item-preserved : goal.loop-item-preserved
loop-item-preserved g c =
    let items = c.args.items.now in
    let at = slice_get_read items (length items) c.loop-item.item-index c.item-item.result refl c.loop-item-test.true c.item-item.is in
    let inv = c.loop-item.invariant in
    record {
      reads = reads_on g.K.Keeper.holds g.K.Keeper.may_leave g.K.Keeper.clean c.args.keeper.now c.loop-item.keeper c.write_item.new.keeper inv.reads c.write_item.ensures.keeper.reads;
      stays = c.in_ok-write_item.ensures.keeper.counted.stays (no_fault c.in_ok-write_item.field-0 (λ store. Keeper (Store store))) ∙ inv.stays;
      written = items_more g.K.Keeper.holds g.K.Keeper.may_leave g.K.Keeper.clean c.args.keeper.now c.loop-item.keeper c.write_item.new.keeper c.args.name.now items c.loop-item.item-index c.item-item.result at
          inv.reads c.write_item.ensures.keeper.reads _ _ _ inv.written c.in_ok-write_item.ensures.written;
      closed = λ closed. c.in_ok-write_item.ensures.sink.closed;
      used = sink_on inv.used (λ no. no) (sink_kept c.in_ok-write_item.ensures.sink.uses (λ e. cc)) (λ h. h);
    }
