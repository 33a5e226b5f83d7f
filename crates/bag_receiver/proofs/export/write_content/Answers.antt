use Rattle.std.proofs.Common.{◌∙◌, [], arith, refl, rules}
use Rattle.std.proofs.lemmas.Result.{err_from_is_err_and}
use Rattle.bag_writer.proofs.OctetSteps.{writes_none}
use Rattle.bag_writer.proofs.SinkKept.{sink_kept}
use Rattle.bag_writer.proofs.SinkUses.{sink_on}
use Rattle.bag_receiver.proofs.AuditLemmas.{reads_nothing, reads_on}
use Rattle.bag_receiver.proofs.CountLemmas.{no_fault}
use Rattle.bag_receiver.proofs.ExportLemmas.{written_more, written_none, written_part, wrote_all, wrote_more}
use Rattle.bag_receiver.proofs.Words.{Store}
use Rattle.bag_receiver.proofs.export.write_content.Goals as goal

pub returns-in_err-write-clause-written : goal.returns-in_err-write-clause-written
returns-in_err-write-clause-written g c =
    let error = err_from_is_err_and c.from_residual-in_err-write.result c.from_residual-in_err-write.ensures.1 in
    let inv = c.loop-read.invariant in
    rw error.1 (written_part g.K.Keeper.holds g.K.Keeper.may_leave g.K.Keeper.clean c.args.keeper.now c.loop-read.keeper c.next_piece.new.keeper c.args.name.now c.args.item.now.path
    c.args.item.now.octets c.loop-read.read c.in_ok-n.n c.next_piece.new.buffer inv.within inv.reads c.next_piece.ensures.keeper.reads c.in_ok-n.ensures.piece _ _ _ inv.written c.in_err-write.ensures.part)

pub loop-read-init : goal.loop-read-init
loop-read-init g c =
    let keeper = g.K.Keeper in
    record {
      within = search rules;
      reads = reads_nothing keeper.holds keeper.may_leave keeper.clean c.args.keeper.now;
      stays = refl;
      written = written_none keeper.holds keeper.clean c.args.keeper.now c.args.name.now c.args.item.now.path c.args.item.now.octets (g.S.Sink.stored c.args.sink.now);
      opened = refl;
      used = search rules;
      some = ([], refl, writes_none (g.S.Sink.stored c.args.sink.now));
    }

pub loop-read-preserved : goal.loop-read-preserved
loop-read-preserved g c =
    let inv = c.loop-read.invariant in
    record {
      within = omega (arith, c.in_ok-n.ensures.bound.0, inv.within);
      reads = reads_on g.K.Keeper.holds g.K.Keeper.may_leave g.K.Keeper.clean c.args.keeper.now c.loop-read.keeper c.next_piece.new.keeper inv.reads c.next_piece.ensures.keeper.reads;
      stays = c.in_ok-n.ensures.keeper.counted.stays (no_fault c.in_ok-n.n Store) ∙ inv.stays;
      written = written_more g.K.Keeper.holds g.K.Keeper.may_leave g.K.Keeper.clean c.args.keeper.now c.loop-read.keeper c.next_piece.new.keeper c.args.name.now c.args.item.now.path
          c.args.item.now.octets c.loop-read.read c.in_ok-n.n c.next_piece.new.buffer inv.within inv.reads c.next_piece.ensures.keeper.reads c.in_ok-n.ensures.piece _ _ _ inv.written c.in_ok-write.ensures.written;
      opened = c.in_ok-write.ensures.open ∙ inv.opened;
      used = sink_on inv.used (λ no. no) (sink_kept c.in_ok-write.ensures.uses (λ e. cc)) (λ h. h);
      some = wrote_more c.loop-read.read c.in_ok-n.n c.next_piece.new.buffer _ _ _ c.in_ok-n.ensures.bound.1 inv.some c.in_ok-write.ensures.written;
    }

pub returns-clause-ended : goal.returns-clause-ended
returns-clause-ended g c =
    let inv = c.loop-read.invariant in
    wrote_all c.args.item.now.octets c.loop-read.read _ _ (omega (arith, inv.within, c.loop-read-test.false)) inv.some
