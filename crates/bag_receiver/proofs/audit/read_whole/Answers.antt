use Rattle.std.proofs.Common.{◌∙◌, ◌+◌, arith, subst}
use Rattle.std.proofs.lemmas.List.{length-take-le}
use Rattle.bag_digest.specs.ShortContents.{IsHeld}
use Rattle.bag_ledger.specs.declared.keeper_faults.KeepFault.TheVariants.{Store}
use Rattle.bag_receiver.proofs.AuditLemmas.{none_is_read, reads_on, taken_more, took_more}
use Rattle.bag_receiver.proofs.CountLemmas.{no_fault}
use Rattle.bag_receiver.proofs.audit.read_whole.Goals as goal

pub returns-then-n-eq0-clause-took : goal.returns-then-n-eq0-clause-took
returns-then-n-eq0-clause-took g c = λ clean content item sized.
    absurd (none_is_read g.K.Keeper.holds g.K.Keeper.may_leave g.K.Keeper.clean c.args.keeper.now c.loop-read.keeper c.next_piece.new.keeper c.args.name.now c.args.path.now
    c.args.octets c.loop-read.read c.in_ok-n.n c.next_piece.new.buffer c.loop-read.invariant.within c.loop-read.invariant.reads c.next_piece.ensures.keeper.reads c.in_ok-n.ensures.piece
    c.if-n-eq0.true clean content item sized)

pub loop-read-preserved : goal.loop-read-preserved
loop-read-preserved g c = record {
  within = omega (arith, c.in_ok-n.ensures.bound.0, c.loop-read.invariant.within);
  room = c.next_piece.ensures.room ∙ c.loop-read.invariant.room;
  reads = reads_on g.K.Keeper.holds g.K.Keeper.may_leave g.K.Keeper.clean c.args.keeper.now c.loop-read.keeper c.next_piece.new.keeper c.loop-read.invariant.reads c.next_piece.ensures.keeper.reads;
  stays = c.in_ok-n.ensures.keeper.counted.stays (no_fault c.in_ok-n.n Store) ∙ c.loop-read.invariant.stays;
  took = took_more g.K.Keeper.holds g.K.Keeper.may_leave g.K.Keeper.clean c.args.keeper.now c.loop-read.keeper c.next_piece.new.keeper c.args.name.now c.args.path.now
      c.args.octets c.loop-read.read c.in_ok-n.n c.next_piece.new.buffer c.loop-read.invariant.within c.loop-read.invariant.reads c.next_piece.ensures.keeper.reads c.in_ok-n.ensures.piece
      c.args.set c.loop-read.content c.take.new.self c.in_ok-take.ensures.taken c.loop-read.invariant.took;
  some = taken_more c.loop-read.content c.take.new.self c.args.set c.loop-read.read c.in_ok-n.n c.next_piece.new.buffer c.in_ok-n.ensures.bound.1 c.loop-read.invariant.some c.in_ok-take.ensures.taken;
  held = subst (λ k. IsHeld c.take.new.self c.args.octets (c.loop-read.read + k)) (length-take-le c.in_ok-n.n c.next_piece.new.buffer c.in_ok-n.ensures.bound.1)
      (c.in_ok-take.ensures.held c.args.octets c.loop-read.read c.loop-read.invariant.held);
}
