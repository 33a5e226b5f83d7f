use Rattle.std.proofs.Common.{◌∙◌, ◌<◌, ◌+◌, arith, inl, inr, refl}
use Rattle.bag_digest.specs.declared.buffers.TheConstants.{FRONT}
use Rattle.bag_rules.specs.declared.limits.TheConstants.{LARGEST_FILE}
use Rattle.bag_writer.specs.Copying.{AreDone, sides}
use Rattle.bag_writer.proofs.CopyGroups.{all_told, full_stay}
use Rattle.bag_writer.proofs.CopyLemmas.{done_past, ended_each, fresh_each, hashed_each, places_on, places_same, told_stays}
use Rattle.bag_writer.proofs.copying.copy_beside.Goals as goal
use Rattle.bag_digest.proofs.ListLemmas.{by_no_other}

pub pieces-init : goal.pieces-init
pieces-init g c =
    let s = sides g.F.OpenFile.place g.F.Source g.G.SinkFile in
    record {
      low = c.requires.low;
      high = omega arith;
      count = refl;
      under = λ work fresh. (fresh_each s work c.new-multi.result c.args.set c.args.first c.args.end c.args.copies.now c.requires.few fresh c.new-multi.ensures, refl);
      full = c.requires.full;
      others = λ k out. refl;
      places = places_same g.F.OpenFile.place g.G.SinkFile.place _;
    }

pub take_pieces-requires-clause-few : goal.take_pieces-requires-clause-few
take_pieces-requires-clause-few g c =
    let inv = c.pieces.invariant in
    record { low = inv.low; few = omega (arith, inv.high, c.requires.few); inside = omega (arith, inv.high, inv.count, c.requires.inside); full = inv.full }

pub advance_each-requires-clause-few : goal.advance_each-requires-clause-few
advance_each-requires-clause-few g c =
    let inv = c.pieces.invariant in
    record { low = inv.low; few = omega (arith, inv.high, c.requires.few); inside = omega (arith, inv.high, inv.count, c.requires.inside); full = inv.full }

pub pieces-preserved-in-Err : goal.pieces-preserved-in-Err
pieces-preserved-in-Err g c =
    let s = sides g.F.OpenFile.place g.F.Source g.G.SinkFile in
    let inv = c.pieces.invariant in
    let inside = c.in-Err.ensures.inside.1 in
    let others = c.in-Err.ensures.rest.others in
    record {
      low = inside.0;
      high = omega (arith, inside.1, inv.high);
      count = c.in-Err.ensures.rest.places.count ∙ inv.count;
      under = λ work fresh.
          let hashed = hashed_each s work c.pieces.multi c.take_pieces.new.multi c.args.set c.pieces.hashed c.args.first c.pieces.end c.pieces.copies inv.full (inv.under work fresh).0 c.take_pieces.ensures in
          let h = c.in-Err.ensures.advanced work c.args.set hashed in
          (h.under, (omega (arith, h.high, inv.high), h.here));
      full = full_stay c.args.first c.pieces.end c.args.first c.in-Err.stop.place _ _ (omega arith) (omega (arith, inside.1)) (λ k from to. refl) c.in-Err.ensures.inside.0;
      others = λ k out. others k (elim out [ inl low ↦ inl low | inr high ↦ inr (omega (arith, high, inv.high)) ]) ∙ inv.others k out;
      places = places_on g.F.OpenFile.place g.G.SinkFile.place _ _ _ inv.places c.in-Err.ensures.rest.places;
    }

pub pieces-preserved : goal.pieces-preserved
pieces-preserved g c =
    let s = sides g.F.OpenFile.place g.F.Source g.G.SinkFile in
    let inv = c.pieces.invariant in
    let after = c.in_default-advance_each.ensures in
    record {
      low = inv.low;
      high = inv.high;
      count = after.rest.places.count ∙ inv.count;
      under = λ work fresh.
          let hashed = hashed_each s work c.pieces.multi c.take_pieces.new.multi c.args.set c.pieces.hashed c.args.first c.pieces.end c.pieces.copies inv.full (inv.under work fresh).0 c.take_pieces.ensures in
          (after.advanced work c.args.set hashed, told_stays s work c.args.first c.pieces.end c.args.end c.pieces.copies c.advance_each.new.copies c.pieces.told after.rest.others (inv.under work fresh).1);
      full = after.inside.0;
      others = λ k out. after.rest.others k (elim out [ inl low ↦ inl low | inr high ↦ inr (omega (arith, high, inv.high)) ]) ∙ inv.others k out;
      places = places_on g.F.OpenFile.place g.G.SinkFile.place _ _ _ inv.places after.rest.places;
    }

pub returns-in_default-clause-copied : goal.returns-in_default-clause-copied
returns-in_default-clause-copied g c = λ work fresh.
    let s = sides g.F.OpenFile.place g.F.Source g.G.SinkFile in
    let inv = c.pieces.invariant in
    let done = by_no_other c.next_open.result (AreDone c.pieces.copies c.args.first c.pieces.end) _ c.next_open.ensures c.in_default.not-Some in
    all_told s work c.args.set c.args.first c.pieces.end c.args.end c.pieces.copies c.pieces.told c.told_at.result c.told_at.ensures inv.low (inv.under work fresh).1
    (ended_each s work c.pieces.multi c.args.set c.pieces.hashed c.args.first c.pieces.end c.pieces.copies (inv.under work fresh).0 done)

pub returns-clause-copied : goal.returns-clause-copied
returns-clause-copied g c = λ work fresh.
    let s = sides g.F.OpenFile.place g.F.Source g.G.SinkFile in
    let inv = c.pieces.invariant in
    let past : LARGEST_FILE < c.pieces.hashed + FRONT = omega (arith, c.pieces-test.false) in
    let done = done_past s work c.pieces.multi c.args.set c.pieces.hashed c.args.first c.pieces.end c.pieces.copies past inv.full (inv.under work fresh).0 in
    all_told s work c.args.set c.args.first c.pieces.end c.args.end c.pieces.copies c.pieces.told c.told_at-2.result c.told_at-2.ensures inv.low (inv.under work fresh).1
    (ended_each s work c.pieces.multi c.args.set c.pieces.hashed c.args.first c.pieces.end c.pieces.copies (inv.under work fresh).0 done)
