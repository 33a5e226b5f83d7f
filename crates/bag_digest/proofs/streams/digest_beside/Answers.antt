use Rattle.std.proofs.Common.{◌∙◌, arith, inl, inr, refl, rules, subst, sym}
use Rattle.bag_digest.specs.Streams.{AreDone}
use Rattle.bag_digest.proofs.StreamLemmas.{IsTold, ended_each, fresh_each, full_each, hashed_each, kept_behind, kept_more, told_stays, within_first}
use Rattle.bag_digest.proofs.streams.digest_beside.Goals as goal
use Rattle.bag_digest.proofs.ListLemmas.{by_no_other, stands}

pub pieces-init : goal.pieces-init
pieces-init g c =
    let s = g.S.Source in
    record {
      low = omega (arith, c.requires.fresh.some);
      high = omega arith;
      count = refl;
      under = fresh_each s.remaining s.failures s.ready s.keeps c.new-multi.result c.args.set c.args.limit c.args.first c.args.end c.args.streams.now g.met.S.Source.keeps_itself c.requires.limit c.requires.fresh.few c.requires.fresh.fresh c.new-multi.ensures;
      told = refl;
      given_up = λ k a b from to. absurd (omega (arith, from, to));
      others = λ k out. refl;
    }

pub returns-in-None-clause-ended : goal.returns-in-None-clause-ended
returns-in-None-clause-ended g c = λ k a b from to.
    let s = g.S.Source in
    let inv = c.pieces.invariant in
    let same = subst (IsTold s.remaining s.failures s.ready s.keeps c.args.limit c.pieces.end c.args.end c.args.streams.now c.pieces.streams) c.in-None.is inv.told in
    let done = by_no_other c.unended.result (AreDone c.pieces.streams c.args.first c.pieces.end) _ c.unended.ensures c.in_default.not-Some in
    ended_each s.remaining s.failures s.ready s.keeps c.pieces.multi c.args.set c.args.limit c.pieces.hashed c.args.first c.pieces.end c.args.streams.now c.pieces.streams inv.under done k a b from (omega (arith, to, same))

pub returns-in-Some-told-clause-stopped : goal.returns-in-Some-told-clause-stopped
returns-in-Some-told-clause-stopped g c =
    let s = g.S.Source in
    let inv = c.pieces.invariant in
    let told = subst (IsTold s.remaining s.failures s.ready s.keeps c.args.limit c.pieces.end c.args.end c.args.streams.now c.pieces.streams) c.in-Some-told.is inv.told in
    let done = by_no_other c.unended.result (AreDone c.pieces.streams c.args.first c.pieces.end) _ c.unended.ensures c.in_default.not-Some in
    let a = stands c.args.streams.now c.pieces.end (omega (arith, told.0, c.requires.fresh.inside)) in
    let b = stands c.pieces.streams c.pieces.end (omega (arith, told.0, c.requires.fresh.inside, inv.count)) in
    record {
      was = a.0;
      is = b.0;
      low = inv.low;
      old_at = a.1;
      new_at = b.1;
      stopped = told.1 a.0 b.0 a.1 b.1;
      before = ended_each s.remaining s.failures s.ready s.keeps c.pieces.multi c.args.set c.args.limit c.pieces.hashed c.args.first c.pieces.end c.args.streams.now c.pieces.streams inv.under done;
      behind = kept_behind s.keeps g.met.S.Source.keeps_itself c.args.first c.pieces.end c.args.end c.args.streams.now c.pieces.streams (omega (arith, inv.low)) inv.given_up inv.others;
    }

pub take_pieces-requires-clause-full : goal.take_pieces-requires-clause-full
take_pieces-requires-clause-full g c =
    let s = g.S.Source in
    let inv = c.pieces.invariant in
    full_each s.remaining s.failures s.ready s.keeps c.pieces.multi c.args.set c.args.limit c.pieces.hashed c.args.first c.pieces.end c.args.streams.now c.pieces.streams inv.count inv.under

pub advance_each-requires-clause-full : goal.advance_each-requires-clause-full
advance_each-requires-clause-full g c =
    let s = g.S.Source in
    let inv = c.pieces.invariant in
    full_each s.remaining s.failures s.ready s.keeps c.pieces.multi c.args.set c.args.limit c.pieces.hashed c.args.first c.pieces.end c.args.streams.now c.pieces.streams inv.count inv.under

pub overflow_add-hashed : goal.overflow_add-hashed
overflow_add-hashed g c =
    let s = g.S.Source in
    let inv = c.pieces.invariant in
    let within = within_first s.remaining s.failures s.ready s.keeps c.pieces.multi c.args.set c.args.limit c.pieces.hashed c.args.first c.pieces.end c.in-Some.next c.args.streams.now c.pieces.streams inv.count (omega (arith, inv.high, inv.count, c.requires.fresh.inside)) inv.under c.in-Some.ensures in
    omega (arith, within, c.ranges.limit.fits)

pub advance_each-requires-clause-within : goal.advance_each-requires-clause-within
advance_each-requires-clause-within g c =
    let s = g.S.Source in
    let inv = c.pieces.invariant in
    within_first s.remaining s.failures s.ready s.keeps c.pieces.multi c.args.set c.args.limit c.pieces.hashed c.args.first c.pieces.end c.in-Some.next c.args.streams.now c.pieces.streams inv.count (omega (arith, inv.high, inv.count, c.requires.fresh.inside)) inv.under c.in-Some.ensures

pub pieces-smaller-in-Err : goal.pieces-smaller-in-Err
pieces-smaller-in-Err g c =
    let s = g.S.Source in
    let inv = c.pieces.invariant in
    let within = within_first s.remaining s.failures s.ready s.keeps c.pieces.multi c.args.set c.args.limit c.pieces.hashed c.args.first c.pieces.end c.in-Some.next c.args.streams.now c.pieces.streams inv.count (omega (arith, inv.high, inv.count, c.requires.fresh.inside)) inv.under c.in-Some.ensures in
    omega (arith, within)

pub pieces-smaller : goal.pieces-smaller
pieces-smaller g c =
    let s = g.S.Source in
    let inv = c.pieces.invariant in
    let within = within_first s.remaining s.failures s.ready s.keeps c.pieces.multi c.args.set c.args.limit c.pieces.hashed c.args.first c.pieces.end c.in-Some.next c.args.streams.now c.pieces.streams inv.count (omega (arith, inv.high, inv.count, c.requires.fresh.inside)) inv.under c.in-Some.ensures in
    omega (arith, within)

pub pieces-preserved-in-Err : goal.pieces-preserved-in-Err
pieces-preserved-in-Err g c =
    let s = g.S.Source in
    let inv = c.pieces.invariant in
    let hashed = hashed_each s.remaining s.failures s.ready s.keeps c.pieces.multi c.take_pieces.new.multi c.args.set c.args.limit c.pieces.hashed c.args.first c.pieces.end c.args.streams.now c.pieces.streams inv.under c.take_pieces.ensures in
    let h = c.in-Err.ensures.advanced c.args.set c.args.streams.now hashed in
    record {
      low = h.low;
      high = omega (arith, h.high, inv.high);
      count = search rules;
      under = h.under;
      told = (omega (arith, h.high, inv.high), h.stopped);
      given_up = kept_more s.remaining s.failures s.ready s.keeps c.args.limit c.args.first c.in-Err.stopped c.pieces.end c.args.end c.args.streams.now c.pieces.streams c.advance_each.new.streams h.stopped h.behind c.in-Err.ensures.others inv.given_up;
      others = λ k out. c.in-Err.ensures.others k (elim out [ inl low ↦ inl low | inr high ↦ inr (omega (arith, high, inv.high)) ]) ∙ inv.others k out;
    }

pub pieces-preserved : goal.pieces-preserved
pieces-preserved g c =
    let s = g.S.Source in
    let inv = c.pieces.invariant in
    let hashed = hashed_each s.remaining s.failures s.ready s.keeps c.pieces.multi c.take_pieces.new.multi c.args.set c.args.limit c.pieces.hashed c.args.first c.pieces.end c.args.streams.now c.pieces.streams inv.under c.take_pieces.ensures in
    record {
      low = inv.low;
      high = inv.high;
      count = search rules;
      under = c.in_default-advance_each.ensures.advanced c.args.set c.args.streams.now hashed;
      told = told_stays s.remaining s.failures s.ready s.keeps c.args.limit c.args.first c.pieces.end c.args.end c.args.streams.now c.pieces.streams c.advance_each.new.streams c.pieces.told c.in_default-advance_each.ensures.others inv.told;
      given_up = λ k a b from to at now. inv.given_up k a b from to at (sym (c.in_default-advance_each.ensures.others k (inr from)) ∙ now);
      others = λ k out. c.in_default-advance_each.ensures.others k (elim out [ inl low ↦ inl low | inr high ↦ inr (omega (arith, high, inv.high)) ]) ∙ inv.others k out;
    }
