use Rattle.std.proofs.Common.{◌≡◌, ◌≤◌, ◌∙◌, arith, inr, rules, length, sym}
use Rattle.std.proofs.lemmas.Result.{err_from_is_err_and}
use Rattle.bag_digest.proofs.StreamLemmas.{ended_more, first_more}
use Rattle.bag_digest.proofs.streams.digest_streams.Goals as goal

pub returns-in_err-digest_four-clause-stopped : goal.returns-in_err-digest_four-clause-stopped
returns-in_err-digest_four-clause-stopped g c =
    let s = g.S.Source in
    let before = c.fours.invariant in
    let p = err_from_is_err_and c.from_residual.result c.from_residual.ensures.1 in
    rw (p.1, p.2) (first_more s.remaining s.failures s.ready s.keeps c.args.set c.args.limit c.fours.first c.args.streams.now c.fours.streams c.digest_four.new.streams before.later before.ended _ c.in_err-digest_four.field-0.0 c.in_err-digest_four.ensures.others c.in_err-digest_four.ensures.stopped)

pub returns-then-first-streams-clause-ended : goal.returns-then-first-streams-clause-ended
returns-then-first-streams-clause-ended g c = λ k a b from to at now.
    let e : c.fours.first ≡ length c.fours.streams = search rules in
    c.fours.invariant.ended k a b from (omega (arith, to, e, c.fours.invariant.count)) at now

pub fours-preserved : goal.fours-preserved
fours-preserved g c =
    let s = g.S.Source in
    let before = c.fours.invariant in
    let after = c.in_ok-digest_four.ensures in
    let low : c.fours.first ≤ c.next_end-end.result = omega (arith, c.next_end-end.ensures.0) in
    record {
      inside = search rules;
      count = search rules;
      ended = ended_more s.remaining s.failures s.ready s.keeps c.args.set c.args.limit c.fours.first c.args.streams.now c.fours.streams c.digest_four.new.streams before.later before.ended _ _ after.others after.ended;
      later = λ k from. after.others k (inr from) ∙ before.later k (omega (arith, from, low));
    }

pub digest_four-requires-clause-fresh : goal.digest_four-requires-clause-fresh
digest_four-requires-clause-fresh g c =
    let before = c.fours.invariant in
    record {
      some = c.next_end-end.ensures.0;
      few = c.next_end-end.ensures.1;
      inside = c.next_end-end.ensures.2;
      fresh = λ k stream from to at. c.requires.fresh k stream (omega arith) (omega (arith, to, c.next_end-end.ensures.2, before.count)) (sym (before.later k from) ∙ at);
    }
