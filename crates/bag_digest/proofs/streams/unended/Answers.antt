use Rattle.std.proofs.Common.{◌≡◌, ◌≢◌, ◌∙◌, None, arith, length, refl, rules, sym}
use Rattle.std.proofs.lemmas.Option.{same_Some, slice_get_read}
use Rattle.bag_digest.proofs.StreamLemmas.{done_next, sums_of}
use Rattle.bag_digest.proofs.streams.unended.Goals as goal

pub loop-k-init : goal.loop-k-init
loop-k-init g c = λ k stream from to. absurd (omega (arith, from, to))

pub returns-then-is_none : goal.returns-then-is_none
returns-then-is_none g c =
    let xs = c.args.streams.now in
    let there = slice_get_read xs (length xs) c.loop-k.k c.index-streams-k.result refl (omega (arith, c.loop-k-test.true, c.requires)) c.index-streams-k.is in
    let none : c.index-streams-k.result.sums ≡ None = search rules in
    record {
      low = c.loop-k.auto.k;
      high = c.loop-k-test.true;
      unended = λ stream at. sums_of c.index-streams-k.result stream (same_Some _ _ (sym there ∙ at)) none;
      before = c.loop-k.invariant;
    }

pub loop-k-preserved : goal.loop-k-preserved
loop-k-preserved g c =
    let xs = c.args.streams.now in
    let there = slice_get_read xs (length xs) c.loop-k.k c.index-streams-k.result refl (omega (arith, c.loop-k-test.true, c.requires)) c.index-streams-k.is in
    let some : c.index-streams-k.result.sums ≢ None = λ none. (search rules) in
    done_next xs c.args.first c.loop-k.k c.loop-k.invariant (λ stream at none. some (sums_of stream c.index-streams-k.result (same_Some _ _ (sym at ∙ there)) none))

pub returns : goal.returns
returns g c = λ k stream from to at. c.loop-k.invariant k stream from (omega (arith, to, c.loop-k-test.false)) at
