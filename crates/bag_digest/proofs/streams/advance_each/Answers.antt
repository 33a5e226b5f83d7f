use Rattle.std.proofs.Common.{◌≡◌, ◌≢◌, ◌∙◌, ◌<◌, None, Some, ap, arith, inl, inr, length, refl, rules, slice_get, sym}
use Rattle.std.proofs.lemmas.Option.{same_Some, slice_get_read}
use Rattle.bag_digest.proofs.StreamLemmas.{hashed_after, under_before, under_ended, under_next}
use Rattle.bag_digest.proofs.streams.advance_each.Goals as goal
use Rattle.bag_digest.proofs.streams.advance_each.Goals.{then-is_none+in-Ok, else-is_none}
use Rattle.bag_digest.proofs.ListLemmas.{set_here, set_there}

pub returns-in-Err-clause-advanced : goal.returns-in-Err-clause-advanced
returns-in-Err-clause-advanced g c = λ set start hashed.
    let s = g.S.Source in
    let k = c.loop-k.k in
    let xs = c.loop-k.streams in
    let low = c.loop-k.auto.k in
    let inside : k < length xs = omega (arith, c.loop-k-test.true, c.requires.four.2, c.loop-k.invariant.count) in
    let before = c.loop-k.invariant.advanced set start hashed in
    let there = slice_get_read xs (length xs) k c.index-streams-k-then-is_none.result refl inside c.index-streams-k-then-is_none.is in
    record {
      low = low;
      high = c.loop-k-test.true;
      under = under_before s.remaining s.failures s.ready s.keeps c.loop-k.multi c.advance.new.multi set c.args.limit c.args.hashed c.args.first k start xs _ low (λ j apart. set_there xs k j c.advance.new.stream apart) c.in-Err.ensures.others before.0;
      stopped = λ was is at now.
          let own : c.advance.new.stream ≡ is = same_Some _ is (sym (set_here xs k c.advance.new.stream inside) ∙ now) in
          rw (← own) (c.in-Err.ensures.advanced set was (before.1 k was _ (omega arith) c.loop-k-test.true at (there ∙ ap Some c.index-streams-k-then-is_none.is)));
      behind = λ j a b past to at now.
          (before.1 j a b (omega (arith, past)) to at (sym (set_there xs k j c.advance.new.stream (λ e. omega (arith, e, past))) ∙ now)).uses.kept;
    }

pub returns-in-Err-clause-others : goal.returns-in-Err-clause-others
returns-in-Err-clause-others g c = λ k out.
    set_there c.loop-k.streams c.loop-k.k k c.advance.new.stream (λ e. elim out [ inl low ↦ omega (arith, e, low, c.loop-k.auto.k) | inr high ↦ omega (arith, e, high, c.loop-k-test.true) ])
    ∙ c.loop-k.invariant.others k (elim out [ inl low ↦ inl low | inr high ↦ inr (omega (arith, high, c.loop-k-test.true)) ])

pub loop-k-preserved : goal.loop-k-preserved
loop-k-preserved g c =
    let s = g.S.Source in
    let k = c.loop-k.k in
    let xs = c.loop-k.streams in
    let low = c.loop-k.auto.k in
    let inside : k < length xs = omega (arith, c.loop-k-test.true, c.requires.four.2, c.loop-k.invariant.count) in
    let there = slice_get_read xs (length xs) k c.index-streams-k.result refl inside c.index-streams-k.is in
    elim c.if-is_none.branch [
      | then-is_none+in-Ok w ↦ rw (w.streams-is, w.multi-is)
          (let apart : (j : _) → j ≢ k → slice_get _ j ≡ slice_get xs j = λ j apart. set_there xs k j w.advance.new.stream apart in
          let at = slice_get_read xs (length xs) k w.index-streams-k-then-is_none.result refl inside w.index-streams-k-then-is_none.is in
          record {
            count = search rules;
            advanced = λ set start hashed.
                let before = c.loop-k.invariant.advanced set start hashed in (
                  under_next s.remaining s.failures s.ready s.keeps w.advance.new.multi set c.args.limit c.args.hashed c.args.first k start _
                      (under_before s.remaining s.failures s.ready s.keeps c.loop-k.multi w.advance.new.multi set c.args.limit c.args.hashed c.args.first k start xs _ low apart w.in-Ok.ensures.others before.0)
                      (λ a b has now.
                      let own : w.advance.new.stream ≡ b = same_Some _ b (sym (set_here xs k w.advance.new.stream inside) ∙ now) in
                      rw (← own) (w.in-Ok.ensures.advanced set a (before.1 k a _ (omega arith) c.loop-k-test.true has (at ∙ ap Some w.index-streams-k-then-is_none.is)))),
                  hashed_after s.remaining s.failures s.ready s.keeps c.loop-k.multi w.advance.new.multi set c.args.limit c.args.hashed c.args.first k start xs _ low apart w.in-Ok.ensures.others c.args.end before.1,
                );
            others = λ j out.
                apart j (λ e. elim out [ inl below ↦ omega (arith, e, below, low) | inr above ↦ omega (arith, e, above) ])
                ∙ c.loop-k.invariant.others j (elim out [ inl below ↦ inl below | inr above ↦ inr (omega (arith, above)) ]);
          })
      | else-is_none w ↦ rw (w.streams-is, w.multi-is)
          (let ended : c.index-streams-k.result.sums ≢ None = λ e. (search rules) in
          record {
            count = c.loop-k.invariant.count;
            advanced = λ set start hashed.
                let before = c.loop-k.invariant.advanced set start hashed in (
                  under_next s.remaining s.failures s.ready s.keeps c.loop-k.multi set c.args.limit c.args.hashed c.args.first k start xs before.0
                      (λ a b has now.
                      let own : c.index-streams-k.result ≡ b = same_Some _ b (sym there ∙ now) in
                      rw (← own) (under_ended s.remaining s.failures s.ready s.keeps _ a c.index-streams-k.result ended (before.1 k a c.index-streams-k.result (omega arith) c.loop-k-test.true has there))),
                  λ j a b from to has now. before.1 j a b (omega (arith, from)) to has now,
                );
            others = λ j out. c.loop-k.invariant.others j (elim out [ inl below ↦ inl below | inr above ↦ inr (omega (arith, above)) ]);
          })
    ]

pub returns-clause-advanced : goal.returns-clause-advanced
returns-clause-advanced g c = λ set start hashed.
    let before = c.loop-k.invariant.advanced set start hashed in
    let end : c.loop-k.k ≡ c.args.end = omega (arith, c.loop-k-test.false, c.requires.four.0) in
    λ k a b from to at now. before.0 k a b from (omega (arith, to, end)) at now
