use Rattle.std.proofs.Common.{◌≡◌, ◌≢◌, ◌∙◌, ◌-◌, ◌<◌, [], None, Some, ap, arith, inl, inr, length, refl, rules, slice_get, sym}
use Rattle.std.proofs.lemmas.Option.{same_Some, slice_get_read}
use Rattle.bag_writer.specs.Copying.{sides}
use Rattle.bag_writer.proofs.CopyLemmas.{full_set, hashed_after, places_on, places_set, places_same, under_before, under_ended, under_next}
use Rattle.bag_writer.proofs.copying.advance_each.Goals as goal
use Rattle.bag_writer.proofs.copying.advance_each.Goals.{then-is_none+in-Ok, else-is_none}
use Rattle.bag_digest.proofs.ListLemmas.{set_here, set_there}

pub returns-in-Err-clause-advanced : goal.returns-in-Err-clause-advanced
returns-in-Err-clause-advanced g c = λ work set hashed.
    let s = sides g.F.OpenFile.place g.F.Source g.G.SinkFile in
    let k = c.loop-k.k in
    let xs = c.loop-k.copies in
    let low = c.loop-k.auto.k in
    let inside : k < length xs = omega (arith, c.loop-k-test.true, c.requires.few.inside, c.loop-k.invariant.count) in
    let before = c.loop-k.invariant.advanced work set hashed in
    let there = slice_get_read xs (length xs) k c.index-copies-k-then-is_none.result refl inside c.index-copies-k-then-is_none.is in
    record {
      low = low;
      high = c.loop-k-test.true;
      under = under_before s work c.loop-k.multi c.advance.new.multi set c.args.hashed c.args.first k xs _ low (λ j apart. set_there xs k j c.advance.new.copy apart) c.in-Err.ensures.others before.0;
      here = λ copy now.
          let own : c.advance.new.copy ≡ copy = same_Some _ copy (sym (set_here xs k c.advance.new.copy inside) ∙ now) in
          rw (← own) (c.in-Err.ensures.advanced work set (before.1 k _ (omega arith) c.loop-k-test.true (there ∙ ap Some c.index-copies-k-then-is_none.is)));
    }

pub returns-in-Err-clause-rest : goal.returns-in-Err-clause-rest
returns-in-Err-clause-rest g c =
    let xs = c.loop-k.copies in
    let k = c.loop-k.k in
    let inside : k < length xs = omega (arith, c.loop-k-test.true, c.requires.few.inside, c.loop-k.invariant.count) in
    let there = slice_get_read xs (length xs) k c.index-copies-k-then-is_none.result refl inside c.index-copies-k-then-is_none.is in
    record {
      others = λ j out.
          set_there xs k j c.advance.new.copy (λ e. elim out [ inl low ↦ omega (arith, e, low, c.loop-k.auto.k) | inr high ↦ omega (arith, e, high, c.loop-k-test.true) ])
          ∙ c.loop-k.invariant.others j (elim out [ inl low ↦ inl low | inr high ↦ inr (omega (arith, high, c.loop-k-test.true)) ]);
      places = places_on g.F.OpenFile.place g.G.SinkFile.place _ xs _ c.loop-k.invariant.places
          (places_set g.F.OpenFile.place g.G.SinkFile.place xs _ k _ c.advance.new.copy (search rules) (there ∙ ap Some c.index-copies-k-then-is_none.is) (set_here xs k c.advance.new.copy inside) (λ j apart. set_there xs k j c.advance.new.copy apart) c.in-Err.ensures.places.0 c.in-Err.ensures.places.1);
    }

pub returns-in-Err-clause-inside : goal.returns-in-Err-clause-inside
returns-in-Err-clause-inside g c =
    let xs = c.loop-k.copies in
    let k = c.loop-k.k in
    let inside : k < length xs = omega (arith, c.loop-k-test.true, c.requires.few.inside, c.loop-k.invariant.count) in (
      full_set c.args.first c.args.end k xs _ c.advance.new.copy (set_here xs k c.advance.new.copy inside) (λ j apart. set_there xs k j c.advance.new.copy apart) (λ none. c.in-Err.ensures.full) c.loop-k.invariant.full,
      (c.loop-k.auto.k, c.loop-k-test.true),
    )

pub returns-clause-rest : goal.returns-clause-rest
returns-clause-rest g c =
    let end : c.loop-k.k ≡ c.args.end = omega (arith, c.loop-k-test.false, c.requires.few.low) in
    record {
      others = λ j out. c.loop-k.invariant.others j (elim out [ inl low ↦ inl low | inr high ↦ inr (omega (arith, high, end)) ]);
      places = c.loop-k.invariant.places;
    }

pub loop-k-init : goal.loop-k-init
loop-k-init g c = record {
  count = refl;
  advanced = λ work set hashed. ((λ k copy from to. absurd (omega (arith, from, to))), hashed);
  full = c.requires.few.full;
  others = λ k out. refl;
  places = places_same g.F.OpenFile.place g.G.SinkFile.place _;
}

pub loop-k-preserved : goal.loop-k-preserved
loop-k-preserved g c =
    let s = sides g.F.OpenFile.place g.F.Source g.G.SinkFile in
    let k = c.loop-k.k in
    let xs = c.loop-k.copies in
    let low = c.loop-k.auto.k in
    let inside : k < length xs = omega (arith, c.loop-k-test.true, c.requires.few.inside, c.loop-k.invariant.count) in
    let there = slice_get_read xs (length xs) k c.index-copies-k.result refl inside c.index-copies-k.is in
    elim c.if-is_none.branch [
      | then-is_none+in-Ok w ↦ rw (w.copies-is, w.multi-is)
          (let apart : (j : _) → j ≢ k → slice_get _ j ≡ slice_get xs j = λ j apart. set_there xs k j w.advance.new.copy apart in
          let at = slice_get_read xs (length xs) k w.index-copies-k-then-is_none.result refl inside w.index-copies-k-then-is_none.is in
          record {
            count = search rules;
            advanced = λ work set hashed.
                let before = c.loop-k.invariant.advanced work set hashed in (
                  under_next s work w.advance.new.multi set c.args.hashed c.args.first k _
                      (under_before s work c.loop-k.multi w.advance.new.multi set c.args.hashed c.args.first k xs _ low apart w.in-Ok.ensures.others before.0)
                      (λ copy now.
                      let own : w.advance.new.copy ≡ copy = same_Some _ copy (sym (set_here xs k w.advance.new.copy inside) ∙ now) in
                      rw (← own) (w.in-Ok.ensures.advanced work set (before.1 k _ (omega arith) c.loop-k-test.true (at ∙ ap Some w.index-copies-k-then-is_none.is)))),
                  hashed_after s work c.loop-k.multi w.advance.new.multi set c.args.hashed c.args.first k xs _ low apart w.in-Ok.ensures.others c.args.end before.1,
                );
            full = full_set c.args.first c.args.end k xs _ w.advance.new.copy (set_here xs k w.advance.new.copy inside) apart (λ none. w.in-Ok.ensures.full) c.loop-k.invariant.full;
            others = λ j out.
                apart j (λ e. elim out [ inl below ↦ omega (arith, e, below, low) | inr above ↦ omega (arith, e, above) ])
                ∙ c.loop-k.invariant.others j (elim out [ inl below ↦ inl below | inr above ↦ inr (omega (arith, above)) ]);
            places = places_on g.F.OpenFile.place g.G.SinkFile.place _ xs _ c.loop-k.invariant.places
                (places_set g.F.OpenFile.place g.G.SinkFile.place xs _ k _ w.advance.new.copy (search rules) (at ∙ ap Some w.index-copies-k-then-is_none.is) (set_here xs k w.advance.new.copy inside) apart w.in-Ok.ensures.places.0 w.in-Ok.ensures.places.1);
          })
      | else-is_none w ↦ rw (w.copies-is, w.multi-is)
          (let ended : c.index-copies-k.result.found ≢ None = λ e. (search rules) in
          record {
            count = c.loop-k.invariant.count;
            advanced = λ work set hashed.
                let before = c.loop-k.invariant.advanced work set hashed in (
                  under_next s work c.loop-k.multi set c.args.hashed c.args.first k xs before.0
                      (λ copy now.
                      let own : c.index-copies-k.result ≡ copy = same_Some _ copy (sym there ∙ now) in
                      rw (← own) (under_ended s work c.loop-k.multi c.loop-k.multi set (k - c.args.first) c.args.hashed c.args.hashed [] c.index-copies-k.result.piece.items c.index-copies-k.result ended (before.1 k c.index-copies-k.result (omega arith) c.loop-k-test.true there))),
                  λ j copy from to now. before.1 j copy (omega (arith, from)) to now,
                );
            full = c.loop-k.invariant.full;
            others = λ j out. c.loop-k.invariant.others j (elim out [ inl below ↦ inl below | inr above ↦ inr (omega (arith, above)) ]);
            places = c.loop-k.invariant.places;
          })
    ]

pub returns-clause-advanced : goal.returns-clause-advanced
returns-clause-advanced g c = λ work set hashed.
    let before = c.loop-k.invariant.advanced work set hashed in
    let end : c.loop-k.k ≡ c.args.end = omega (arith, c.loop-k-test.false, c.requires.few.low) in
    λ k copy from to now. before.0 k copy from (omega (arith, to, end)) now
