use Rattle.std.proofs.Common.{rules, ◌≡◌, ℕ, [], ◌∙◌, inl, inr, slice_index, slice_index_or, sym, arith}
use Rattle.std.proofs.lemmas.Bool.{cases_lt}
use Rattle.std.proofs.lemmas.List.{ext_get_or, get_or-set_other, get_or-set_same, length-replicate}
use Rattle.bag_lanes.specs.Lanes.{lane}
use Rattle.bag_lanes.proofs.Vectors.{lane_at, length-lane}
use Rattle.bag_lanes.proofs.pieces.value_in.Goals as goal

pub words-preserved : goal.words-preserved
words-preserved g c =
    let k : ℕ = c.words.k in
    let word : ℕ = slice_index (slice_index_or c.args.state.now k []) c.args.i in
    let size = length-replicate {A = ℕ} g.row.WORDS 0 in
    record {
      count = search rules;
      before = λ j low.
          elim (cases_lt j k) [
            | inl under ↦ get_or-set_other c.words.value k j word 0 (omega arith) ∙ c.words.invariant.before j under
            | inr over ↦
                let e : k ≡ j = omega arith in
                rw (← e) (get_or-set_same c.words.value k word 0 (omega (arith, c.words.invariant.count, size)) ∙ sym (lane_at c.args.i k c.args.state.now))
          ];
    }

pub returns : goal.returns
returns g c =
    let size = length-replicate {A = ℕ} g.row.WORDS 0 in
    let vectors = length-lane c.args.i c.args.state.now in
    ext_get_or 0 c.words.value (lane c.args.i c.args.state.now) (omega (arith, c.words.invariant.count, size, vectors))
    (λ j low. c.words.invariant.before j (omega (arith, c.words.invariant.count, size)))
