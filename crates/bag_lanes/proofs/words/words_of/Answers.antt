use Rattle.std.proofs.Common.{rules, ℕ, ◌≡◌, ◌<◌, ◌*◌, [], ◌∷◌, List, slice_index, slice_index_or, arith}
use Rattle.bag_lanes.specs.Standard.{word_at}
use Rattle.bag_lanes.proofs.Vectors.{each_lane, lane_more}
use Rattle.bag_lanes.proofs.words.words_of.Goals as goal

pub words-preserved : goal.words-preserved
words-preserved c =
    let n : ℕ = c.words.k in
    let word : ℕ → ℕ → ℕ = λ i k. word_at c.args.order (slice_index_or c.args.blocks.now i []) (4 * k) in
    let vector : List ℕ = c.word_at.result ∷ c.word_at-in-words.result ∷ c.word_at-in-words-2.result ∷ c.word_at-in-words-3.result ∷ [] in
    let here : (i : ℕ) → i < 4 → slice_index vector i ≡ word i n =
    each_lane (λ i. slice_index vector i ≡ word i n) c.word_at.ensures c.word_at-in-words.ensures c.word_at-in-words-2.ensures c.word_at-in-words-3.ensures in
    record {
      count = search rules;
      before = λ i h. lane_more (word i) i n c.words.words vector (omega (arith, c.words.invariant.count)) (c.words.invariant.before i h) (here i h);
    }
