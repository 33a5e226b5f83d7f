use Rattle.std.proofs.Common.{◌≡◌, ℕ, ◌<◌, ◌*◌, [], length, slice_index, slice_index_or}
use Rattle.bag_lanes.specs.Lanes.{lane}
use Rattle.bag_lanes.specs.Standard.{word_at}
use Rattle.bag_lanes.proofs.words.words_of.Given as goal

abbrev pub invariant-words : goal.invariant-words
invariant-words l = record {
  count : length l.words ≡ 16;
  before : (i : ℕ) → i < 4 → (k : ℕ) → k < l.k
      → slice_index (lane i l.words) k ≡ word_at l.order (slice_index_or l.blocks i []) (4 * k);
}
