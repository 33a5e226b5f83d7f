use Rattle.std.proofs.Common.{◌≡◌, ℕ, ◌<◌, ◌*◌, length, slice_index}
use Rattle.bag_lanes.specs.Standard.{word_at}
use Rattle.bag_lanes.proofs.words.block_words.Given as goal

abbrev pub invariant-words : goal.invariant-words
invariant-words l = record {
  count : length l.words ≡ 16;
  before : (k : ℕ) → k < l.k → slice_index l.words k ≡ word_at l.order l.block (4 * k);
}
