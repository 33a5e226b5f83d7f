use Rattle.std.proofs.Common.{◌≡◌, ◌<◌, ℕ, length, slice_index}
use Rattle.bag_lanes.specs.Lanes.{lane}
use Rattle.bag_lanes.proofs.pieces.value_in.Given as goal

abbrev pub invariant-words : goal.invariant-words
invariant-words g l = record {
  count : length l.value ≡ length l.initial.value;
  before : (j : ℕ) → j < l.k → slice_index l.value j ≡ slice_index (lane l.i l.state) j;
}
