use Rattle.std.proofs.Common.{◌≡◌, ◌≢◌, ◌<◌, ℕ, length, slice_index}
use Rattle.bag_lanes.specs.Lanes.{lane}
use Rattle.bag_lanes.proofs.lanes.set_lane.Given as goal

abbrev pub invariant-words : goal.invariant-words
invariant-words g l = record {
  count : length l.state ≡ length l.fn.state;
  own : (j : ℕ) → j < l.k → slice_index (lane l.i l.state) j ≡ slice_index l.value j;
  others : (j : ℕ) → j ≢ l.i → lane j l.state ≡ lane j l.fn.state;
}
