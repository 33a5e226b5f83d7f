use Rattle.std.proofs.Common.{◌≡◌, ◌<◌, ◌≤◌, ℕ, None, slice_index_or}
use Rattle.bag_lanes.specs.Tasks.{AreFilled, HasLane}
use Rattle.bag_lanes.proofs.digests.filled.Given as goal

abbrev pub invariant-lanes : goal.invariant-lanes
invariant-lanes g l = record {
  filled : AreFilled g.A.Algorithm.function l.messages l.state l.queue.tasks l.queue.next l.i;
  begun : (k : ℕ) → k < l.queue.next → HasLane l.queue.tasks k;
  idle : (i : ℕ) → l.i ≤ i → slice_index_or l.queue.tasks i None ≡ None;
}
