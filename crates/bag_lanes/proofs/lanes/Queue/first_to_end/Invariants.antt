use Rattle.std.proofs.Common.{◌≡◌, ℕ, ◌<◌, ◌≤◌, Some, None, slice_index_or}
use Rattle.std.specs.Option.{ForSome}
use Rattle.bag_lanes.proofs.lanes.Queue.first_to_end.Given as goal

abbrev pub invariant-lanes : goal.invariant-lanes
invariant-lanes l = record {
  none : l.first ≡ None → (j : ℕ) → j < l.i → slice_index_or l.self.tasks j None ≡ None;
  lane : ForSome l.first (λ busy. busy.lane < 4);
  task : ForSome l.first (λ busy. slice_index_or l.self.tasks busy.lane None ≡ Some busy.task);
  fewest : ForSome l.first (λ busy. (j : ℕ) → j < l.i → ForSome (slice_index_or l.self.tasks j None) (λ task. busy.task.left ≤ task.left));
}
