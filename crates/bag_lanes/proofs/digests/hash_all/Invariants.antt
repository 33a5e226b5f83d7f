use Rattle.std.proofs.Common.{◌≡◌, ◌<◌, ◌+◌, ◌-◌, ◌⊎◌, ℕ, length}
use Rattle.bag_lanes.specs.Tasks.{AreFilled, HasLane}
use Rattle.bag_lanes.proofs.Filling.{IsDone, busy_count}
use Rattle.bag_lanes.proofs.digests.hash_all.Given as goal

abbrev pub invariant-turns : goal.invariant-turns
invariant-turns g l = record {
  filled : AreFilled g.A.Algorithm.function l.messages l.state l.queue.tasks l.queue.next 4;
  places : length l.digests ≡ length l.messages;
  done : (k : ℕ) → k < l.queue.next → IsDone g.A.Algorithm.function l.messages l.digests k ⊎ HasLane l.queue.tasks k;
}

abbrev pub decreases-turns : goal.decreases-turns
decreases-turns g l = (length l.messages - l.queue.next) + busy_count l.queue.tasks
