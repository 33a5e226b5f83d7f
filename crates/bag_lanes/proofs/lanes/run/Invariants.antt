use Rattle.std.proofs.Common.{◌≡◌, ℕ, ◌<◌, None, length, slice_index_or}
use Rattle.std.specs.Option.{option_map}
use Rattle.bag_lanes.specs.Tasks.{AreAt, task_after}
use Rattle.bag_lanes.proofs.lanes.run.Given as goal

abbrev pub invariant-steps : goal.invariant-steps
invariant-steps g l = record {
  at : AreAt g.A.Algorithm.function l.messages l.state l.queue.tasks;
  tasks : (i : ℕ) → i < 4 → slice_index_or l.queue.tasks i None ≡ option_map (task_after l.counter) (slice_index_or l.fn.queue.tasks i None);
  count : length l.queue.tasks ≡ length l.fn.queue.tasks;
  next : l.queue.next ≡ l.fn.queue.next;
}
