use Rattle.std.proofs.Common.{rules, ◌≡◌, [], ◌∷◌, List, Option, Some, None, slice_index_or, refl, arith}
use Rattle.std.specs.Option.{option_map}
use Rattle.bag_lanes.specs.declared.tasks.Task.{Task}
use Rattle.bag_lanes.specs.Lanes.{lane}
use Rattle.bag_lanes.specs.Tasks.{IsAt, task_after}
use Rattle.bag_lanes.proofs.LaneTasks.{IsAt_moved}
use Rattle.bag_lanes.proofs.Vectors.{each_lane}
use Rattle.bag_lanes.proofs.lanes.step.Goals as goal

pub returns : goal.returns
returns g c =
    let f = g.A.Algorithm.function in
    let messages = c.args.messages.now in
    let before = c.args.queue.now.tasks in
    let after = c.compress.new.state in
    let tasks : List (Option Task) = c.moved.result ∷ c.moved-2.result ∷ c.moved-3.result ∷ c.moved-4.result ∷ [] in
    let order = c.order-order.ensures in
    record {
      at = each_lane (λ i. (x : Task) → slice_index_or tasks i None ≡ Some x → IsAt f messages (lane i after) x)
          (λ x is. IsAt_moved f messages _ _ _ _ _ _ x order (c.requires.at 0 (omega arith)) (c.requires.left 0 (omega arith)) c.next_block.ensures (c.compress.ensures 0 (omega arith)) c.moved.ensures is)
          (λ x is. IsAt_moved f messages _ _ _ _ _ _ x order (c.requires.at 1 (omega arith)) (c.requires.left 1 (omega arith)) c.next_block-2.ensures (c.compress.ensures 1 (omega arith)) c.moved-2.ensures is)
          (λ x is. IsAt_moved f messages _ _ _ _ _ _ x order (c.requires.at 2 (omega arith)) (c.requires.left 2 (omega arith)) c.next_block-3.ensures (c.compress.ensures 2 (omega arith)) c.moved-3.ensures is)
          (λ x is. IsAt_moved f messages _ _ _ _ _ _ x order (c.requires.at 3 (omega arith)) (c.requires.left 3 (omega arith)) c.next_block-4.ensures (c.compress.ensures 3 (omega arith)) c.moved-4.ensures is);
      tasks = each_lane (λ i. slice_index_or tasks i None ≡ option_map (task_after 1) (slice_index_or before i None))
          c.moved.ensures c.moved-2.ensures c.moved-3.ensures c.moved-4.ensures;
      count = search rules;
      next = refl;
    }
