use Rattle.std.proofs.Common.{rules, ◌≡◌, ℕ, ◌∙◌, ap, arith, None, slice_index_or}
use Rattle.std.specs.Option.{option_map}
use Rattle.bag_lanes.specs.Tasks.{task_after}
use Rattle.bag_lanes.proofs.LaneTasks.{after_more, after_none, left_after}
use Rattle.bag_lanes.proofs.lanes.run.Goals as goal

pub steps-init : goal.steps-init
steps-init g c = record {
  at = c.requires.at;
  tasks = λ i l. after_none (slice_index_or c.args.queue.now.tasks i None);
  count = search rules;
  next = search rules;
}

pub step-requires : goal.step-requires
step-requires g c = (
  omega (arith, c.requires.words),
  (
    c.steps.invariant.at,
    λ i l x is.
        left_after c.steps.counter c.args.blocks (slice_index_or c.args.queue.now.tasks i None) (slice_index_or c.steps.queue.tasks i None) x (c.requires.left i l) (omega arith) (c.steps.invariant.tasks i l) is,
  ),
)

pub steps-preserved : goal.steps-preserved
steps-preserved g c = record {
  at = c.step.ensures.at;
  tasks = λ i l. c.step.ensures.tasks i l ∙ ap (option_map (task_after 1)) (c.steps.invariant.tasks i l) ∙ after_more c.steps.counter (slice_index_or c.args.queue.now.tasks i None);
  count = c.step.ensures.count ∙ c.steps.invariant.count;
  next = c.step.ensures.next ∙ c.steps.invariant.next;
}

pub returns : goal.returns
returns g c =
    let end : c.steps.counter ≡ c.args.blocks = omega arith in
    record {
      at = c.steps.invariant.at;
      tasks = λ i l. c.steps.invariant.tasks i l ∙ ap (λ (n : ℕ). option_map (task_after n) (slice_index_or c.args.queue.now.tasks i None)) end;
      count = c.steps.invariant.count;
      next = c.steps.invariant.next;
    }
