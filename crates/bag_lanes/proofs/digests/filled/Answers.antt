use Rattle.std.proofs.Common.{ℕ, ◌≡◌, ◌≢◌, ◌<◌, ◌+◌, None, inl, inr, ◌∙◌, Option, subst, arith}
use Rattle.std.proofs.lemmas.List.{get_or-set_other}
use Rattle.std.specs.Option.{IsSomeAnd}
use Rattle.bag_lanes.specs.declared.tasks.Task.{Task}
use Rattle.bag_lanes.specs.Tasks.{first_task}
use Rattle.bag_lanes.proofs.Filling.{AreFilled_next, begun_next}
use Rattle.bag_lanes.proofs.digests.filled.Goals as goal

pub lanes-preserved : goal.lanes-preserved
lanes-preserved g c =
    let f = g.A.Algorithm.function in
    let messages = c.args.messages.now in
    let tasks = c.lanes.queue.tasks in
    let new = c.refill.new.queue.tasks in
    let next : ℕ = c.lanes.queue.next in
    let after : ℕ = c.refill.new.queue.next in
    let i : ℕ = c.lanes.i in
    let before = c.lanes.invariant.filled in
    let e = c.refill.ensures in
    let here : i < 4 = omega arith in
    record {
      filled = AreFilled_next f messages c.refill.new.state tasks new next after i (i + 1) i before.count before.bound here (e.at before.at) before.busy e.tasks e.next
          (λ j low other. omega arith);
      begun = λ k low.
          elim (begun_next f messages (λ _. ⊥) tasks new next after i before.count here e.tasks e.next
          (λ m at. subst (λ (o : Option Task). IsSomeAnd o (λ task. task.message ≡ m)) (c.lanes.invariant.idle i (omega arith)) at)
          (λ m old. inr (c.lanes.invariant.begun m old)) k low) [
            | inl never ↦ absurd never
            | inr at ↦ at
          ];
      idle = λ j low.
          let other : j ≢ i = omega arith in
          rw e.tasks (get_or-set_other tasks i j (first_task f messages next) None other ∙ c.lanes.invariant.idle j (omega arith));
    }
