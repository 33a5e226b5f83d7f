use Rattle.std.proofs.Common.{◌≡◌, ℕ, List, Some, None, inl, inr, refl, sym, ap, ◌∙◌, subst, length, nat_lt, true, arith}
use Rattle.std.proofs.lemmas.Bool.Decides.{nat_tests}
use Rattle.bag_lanes.specs.declared.tasks.Task.{Task}
use Rattle.bag_lanes.specs.Lanes.{lane}
use Rattle.bag_lanes.specs.Standard.{block_count}
use Rattle.bag_lanes.specs.Tasks.{IsAt, padded_at}
use Rattle.bag_lanes.proofs.LaneTasks.{IsAt_first, from_set, message_at_read}
use Rattle.bag_lanes.proofs.lanes.refill.Goals as goal

pub returns-then-queue-messages-clause-at : goal.returns-then-queue-messages-clause-at
returns-then-queue-messages-clause-at g c = λ held i l x is.
    elim (from_set c.args.queue.now.tasks c.args.i i None x is) [
      | inl same ↦ absurd (let no : None ≡ Some x = same.1 in cc)
      | inr other ↦ held i l x other.1
    ]

pub returns-clause-at : goal.returns-clause-at
returns-clause-at g c = λ held i l x is.
    let f = g.A.Algorithm.function in
    let messages = c.args.messages.now in
    let next : ℕ = c.args.queue.now.next in
    let task : Task = record { message = next; taken = 0; left = c.padded_count.result } in
    let count : c.padded_count.result ≡ block_count (padded_at f messages next) =
    rw (message_at_read messages next) (c.padded_count.ensures f.order) in
    elim (from_set c.args.queue.now.tasks c.args.i i (Some task) x is) [
      | inl same ↦
          let own = ap (λ (j : ℕ). lane j c.set_lane.new.state) (sym same.0) ∙ c.set_lane.ensures.own ∙ c.initial.ensures in
          let first = IsAt_first f messages (lane i c.set_lane.new.state) next c.padded_count.result (omega arith) count (omega arith) own in
          let is_task : task ≡ x = (let e : Some task ≡ Some x = same.1 in cc) in
          subst (λ (t : Task). IsAt f messages (lane i c.set_lane.new.state) t) is_task first
      | inr other ↦
          let kept = c.set_lane.ensures.others i other.0 in
          subst (λ (value : List ℕ). IsAt f messages value x) (sym kept) (held i l x other.1)
    ]

pub returns-clause-tasks : goal.returns-clause-tasks
returns-clause-tasks g c =
    let f = g.A.Algorithm.function in
    let messages = c.args.messages.now in
    let next : ℕ = c.args.queue.now.next in
    let there : nat_lt next (length messages) ≡ true = grind (arith, nat_tests) in
    let count : c.padded_count.result ≡ block_count (padded_at f messages next) =
    rw (message_at_read messages next) (c.padded_count.ensures f.order) in
    rw (there, count) refl
