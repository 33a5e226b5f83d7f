use Rattle.std.proofs.Common.{ℕ, ◌≡◌, ◌<◌, ◌≤◌, ◌*◌, ◌^◌, Fits, w64, ◌∙◌, List, ap, length, length-set, arith}
use Rattle.std.proofs.Math.Nat.{mul-le-mul_right}
use Rattle.std.specs.Int.{w32}
use Rattle.std.specs.List.{flat_map}
use Rattle.std.specs.Option.{option_map}
use Rattle.bag_lanes.specs.declared.octets.ByteOrder.{ByteOrder}
use Rattle.bag_lanes.specs.Lanes.{lane}
use Rattle.bag_lanes.specs.Standard.{digest, octets_of}
use Rattle.bag_lanes.specs.Tasks.{message_at, task_after}
use Rattle.bag_lanes.proofs.Filling.{AreFilled_after, AreFilled_next, IsAt_ended, all_done, done_at_end, done_next, fewer}
use Rattle.bag_lanes.proofs.digests.hash_all.Goals as goal

within : (m n size : ℕ) → m < n → n * size < 2 ^ 63 → Fits w64 (m * size)
within m n size low fits =
    let le : m ≤ n = omega arith in
    record { fits = omega (arith, mul-le-mul_right size le, fits) }

pub bounds-digests-first : goal.bounds-digests-first
bounds-digests-first g c =
    let first = c.in-Some.first in
    let at = c.turns.invariant.filled.at first.lane c.in-Some.ensures.lane first.task c.in-Some.ensures.task in
    omega (arith, at.place, c.turns.invariant.places)

pub offset_bounds-digests-first : goal.offset_bounds-digests-first
offset_bounds-digests-first g c =
    let first = c.in-Some.first in
    let at = c.turns.invariant.filled.at first.lane c.in-Some.ensures.lane first.task c.in-Some.ensures.task in
    within first.task.message (length c.args.digests.now) (g.row.OCTETS * 1) (omega (arith, at.place, c.requires.places)) (c.well_formed.1.0.1)

pub turns-smaller : goal.turns-smaller
turns-smaller g c =
    let first = c.in-Some.first in
    let e = c.run.ensures in
    let filled = c.turns.invariant.filled in
    fewer g.A.Algorithm.function c.args.messages.now first.task.left first.lane c.turns.queue.next c.refill.new.queue.next c.turns.queue.tasks c.run.new.queue.tasks c.refill.new.queue.tasks first.task
    (e.count ∙ filled.count) c.in-Some.ensures.lane filled.bound c.in-Some.ensures.task e.tasks
    (rw (← e.next) c.refill.ensures.tasks) (rw (← e.next) c.refill.ensures.next)

pub turns-preserved : goal.turns-preserved
turns-preserved g c =
    let f = g.A.Algorithm.function in
    let messages = c.args.messages.now in
    let first = c.in-Some.first in
    let low = c.in-Some.ensures.lane in
    let is = c.in-Some.ensures.task in
    let e = c.run.ensures in
    let filled = c.turns.invariant.filled in
    let place = (filled.at first.lane low first.task is).place in
    let run = AreFilled_after f messages c.turns.state c.run.new.state c.turns.queue.tasks c.run.new.queue.tasks first.task.left c.turns.queue.next c.run.new.queue.next filled e.at e.tasks e.count e.next in
    let was = e.tasks first.lane low ∙ ap (option_map (task_after first.task.left)) is in
    let value = IsAt_ended f messages (lane first.lane c.run.new.state) first.task (e.at first.lane low (task_after first.task.left first.task) was) in
    let written : c.lane_octets.result ≡ digest f (message_at messages first.task.message) =
    c.lane_octets.ensures ∙ ap (λ (o : ByteOrder). flat_map (octets_of o w32) (lane first.lane c.run.new.state)) c.order-order.ensures
    ∙ ap (flat_map (octets_of f.order w32)) value in
    record {
      filled = AreFilled_next f messages c.refill.new.state c.run.new.queue.tasks c.refill.new.queue.tasks c.run.new.queue.next c.refill.new.queue.next 4 4 first.lane
          run.count run.bound low (c.refill.ensures.at e.at) run.busy c.refill.ensures.tasks c.refill.ensures.next (λ j within other. within);
      places = length-set {A = List ℕ} c.turns.digests first.task.message c.lane_octets.result ∙ c.turns.invariant.places;
      done = done_next f messages c.turns.digests c.turns.queue.tasks c.run.new.queue.tasks c.refill.new.queue.tasks first.task c.lane_octets.result first.task.left first.lane
          c.run.new.queue.next c.refill.new.queue.next run.count low is (omega (arith, place, c.turns.invariant.places)) written e.tasks c.refill.ensures.tasks c.refill.ensures.next
          (λ k before. c.turns.invariant.done k (omega (arith, e.next)));
    }

pub returns : goal.returns
returns g c =
    let f = g.A.Algorithm.function in
    let messages = c.args.messages.now in
    let none = c.in_default.ensures.none in
    let end = c.turns.invariant.filled.busy 0 (omega arith) (none 0 (omega arith)) in
    all_done f messages c.turns.digests c.turns.invariant.places
    (λ k low. done_at_end f messages c.turns.digests c.turns.queue.tasks none k (c.turns.invariant.done k (omega (arith, end))))
