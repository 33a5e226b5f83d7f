use Rattle.std.proofs.Common.{ℕ, List, Bool, None, ◌++◌, slice_index_or, arith}
use Rattle.sha2.specs.Hashers.{Holds512}
use Rattle.bag_digest.specs.Hash.{HoldsIf}
use Rattle.bag_lanes.specs.Streams.{piece_at}
use Rattle.bag_lanes.proofs.LaneTasks.{message_at_read}
use Rattle.bag_lanes.proofs.Vectors.{each_lane}
use Rattle.bag_digest.proofs.multi_lanes.update_each.Goals as goal

pub returns : goal.returns
returns c =
    let pieces = c.args.pieces.now in
    let first = c.update_at.ensures in
    let second = c.update_at-2.ensures in
    let third = c.update_at-3.ensures in
    let fourth = c.update_at-4.ensures in
    each_lane (λ i. (wanted : Bool) (octets : List ℕ) → HoldsIf Holds512 wanted (slice_index_or c.args.hashers.now i None) octets
    → HoldsIf Holds512 wanted (slice_index_or c.update_at-4.new.hashers i None) (octets ++ piece_at pieces i))
    (λ wanted octets held.
    rw (fourth.others 0 (omega arith), third.others 0 (omega arith), second.others 0 (omega arith), message_at_read pieces 0)
    (first.own wanted octets held))
    (λ wanted octets held.
    rw (fourth.others 1 (omega arith), third.others 1 (omega arith), message_at_read pieces 1)
    (second.own wanted octets (rw (first.others 1 (omega arith)) held)))
    (λ wanted octets held.
    rw (fourth.others 2 (omega arith), message_at_read pieces 2)
    (third.own wanted octets (rw (second.others 2 (omega arith), first.others 2 (omega arith)) held)))
    (λ wanted octets held.
    rw (message_at_read pieces 3)
    (fourth.own wanted octets (rw (third.others 3 (omega arith), second.others 3 (omega arith), first.others 3 (omega arith)) held)))
