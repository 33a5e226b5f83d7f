use Rattle.std.proofs.Common.{ℕ, List, ◌*◌, ◌<◌, ◌++◌, take}
use Rattle.bag_lanes.specs.Lanes.{lane}
use Rattle.bag_lanes.specs.Streams.{IsValueOf, piece_at}
use Rattle.bag_lanes.proofs.pieces.take_pieces.Given as goal

abbrev pub invariant-steps : goal.invariant-steps
invariant-steps g l = record {
  taken : (i : ℕ) → i < 4 → (octets : List ℕ) → IsValueOf g.A.Algorithm.function octets (lane i l.fn.state)
      → IsValueOf g.A.Algorithm.function (octets ++ take (l.j * 64) (piece_at l.fn.pieces i)) (lane i l.state);
}
