use Rattle.std.proofs.Common.{ℕ, List, ◌*◌, ◌++◌, take}
use Rattle.bag_lanes.specs.Lanes.{lane}
use Rattle.bag_lanes.specs.Streams.{IsValueOf}
use Rattle.bag_lanes.proofs.pieces.take_alone.Given as goal

abbrev pub invariant-steps : goal.invariant-steps
invariant-steps g l = record {
  taken : (octets : List ℕ) → IsValueOf g.A.Algorithm.function octets (lane l.fn.i l.fn.state)
      → IsValueOf g.A.Algorithm.function (octets ++ take (l.j * 64) l.fn.piece) l.value;
}
