use Rattle.std.proofs.Common.{◌≡◌, ◌*◌, length, take}
use Rattle.std.specs.List.{flat_map}
use Rattle.std.specs.Int.{w32}
use Rattle.bag_lanes.specs.Lanes.{lane}
use Rattle.bag_lanes.specs.Standard.{octets_of}
use Rattle.bag_lanes.proofs.lanes.lane_octets.Given as goal

abbrev pub invariant-words : goal.invariant-words
invariant-words g l = record {
  count : length l.octets ≡ length l.initial.octets;
  front : take (4 * l.k) l.octets ≡ flat_map (octets_of l.order w32) (take l.k (lane l.i l.state));
}
