use Rattle.std.proofs.Common.{ℕ, ◌<◌, ◌*◌, [], slice_index_or}
use Rattle.bag_lanes.specs.Lanes.{lane}
use Rattle.bag_lanes.specs.Rounds.{IsSha256At}
use Rattle.bag_lanes.proofs.sha256_rounds.Sha256Algorithm8.compress.Given as goal

abbrev pub invariant-turns : goal.invariant-turns
invariant-turns l = (i : ℕ) → i < 4
    → IsSha256At (slice_index_or l.blocks i []) (lane i l.state) (lane i l.w) (lane i l.v) (16 * l.turn)
