use Rattle.std.proofs.Common.{◌*◌}
use Rattle.bag_lanes.specs.Rounds.{IsSha256At}
use Rattle.bag_lanes.proofs.sha256_alone.compress_alone.Given as goal

abbrev pub invariant-turns : goal.invariant-turns
invariant-turns l = IsSha256At l.block l.value l.w l.v (16 * l.turn)
