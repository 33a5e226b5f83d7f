use Rattle.std.proofs.Common.{ℕ, ◌^◌, ◌<◌, slice_index, arith}
use Rattle.bag_lanes.proofs.Rotations.{rotated_three}
use Rattle.bag_lanes.proofs.Vectors.{lane_fits}
use Rattle.bag_lanes.proofs.sha256_rounds.big_sigma1.Goals as goal

pub returns : goal.returns
returns c = λ i h.
    let x : ℕ = slice_index c.args.x i in
    let fits : x < 2 ^ 32 = lane_fits c.args.x c.fits-x.0 c.fits-x.1 i h in
    rw (c.rotated_right-3.ensures i h, c.xor-2.ensures i h, c.rotated_right-2.ensures i h, c.xor.ensures i h, c.rotated_right.ensures i h)
    (rotated_three x 6 5 14 (omega arith) (omega arith) (omega arith) (omega arith) fits)
