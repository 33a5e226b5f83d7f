use Rattle.std.proofs.Common.{ℕ, ◌/◌, ◌^◌, ◌<◌, bit_xor, slice_index, ap, arith}
use Rattle.bag_lanes.proofs.Rotations.{rotated_two}
use Rattle.bag_lanes.proofs.Vectors.{lane_fits}
use Rattle.bag_lanes.proofs.sha256_rounds.small_sigma1.Goals as goal

pub returns : goal.returns
returns c = λ i h.
    let x : ℕ = slice_index c.args.x i in
    let fits : x < 2 ^ 32 = lane_fits c.args.x c.fits-x.0 c.fits-x.1 i h in
    rw (c.xor-2.ensures i h, c.rotated_right-2.ensures i h, c.xor.ensures i h, c.rotated_right.ensures i h, c.shifted_right.ensures i h)
    (ap (λ (y : ℕ). bit_xor y (x / 2 ^ 10)) (rotated_two x 17 2 (omega arith) (omega arith) (omega arith) fits))
