use Rattle.std.proofs.Common.{ℕ, refl}
use Rattle.std.proofs.lemmas.Simd.{get_or-replicate}
use Rattle.bag_lanes.proofs.Vectors.{lane_at}
use Rattle.bag_lanes.proofs.sha256_rounds.round.Goals as goal

pub returns : goal.returns
returns c = λ i h.
    let v = c.args.v in
    rw (
      c.plus-4.ensures i h,
      c.plus-5.ensures i h,
      c.plus-first.ensures i h,
      c.plus-second.ensures i h,
      c.plus-3.ensures i h,
      c.plus-2.ensures i h,
      c.plus.ensures i h,
      c.big_sigma1.ensures i h,
      c.choose.ensures i h,
      c.big_sigma0.ensures i h,
      c.majority.ensures i h,
      get_or-replicate {A = ℕ} 4 i c.args.k 0 h,
      lane_at i 0 v,
      lane_at i 1 v,
      lane_at i 2 v,
      lane_at i 3 v,
      lane_at i 4 v,
      lane_at i 5 v,
      lane_at i 6 v,
      lane_at i 7 v,
    ) refl
