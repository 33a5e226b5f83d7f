use Rattle.std.proofs.Common.{ℕ, ◌/◌, ◌^◌}
use Rattle.bag_lanes.proofs.Vectors.{slice_index-zip2_splat}
use Rattle.bag_lanes.proofs.words.shifted_right.Goals as goal

pub returns : goal.returns
returns c = λ i h. slice_index-zip2_splat (λ (x k : ℕ). x / 2 ^ k) c.args.x c.args.by i c.fits-x.0 h
