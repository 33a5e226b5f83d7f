use Rattle.std.proofs.Common.{[], ◌∷◌, ◌≡◌, ◌∙◌, ap, List, ℕ, refl, slice_index}
use Rattle.bag_lanes.specs.Lanes.{lane}
use Rattle.bag_lanes.specs.Standard.{sha1_function}
use Rattle.bag_lanes.specs.Streams.{sha1_state}
use Rattle.bag_lanes.proofs.StreamLemmas.{value_of_none}
use Rattle.bag_lanes.proofs.Vectors.{each_lane}
use Rattle.bag_lanes.proofs.hashers.Sha1Lanes.new.Goals as goal

pub returns : goal.returns
returns c = λ i low. record {
  value = value_of_none sha1_function (lane i (sha1_state c.set_state.new.self)) (ap (lane i) c.set_state.ensures.state ∙ c.begun.ensures i low);
  count =
      ap (λ (xs : List ℕ). slice_index xs i) c.set_state.ensures.counts
      ∙ each_lane (λ k. slice_index (0 ∷ 0 ∷ 0 ∷ 0 ∷ []) k ≡ 0) refl refl refl refl i low;
}
