-- What the hashers of four streams by several algorithms hold.
use Rattle.std.specs.Prelude.{◌≢◌, ℕ, List, None, slice_index_or}
use Rattle.sha2.specs.Hashers.{Holds512}
use Rattle.bag_lanes.specs.Streams.{HoldsMd5, HoldsSha1, HoldsSha256}
use Rattle.bag_digest.specs.declared.algorithm.Alg.TheVariants.{Md5, Sha1, Sha256, Sha512}
use Rattle.bag_digest.specs.declared.algorithm.AlgSet.{AlgSet}
use Rattle.bag_digest.specs.declared.multi_lanes.MultiLanes.{MultiLanes}
use Rattle.bag_digest.specs.Algorithm.{has}
use Rattle.bag_digest.specs.Hash.{HoldsIf}

-- the hashers of lane i are those of the set, and each holds these octets
pub record HoldsAt (multi : MultiLanes) (set : AlgSet) (i : ℕ) (octets : List ℕ) : Type 0 where
  pub md5 : HoldsIf (λ lanes. HoldsMd5 lanes i) (has set Md5) multi.md5 octets
  pub sha1 : HoldsIf (λ lanes. HoldsSha1 lanes i) (has set Sha1) multi.sha1 octets
  pub sha256 : HoldsIf (λ lanes. HoldsSha256 lanes i) (has set Sha256) multi.sha256 octets
  pub sha512 : HoldsIf Holds512 (has set Sha512) (slice_index_or multi.sha512 i None) octets

-- what the lane at another place holds stays
abbrev pub OtherLanesStay : ℕ → MultiLanes → MultiLanes → Type 0
OtherLanesStay i old new = (j : ℕ) → j ≢ i → (set : AlgSet) (octets : List ℕ)
    → HoldsAt old set j octets → HoldsAt new set j octets
