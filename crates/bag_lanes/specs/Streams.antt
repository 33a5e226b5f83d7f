-- The streams that lanes hold: each comes in pieces of whole blocks, and ends with what is left of it.
use Rattle.std.specs.Prelude.{◌≡◌, ◌/◌, ◌%◌, ◌^◌, ◌<◌, ℕ, List, [], ◌∷◌, length, slice_index}
use Rattle.std.specs.Borrow.{Bor}
use Rattle.bag_lanes.specs.declared.hashers.Md5Lanes.{Md5Lanes}
use Rattle.bag_lanes.specs.declared.hashers.Sha1Lanes.{Sha1Lanes}
use Rattle.bag_lanes.specs.declared.hashers.Sha256Lanes.{Sha256Lanes}
use Rattle.bag_lanes.specs.Lanes.{lane}
use Rattle.bag_lanes.specs.Standard.{HashFunction, hash_value, md5_function, sha1_function, sha256_function}
use Rattle.bag_lanes.specs.Tasks.{message_at}

-- the piece for lane i
abbrev pub piece_at : List (Bor (List ℕ)) → ℕ → List ℕ
piece_at pieces i = message_at pieces i

-- the pieces are whole blocks, as many for each lane
pub record AreBlocks (pieces : List (Bor (List ℕ))) : Type 0 where
  pub whole : length (piece_at pieces 0) % 64 ≡ 0
  pub same : (i : ℕ) → i < 4 → length (piece_at pieces i) ≡ length (piece_at pieces 0)

-- this is the hash value after these octets, which are whole blocks
pub record IsValueOf (f : HashFunction) (octets value : List ℕ) : Type 0 where
  pub whole : length octets % 64 ≡ 0
  pub value_is : value ≡ hash_value f octets (length octets / 64)

-- Lane i has taken these octets, which are whole blocks: its hash value is the one after them, and its count is their
-- number modulo 2 ^ 64.
pub record Holds (f : HashFunction) (state : List (List ℕ)) (counts : List ℕ) (i : ℕ)
    (octets : List ℕ) : Type 0 where
  pub value : IsValueOf f octets (lane i state)
  pub count : slice_index counts i ≡ length octets % 2 ^ 64

-- the hash values of the lanes of each hash function, and what the lanes have taken
abbrev pub md5_state : Md5Lanes → List (List ℕ)
md5_state lanes = lanes.a ∷ lanes.b ∷ lanes.c ∷ lanes.d ∷ []

abbrev pub HoldsMd5 : Md5Lanes → ℕ → List ℕ → Type 0
HoldsMd5 lanes i octets = Holds md5_function (md5_state lanes) lanes.counts i octets

abbrev pub sha1_state : Sha1Lanes → List (List ℕ)
sha1_state lanes = lanes.a ∷ lanes.b ∷ lanes.c ∷ lanes.d ∷ lanes.e ∷ []

abbrev pub HoldsSha1 : Sha1Lanes → ℕ → List ℕ → Type 0
HoldsSha1 lanes i octets = Holds sha1_function (sha1_state lanes) lanes.counts i octets

abbrev pub sha256_state : Sha256Lanes → List (List ℕ)
sha256_state lanes = lanes.a ∷ lanes.b ∷ lanes.c ∷ lanes.d ∷ lanes.e ∷ lanes.f ∷ lanes.g
    ∷ lanes.h ∷ []

abbrev pub HoldsSha256 : Sha256Lanes → ℕ → List ℕ → Type 0
HoldsSha256 lanes i octets = Holds sha256_function (sha256_state lanes) lanes.counts i octets
