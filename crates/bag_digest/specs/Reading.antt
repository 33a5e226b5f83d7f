-- What a source gave, whether or not this is known in advance.
use Rattle.std.specs.Prelude.{◌≡◌, ◌+◌, ◌≤◌, ℕ, List, ◌++◌, Option, length, take}
use Rattle.std.specs.Io.KnownBytes.{Consumes, IsAtEnd}
use Rattle.bag_digest.specs.declared.algorithm.AlgSet.{AlgSet}
use Rattle.bag_digest.specs.declared.multi.Digests.{Digests}
use Rattle.bag_digest.specs.declared.multi.Multi.{Multi}
use Rattle.bag_digest.specs.declared.reading.SourceRead.{SourceRead}
use Rattle.bag_digest.specs.declared.reading.SourceRead.TheVariants.{Whole, Hashed}
use Rattle.bag_digest.specs.declared.reading.SourceFault.{SourceFault}
use Rattle.bag_digest.specs.declared.reading.SourceFault.TheVariants as source
use Rattle.bag_digest.specs.declared.sums.Sums.{Sums}
use Rattle.bag_digest.specs.declared.reading.ReadFault.{ReadFault}
use Rattle.bag_digest.specs.declared.reading.ReadFault.TheVariants as read
use Rattle.bag_digest.specs.Hash.{AreDigests, Holds}

-- the source gave these octets, which are within the limit, and has none left
pub record GaveAll (old new : Option (List ℕ)) (limit : ℕ) (octets : List ℕ) : Type 0 where
  pub gave : Consumes old new octets
  pub none_left : IsAtEnd new
  pub within : length octets ≤ limit

-- the source gave some octets, within the limit
abbrev pub GaveWithin : Option (List ℕ) → Option (List ℕ) → ℕ → Type 0
GaveWithin old new limit = (octets : List ℕ) × Consumes old new octets × (length octets ≤ limit)

-- the source gave one octet more than the limit, and none after that
abbrev pub GaveMoreThan : Option (List ℕ) → Option (List ℕ) → ℕ → Type 0
GaveMoreThan old new limit = (octets : List ℕ) × Consumes old new octets
    × (length octets ≡ limit + 1)

-- the source gave one piece of at most this many octets, the front of the buffer; it is empty only at the end
pub record GavePiece (old new : Option (List ℕ)) (left n : ℕ) (buffer : List ℕ) : Type 0 where
  pub gave : Consumes old new (take n buffer)
  pub bound : n ≤ length buffer
  pub within : n ≤ left
  pub end : n ≡ 0 → IsAtEnd new

-- the length of these octets, and their digests by the algorithms of the set
abbrev pub AreSums : Sums → AlgSet → List ℕ → Type 0
AreSums sums set octets = (sums.length ≡ length octets) × AreDigests sums.digests set octets

-- the source was read to its end, and these are the sums of what it gave
abbrev pub GaveDigests : Option (List ℕ) → Option (List ℕ) → ℕ → AlgSet → Sums → Type 0
GaveDigests old new limit set sums =
    (octets : List ℕ) × GaveAll old new limit octets × AreSums sums set octets

-- what the hashers had taken before is followed by these octets, and these are the digests of all
abbrev pub HashesOn : Multi → List ℕ → Digests → Type 0
HashesOn multi octets digests = (set : AlgSet) (before : List ℕ) → Holds multi set before
    → AreDigests digests set (before ++ octets)

-- the source was read to its end: its octets are at the front of the buffer, or its digests were taken
abbrev pub GaveFound : Option (List ℕ) → Option (List ℕ) → ℕ → AlgSet → List ℕ → SourceRead → Type 0
GaveFound old new limit set buffer (Whole n) = (n ≤ length buffer)
    × GaveAll old new limit (take n buffer)
GaveFound old new limit set buffer (Hashed sums) = GaveDigests old new limit set sums

-- What the source gave before reading ended with a fault. If a read failed or memory ran out, this is within the limit.
-- Otherwise it is one octet more than the limit, and none after that.
abbrev pub GaveBefore : Option (List ℕ) → Option (List ℕ) → ℕ → ReadFault → Type 0
GaveBefore old new limit read.Read = GaveWithin old new limit
GaveBefore old new limit read.TooLarge = GaveMoreThan old new limit
GaveBefore old new limit read.Memory = GaveWithin old new limit

-- the fault of a source, as a fault of a function that allocates memory
abbrev pub read_fault : SourceFault → ReadFault
read_fault source.Read = read.Read
read_fault source.TooLarge = read.TooLarge
