-- What streams that are hashed side by side have read.
use Rattle.std.specs.Prelude.{◌≡◌, ◌≢◌, ◌⊎◌, ◌+◌, ◌-◌, ◌<◌, ◌≤◌, ◌++◌, ℕ, List, [], Option, Some, None, IsSomeAnd, length, slice_get}
use Rattle.std.specs.Io.KnownBytes.{Consumes}
use Rattle.bag_digest.specs.declared.algorithm.AlgSet.{AlgSet}
use Rattle.bag_digest.specs.declared.multi_lanes.MultiLanes.{MultiLanes}
use Rattle.bag_digest.specs.declared.reading.SourceFault.{SourceFault}
use Rattle.bag_digest.specs.declared.reading.SourceFault.TheVariants.{Read}
use Rattle.bag_digest.specs.declared.streams.Stream.{Stream}
use Rattle.bag_digest.specs.declared.streams.StreamFault.{StreamFault}
use Rattle.bag_digest.specs.declared.buffers.TheConstants.{FRONT}
use Rattle.bag_digest.specs.declared.sums.Sums.{Sums}
use Rattle.bag_digest.specs.Failures.{UsesSource}
use Rattle.bag_digest.specs.Lanes.{HoldsAt}
use Rattle.bag_digest.specs.Reading.{GaveAll, GaveBefore, AreSums, read_fault}

-- it has a first piece, and has not ended
pub record IsFresh {S : Type 0} (stream : Stream S) : Type 0 where
  pub room : length stream.piece.items ≡ FRONT
  pub sums : stream.sums ≡ None

-- each from the place `first` to before the place `end`
abbrev pub AreFreshIn : {S : Type 0} → ℕ → ℕ → List (Stream S) → Type 0
AreFreshIn {S} first end streams = (k : ℕ) (stream : Stream S) → first ≤ k → k < end
    → slice_get streams k ≡ Some stream → IsFresh stream

abbrev pub AreFresh : {S : Type 0} → List (Stream S) → Type 0
AreFresh streams = AreFreshIn 0 (length streams) streams

-- at least one and at most four of them
pub record AreFreshFew {S : Type 0} (first end : ℕ) (streams : List (Stream S)) : Type 0 where
  pub some : first < end
  pub few : end ≤ first + 4
  pub inside : end ≤ length streams
  pub fresh : AreFreshIn first end streams

-- It has ended: after its first piece its source gave these octets, within the limit, and has none left. Its sums are
-- the number of all its octets, with their digests.
pub record HasEnded {S : Type 0} (remaining : S → Option (List ℕ)) (set : AlgSet) (limit : ℕ)
    (old new : Stream S) : Type 0 where
  pub more : List ℕ
  pub gave : GaveAll (remaining old.source) (remaining new.source) (limit - FRONT) more
  pub sums : IsSomeAnd new.sums
      (λ found. AreSums found set (old.piece.items ++ more))

-- each from the place `first` to before the place `end`, and none has failed
abbrev pub HaveEndedIn : {S : Type 0} → (S → Option (List ℕ)) → (S → ℕ) → (S → Type 0)
    → (S → S → Type 0) → AlgSet → ℕ → ℕ → ℕ → List (Stream S) → List (Stream S) → Type 0
HaveEndedIn {S} remaining failures ready keeps set limit first end old new =
    (k : ℕ) (a b : Stream S) → first ≤ k → k < end
    → slice_get old k ≡ Some a → slice_get new k ≡ Some b
    → HasEnded remaining set limit a b × UsesSource failures ready keeps a.source b.source ⊥

-- all of them
abbrev pub HaveEnded : {S : Type 0} → (S → Option (List ℕ)) → (S → ℕ) → (S → Type 0)
    → (S → S → Type 0) → AlgSet → ℕ → List (Stream S) → List (Stream S) → Type 0
HaveEnded remaining failures ready keeps set limit old new =
    HaveEndedIn remaining failures ready keeps set limit 0 (length old) old new

-- It stopped with this fault: its source failed, or gave more than the limit. It has failed once if it failed, and if
-- it was ready it didn't.
pub record HasStopped {S : Type 0} (remaining : S → Option (List ℕ)) (failures : S → ℕ)
    (ready : S → Type 0) (keeps : S → S → Type 0) (limit : ℕ) (fault : SourceFault)
    (old new : Stream S) : Type 0 where
  pub gave : GaveBefore (remaining old.source) (remaining new.source) (limit - FRONT)
      (read_fault fault)
  pub uses : UsesSource failures ready keeps old.source new.source (fault ≡ Read)

-- the source of each stream from the place `first` to before the place `end` keeps what reads leave
abbrev pub HaveKeptIn : {S : Type 0} → (S → S → Type 0) → ℕ → ℕ → List (Stream S) → List (Stream S)
    → Type 0
HaveKeptIn {S} keeps first end old new = (k : ℕ) (a b : Stream S) → first ≤ k → k < end
    → slice_get old k ≡ Some a → slice_get new k ≡ Some b → keeps a.source b.source

-- This is the first of the streams from the place `first` on that stopped: those before it have ended. Those behind it
-- were given up, however far they were read, and whether or not they have failed.
pub record IsFirstStopped {S : Type 0} (remaining : S → Option (List ℕ)) (failures : S → ℕ)
    (ready : S → Type 0) (keeps : S → S → Type 0) (set : AlgSet) (limit first : ℕ)
    (old new : List (Stream S)) (told : StreamFault) : Type 0 where
  pub was : Stream S
  pub is : Stream S
  pub low : first ≤ told.place
  pub old_at : slice_get old told.place ≡ Some was
  pub new_at : slice_get new told.place ≡ Some is
  pub stopped : HasStopped remaining failures ready keeps limit told.fault was is
  pub before : HaveEndedIn remaining failures ready keeps set limit first told.place old new
  pub behind : HaveKeptIn keeps (told.place + 1) (length old) old new

-- INSIDE

-- A stream in lane i: the lane has taken all its octets but those that are left, and all are within the limit.
pub record IsAt {S : Type 0} (remaining : S → Option (List ℕ)) (multi : MultiLanes)
    (set : AlgSet) (i limit hashed : ℕ) (left : List ℕ) (old new : Stream S) : Type 0 where
  pub octets : List ℕ
  pub more : List ℕ
  pub front : length old.piece.items ≡ FRONT
  pub gave : Consumes (remaining old.source) (remaining new.source) more
  pub joined : old.piece.items ++ more ≡ octets ++ left
  pub count : hashed ≡ length octets
  pub within : hashed + length left ≤ limit
  pub holds : HoldsAt multi set i octets

-- it goes on, with these octets left; or it has ended
abbrev pub IsGoing : {S : Type 0} → (S → Option (List ℕ)) → MultiLanes → AlgSet
    → ℕ → ℕ → ℕ → List ℕ → Stream S → Stream S → Option Sums → Type 0
IsGoing remaining multi set i limit hashed left old new None =
    IsAt remaining multi set i limit hashed left old new
IsGoing remaining multi set i limit hashed left old new (Some found) =
    HasEnded remaining set limit old new

-- what is known of a stream in lane i
pub record IsUnder {S : Type 0} (remaining : S → Option (List ℕ)) (failures : S → ℕ)
    (ready : S → Type 0) (keeps : S → S → Type 0) (multi : MultiLanes) (set : AlgSet)
    (i limit hashed : ℕ) (left : List ℕ) (old new : Stream S) : Type 0 where
  pub room : length new.piece.items ≡ FRONT
  pub going : IsGoing remaining multi set i limit hashed left old new new.sums
  pub uses : UsesSource failures ready keeps old.source new.source ⊥

-- each stream from the place `first` to before the place `end`, in the lane at its place after `base`: its last piece
-- is left
abbrev pub AreUnder : {S : Type 0} → (S → Option (List ℕ)) → (S → ℕ) → (S → Type 0)
    → (S → S → Type 0) → MultiLanes → AlgSet → ℕ → ℕ → ℕ → ℕ → ℕ
    → List (Stream S) → List (Stream S) → Type 0
AreUnder {S} remaining failures ready keeps multi set limit hashed base first end old new =
    (k : ℕ) (a b : Stream S) → first ≤ k → k < end
    → slice_get old k ≡ Some a → slice_get new k ≡ Some b
    → IsUnder remaining failures ready keeps multi set (k - base) limit hashed b.piece.items a b

-- nothing is left
abbrev pub AreHashed : {S : Type 0} → (S → Option (List ℕ)) → (S → ℕ) → (S → Type 0)
    → (S → S → Type 0) → MultiLanes → AlgSet → ℕ → ℕ → ℕ → ℕ → ℕ
    → List (Stream S) → List (Stream S) → Type 0
AreHashed {S} remaining failures ready keeps multi set limit hashed base first end old new =
    (k : ℕ) (a b : Stream S) → first ≤ k → k < end
    → slice_get old k ≡ Some a → slice_get new k ≡ Some b
    → IsUnder remaining failures ready keeps multi set (k - base) limit hashed [] a b

-- each was read on; or those before the place of a fault, where one has stopped, and those behind it have kept what
-- reads leave
pub record HaveStoppedAt {S : Type 0} (remaining : S → Option (List ℕ)) (failures : S → ℕ)
    (ready : S → Type 0) (keeps : S → S → Type 0) (multi : MultiLanes) (set : AlgSet)
    (limit hashed first end : ℕ) (old new : List (Stream S)) (told : StreamFault) : Type 0 where
  pub low : first ≤ told.place
  pub high : told.place < end
  pub under : AreUnder remaining failures ready keeps multi set limit hashed first first
      told.place old new
  pub stopped : (was is : Stream S) → slice_get old told.place ≡ Some was
      → slice_get new told.place ≡ Some is
      → HasStopped remaining failures ready keeps limit told.fault was is
  pub behind : HaveKeptIn keeps (told.place + 1) end old new

-- the stream at a place has not ended; each of some has
abbrev pub IsUnended : {S : Type 0} → List (Stream S) → ℕ → Type 0
IsUnended {S} streams k = (stream : Stream S) → slice_get streams k ≡ Some stream
    → stream.sums ≡ None

abbrev pub AreDone : {S : Type 0} → List (Stream S) → ℕ → ℕ → Type 0
AreDone {S} streams first end = (k : ℕ) (stream : Stream S) → first ≤ k → k < end
    → slice_get streams k ≡ Some stream → stream.sums ≢ None

-- the first that has not ended
pub record IsFirstOpen {S : Type 0} (streams : List (Stream S)) (first end k : ℕ) : Type 0 where
  pub low : first ≤ k
  pub high : k < end
  pub unended : IsUnended streams k
  pub before : AreDone streams first k

-- the pieces are full
abbrev pub AreFull : {S : Type 0} → List (Stream S) → ℕ → ℕ → Type 0
AreFull {S} streams first end = (k : ℕ) (stream : Stream S) → first ≤ k → k < end
    → slice_get streams k ≡ Some stream → length stream.piece.items ≡ FRONT

-- the lanes have taken the piece of each stream that has not ended
abbrev pub HaveTaken : {S : Type 0} → List (Stream S) → ℕ → ℕ → MultiLanes → MultiLanes → Type 0
HaveTaken {S} streams first end old new = (k : ℕ) (stream : Stream S) → first ≤ k → k < end
    → slice_get streams k ≡ Some stream → stream.sums ≡ None
    → (set : AlgSet) (octets : List ℕ) → HoldsAt old set (k - first) octets
    → HoldsAt new set (k - first) (octets ++ stream.piece.items)

-- the streams at other places stay
abbrev pub OthersStay : {S : Type 0} → ℕ → ℕ → List (Stream S) → List (Stream S) → Type 0
OthersStay first end old new = (k : ℕ) → (k < first) ⊎ (end ≤ k)
    → slice_get new k ≡ slice_get old k
