-- Files that are copied side by side: what was read of each, hashed, and written to its copy.
use Rattle.std.specs.Prelude.{◌≡◌, ◌≢◌, ◌⊎◌, ◌+◌, ◌-◌, ◌<◌, ◌≤◌, ◌++◌, [], ℕ, Bool, true, List, Option, Some, None, Result, IsSomeAnd, MatchResult, length, slice_get, take}
use Rattle.std.specs.Io.KnownBytes.{Consumes, IsAtEnd}
use Rattle.bag_digest.specs.declared.algorithm.AlgSet.{AlgSet}
use Rattle.bag_digest.specs.declared.multi_lanes.MultiLanes.{MultiLanes}
use Rattle.bag_digest.specs.declared.reading.SourceRead.{SourceRead}
use Rattle.bag_digest.specs.declared.source.Source.{Ghosts as SourceOf}
use Rattle.bag_digest.specs.declared.buffers.TheConstants.{FRONT}
use Rattle.bag_digest.specs.Lanes.{HoldsAt}
use Rattle.bag_rules.specs.Trees.{Shown, octets_in, paths_in}
use Rattle.bag_rules.specs.declared.limits.TheConstants.{LARGEST_FILE}
use Rattle.bag_writer.specs.PayloadSteps.{IsFoundOf, IsReadUntil}
use Rattle.bag_writer.specs.declared.copying.Copying.{Copying}
use Rattle.bag_writer.specs.declared.copying.CopyStop.{CopyStop}
use Rattle.bag_writer.specs.declared.open_sink.SinkFile.{Ghosts as CopyOf}
use Rattle.bag_writer.specs.declared.payload.CopyFault.{CopyFault}
use Rattle.bag_writer.specs.declared.payload.CopyFault.TheVariants.{Sink, Tree}

-- what is known of open files and of their copies, by the ghost members of their traits
pub record Sides (F G : Type 0) : Type 1 where
  pub place : F → ℕ
  pub remaining : F → Option (List ℕ)
  pub failures : F → ℕ
  pub ready : F → Type 0
  pub copy_place : G → ℕ
  pub holds : G → List ℕ → List ℕ → Type 0
  pub copy_failures : G → ℕ
  pub copy_sure : G → Type 0

abbrev pub sides : {F G : Type 0} → (F → ℕ) → SourceOf F → CopyOf G → Sides F G
sides place source copy = record {
  place = place;
  remaining = source.remaining;
  failures = source.failures;
  ready = source.ready;
  copy_place = copy.place;
  holds = copy.holds;
  copy_failures = copy.failures;
  copy_sure = copy.sure;
}

-- what the tree shows from which is copied, and whether it is sure, and the sink
pub record Work : Type 0 where
  pub shown : Shown
  pub tree_sure : Bool
  pub sink_sure : Bool

-- ONE FILE

-- The file gave these octets so far, within the limit, and they were written to its copy, which has its path. Neither
-- has failed.
pub record IsCopiedTo {F G : Type 0} (s : Sides F G) (work : Work) (octets : List ℕ) (source : F)
    (target : G) : Type 0 where
  pub path : List ℕ
  pub named : slice_get (paths_in work.shown) (s.place source) ≡ Some path
  pub beside : s.copy_place target ≡ s.place source
  pub gave : Consumes (octets_in work.shown (s.place source)) (s.remaining source) octets
  pub within : length octets ≤ LARGEST_FILE
  pub held : s.holds target path octets
  pub unfailed : s.failures source ≡ 0
  pub copy_unfailed : s.copy_failures target ≡ 0
  pub ready : work.tree_sure ≡ true → s.ready source
  pub sure : work.sink_sure ≡ true → s.copy_sure target

-- one more piece, the front of the buffer: less than it has room for if the file ends with it
pub record CopiesPiece {F G : Type 0} (s : Sides F G) (work : Work) (octets buffer : List ℕ)
    (source : F) (target : G) (n : ℕ) : Type 0 where
  pub bound : n ≤ length buffer
  pub copied : IsCopiedTo s work (octets ++ take n buffer) source target
  pub end : n < length buffer → IsAtEnd (s.remaining source)

-- Copying stopped with this fault: the file has failed or is too large, or it hasn't failed and the copy has.
pub record IsStopped {F G : Type 0} (s : Sides F G) (work : Work) (source : F) (target : G)
    (fault : CopyFault) : Type 0 where
  pub path : List ℕ
  pub named : slice_get (paths_in work.shown) (s.place source) ≡ Some path
  pub beside : s.copy_place target ≡ s.place source
  pub octets : List ℕ
  pub until : IsReadUntil (octets_in work.shown (s.place source)) (s.remaining source) fault octets
  pub failed : fault ≡ Tree → (0 < s.failures source) × (work.tree_sure ≢ true)
  pub unfailed : fault ≢ Tree → s.failures source ≡ 0
  pub copy_failed : fault ≡ Sink → (0 < s.copy_failures target) × (work.sink_sure ≢ true)

-- the file was copied to its end, and this was found of it; its last piece is no longer than another
pub record HasEnded {F G : Type 0} (s : Sides F G) (work : Work) (set : AlgSet)
    (copy : Copying F G) : Type 0 where
  pub octets : List ℕ
  pub copied : IsCopiedTo s work octets copy.source copy.target
  pub none_left : IsAtEnd (s.remaining copy.source)
  pub short : length copy.piece.items ≤ FRONT
  pub found_is : IsSomeAnd copy.found (λ found. IsFoundOf set copy.piece.items found octets)

-- a first piece was copied, or all
abbrev pub IsFreshBy : {F G : Type 0} → Sides F G → Work → AlgSet → Copying F G
    → Option SourceRead → Type 0
IsFreshBy s work set copy None = IsCopiedTo s work copy.piece.items copy.source copy.target
IsFreshBy s work set copy (Some found) = HasEnded s work set copy

abbrev pub IsFresh : {F G : Type 0} → Sides F G → Work → AlgSet → Copying F G → Type 0
IsFresh s work set copy = IsFreshBy s work set copy copy.found

-- SEVERAL

-- each from the place `first` to before the place `end`: has begun; has ended
abbrev pub AreFresh : {F G : Type 0} → Sides F G → Work → AlgSet → ℕ → ℕ
    → List (Copying F G) → Type 0
AreFresh {F} {G} s work set first end copies = (k : ℕ) (copy : Copying F G) → first ≤ k → k < end
    → slice_get copies k ≡ Some copy → IsFresh s work set copy

abbrev pub AreEnded : {F G : Type 0} → Sides F G → Work → AlgSet → ℕ → ℕ
    → List (Copying F G) → Type 0
AreEnded {F} {G} s work set first end copies = (k : ℕ) (copy : Copying F G) → first ≤ k → k < end
    → slice_get copies k ≡ Some copy → HasEnded s work set copy

-- the pieces of those that go on are full
abbrev pub AreFull : {F G : Type 0} → ℕ → ℕ → List (Copying F G) → Type 0
AreFull {F} {G} first end copies = (k : ℕ) (copy : Copying F G) → first ≤ k → k < end
    → slice_get copies k ≡ Some copy → copy.found ≡ None → length copy.piece.items ≡ FRONT

-- this is the first of them that stopped: those before it have ended
pub record IsFirstStopped {F G : Type 0} (s : Sides F G) (work : Work) (set : AlgSet)
    (first end : ℕ) (copies : List (Copying F G)) (stop : CopyStop) : Type 0 where
  pub low : first ≤ stop.place
  pub high : stop.place < end
  pub before : AreEnded s work set first stop.place copies
  pub here : (copy : Copying F G) → slice_get copies stop.place ≡ Some copy
      → IsStopped s work copy.source copy.target stop.fault

-- those from the place `first` to before the place `end` were copied to their ends if they had begun, or until one
-- stopped
abbrev pub CopiesThem : {F G : Type 0} → Sides F G → AlgSet → ℕ → ℕ → List (Copying F G)
    → List (Copying F G) → Result (Unit {0}) CopyStop → Type 0
CopiesThem s set first end old new result = (work : Work) → AreFresh s work set first end old
    → MatchResult result (λ done. AreEnded s work set first end new)
    (IsFirstStopped s work set first end new)

-- each file has the place that it had
pub record KeepPlaces {F G : Type 0} (place : F → ℕ) (copy_place : G → ℕ)
    (old new : List (Copying F G)) : Type 0 where
  pub count : length new ≡ length old
  pub each : (k : ℕ) (a b : Copying F G) → slice_get old k ≡ Some a → slice_get new k ≡ Some b
      → (place b.source ≡ place a.source) × (copy_place b.target ≡ copy_place a.target)

-- the files at other places stay
abbrev pub OthersStay : {F G : Type 0} → ℕ → ℕ → List (Copying F G) → List (Copying F G) → Type 0
OthersStay first end old new = (k : ℕ) → (k < first) ⊎ (end ≤ k)
    → slice_get new k ≡ slice_get old k

-- the same, and each file has the place that it had
pub record KeepsRest {F G : Type 0} (place : F → ℕ) (copy_place : G → ℕ) (first end : ℕ)
    (old new : List (Copying F G)) : Type 0 where
  pub others : OthersStay first end old new
  pub places : KeepPlaces place copy_place old new

-- at most four of the files, of which those that go on have full pieces
pub record AreFew {F G : Type 0} (first end : ℕ) (copies : List (Copying F G)) : Type 0 where
  pub low : first ≤ end
  pub few : end ≤ first + 4
  pub inside : end ≤ length copies
  pub full : AreFull first end copies

-- IN LANES

-- A file whose stream is in a lane goes on: the lane has taken all its octets but those that are left.
pub record IsGoing {F G : Type 0} (s : Sides F G) (work : Work) (multi : MultiLanes) (set : AlgSet)
    (i hashed : ℕ) (left : List ℕ) (copy : Copying F G) : Type 0 where
  pub taken : List ℕ
  pub count : hashed ≡ length taken
  pub holds : HoldsAt multi set i taken
  pub copied : IsCopiedTo s work (taken ++ left) copy.source copy.target

-- the same, or it has ended
abbrev pub IsUnderBy : {F G : Type 0} → Sides F G → Work → MultiLanes → AlgSet → ℕ → ℕ → List ℕ
    → Copying F G → Option SourceRead → Type 0
IsUnderBy s work multi set i hashed left copy None = IsGoing s work multi set i hashed left copy
IsUnderBy s work multi set i hashed left copy (Some found) = HasEnded s work set copy

abbrev pub IsUnder : {F G : Type 0} → Sides F G → Work → MultiLanes → AlgSet → ℕ → ℕ → List ℕ
    → Copying F G → Type 0
IsUnder s work multi set i hashed left copy =
    IsUnderBy s work multi set i hashed left copy copy.found

-- each from the place `first` to before the place `end`, in the lane at its place after `base`: its last piece is left,
-- or nothing is
abbrev pub AreUnder : {F G : Type 0} → Sides F G → Work → MultiLanes → AlgSet → ℕ → ℕ → ℕ → ℕ
    → List (Copying F G) → Type 0
AreUnder {F} {G} s work multi set hashed base first end copies = (k : ℕ) (copy : Copying F G)
    → first ≤ k → k < end → slice_get copies k ≡ Some copy
    → IsUnder s work multi set (k - base) hashed copy.piece.items copy

abbrev pub AreHashed : {F G : Type 0} → Sides F G → Work → MultiLanes → AlgSet → ℕ → ℕ → ℕ → ℕ
    → List (Copying F G) → Type 0
AreHashed {F} {G} s work multi set hashed base first end copies = (k : ℕ) (copy : Copying F G)
    → first ≤ k → k < end → slice_get copies k ≡ Some copy
    → IsUnder s work multi set (k - base) hashed [] copy

-- each was read on; or those before the place of a fault, at which one has stopped
pub record HaveStoppedAt {F G : Type 0} (s : Sides F G) (work : Work) (multi : MultiLanes)
    (set : AlgSet) (hashed first end : ℕ) (copies : List (Copying F G)) (stop : CopyStop)
    : Type 0 where
  pub low : first ≤ stop.place
  pub high : stop.place < end
  pub under : AreUnder s work multi set hashed first first stop.place copies
  pub here : (copy : Copying F G) → slice_get copies stop.place ≡ Some copy
      → IsStopped s work copy.source copy.target stop.fault

-- each of some has ended
abbrev pub AreDone : {F G : Type 0} → List (Copying F G) → ℕ → ℕ → Type 0
AreDone {F} {G} copies first end = (k : ℕ) (copy : Copying F G) → first ≤ k → k < end
    → slice_get copies k ≡ Some copy → copy.found ≢ None

-- the first that has not ended
pub record IsFirstOpen {F G : Type 0} (copies : List (Copying F G)) (first end k : ℕ) : Type 0 where
  pub low : first ≤ k
  pub high : k < end
  pub open_here : (copy : Copying F G) → slice_get copies k ≡ Some copy → copy.found ≡ None
  pub before : AreDone copies first k

-- the lanes have taken the piece of each that has not ended
abbrev pub HaveTaken : {F G : Type 0} → List (Copying F G) → ℕ → ℕ → MultiLanes → MultiLanes
    → Type 0
HaveTaken {F} {G} copies first end old new = (k : ℕ) (copy : Copying F G) → first ≤ k → k < end
    → slice_get copies k ≡ Some copy → copy.found ≡ None
    → (set : AlgSet) (octets : List ℕ) → HoldsAt old set (k - first) octets
    → HoldsAt new set (k - first) (octets ++ copy.piece.items)
