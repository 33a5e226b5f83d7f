-- Files that are begun, and wait until those before them have ended. Private functions alone cite these.
use Rattle.std.specs.Prelude.{◌≡◌, ◌≢◌, ◌<◌, ◌≤◌, ◌++◌, ◌∷◌, [], ℕ, Bool, true, false, List, Option, Some, None, Result, MatchResult, length, slice_get}
use Rattle.std.specs.Io.KnownBytes.{Consumes}
use Rattle.bag_digest.specs.declared.algorithm.AlgSet.{AlgSet}
use Rattle.bag_digest.specs.declared.reading.SourceRead.TheVariants.{Whole}
use Rattle.bag_rules.specs.Files.{Files}
use Rattle.bag_rules.specs.Trees.{Shown, octets_in, paths_in}
use Rattle.bag_writer.specs.Copying.{IsFresh, IsStopped, Sides, Work}
use Rattle.bag_writer.specs.Sinks.{IsFree, Stored}
use Rattle.bag_writer.specs.declared.payload_beside.NotBegun.{NotBegun}
use Rattle.bag_writer.specs.declared.payload_beside.NotBegun.TheVariants.{Memory, Stopped, Unopened}
use Rattle.bag_writer.specs.declared.copying.Copying.{Copying}
use Rattle.bag_writer.specs.declared.copying.CopyStop.{CopyStop}
use Rattle.bag_digest.specs.declared.buffers.TheConstants.{FRONT}
use Rattle.bag_writer.specs.declared.payload.CopyFault.TheVariants.{Sink}

abbrev pub work_of : Shown → Bool → Bool → Work
work_of shown tree_sure sink_sure = record {
  shown = shown;
  tree_sure = tree_sure;
  sink_sure = sink_sure;
}

-- a copy of the file at this place can be begun in a sink that is sure
pub record CanBegin (sure : Type 0) (is_open : Bool) (known : Option Stored) (shown : Shown)
    (i : ℕ) : Type 0 where
  pub is_sure : sure
  pub closed : is_open ≡ false
  pub free : (path : List ℕ) → slice_get (paths_in shown) i ≡ Some path → IsFree known path

-- A file was opened at this place, and a read of no octets didn't fail.
pub record IsReadable {F : Type 0} (place : F → ℕ) (remaining : F → Option (List ℕ))
    (failures : F → ℕ) (ready : F → Type 0) (shown : Shown) (sure : Type 0) (i : ℕ) (file : F)
    : Type 0 where
  pub placed : place file ≡ i
  pub unread : Consumes (octets_in shown i) (remaining file) []
  pub unfailed : failures file ≡ 0
  pub is_ready : sure → ready file

-- A file was opened, and a copy of it begun. Nothing was read, and nothing written. If the copy couldn't be begun, it
-- has failed.
pub record CanCopy {F G : Type 0} (s : Sides F G) (work : Work) (i : ℕ) (each : Copying F G)
    : Type 0 where
  pub placed : s.place each.source ≡ i
  pub path : List ℕ
  pub named : slice_get (paths_in work.shown) (s.place each.source) ≡ Some path
  pub beside : s.copy_place each.target ≡ s.place each.source
  pub unread : Consumes (octets_in work.shown (s.place each.source)) (s.remaining each.source) []
  pub unfailed : s.failures each.source ≡ 0
  pub ready : work.tree_sure ≡ true → s.ready each.source
  pub empty : s.copy_failures each.target ≡ 0 → s.holds each.target path []
  pub sure : work.sink_sure ≡ true
      → (s.copy_failures each.target ≡ 0) × s.copy_sure each.target

-- one file more, with this front of it: if that is shorter than a buffer, it is all of it
pub record IsHeld {F G : Type 0} (old new : List (Copying F G)) (each : Copying F G)
    (front : List ℕ) : Type 0 where
  pub last : Copying F G
  pub all : new ≡ old ++ last ∷ []
  pub source_is : last.source ≡ each.source
  pub target_is : last.target ≡ each.target
  pub piece_is : last.piece.items ≡ front
  pub whole : length front < FRONT → last.found ≡ Some (Whole (length front))
  pub more : FRONT ≤ length front → last.found ≡ None

-- one file more, that at this place, of which a first piece was copied, or all
pub record AddsCopy {F G : Type 0} (s : Sides F G) (work : Work) (i : ℕ)
    (old new : List (Copying F G)) : Type 0 where
  pub last : Copying F G
  pub all : new ≡ old ++ last ∷ []
  pub placed : s.place last.source ≡ i
  pub fresh : (set : AlgSet) → IsFresh s work set last
  pub full : last.found ≡ None → length last.piece.items ≡ FRONT

-- how many files come with a fault, and how many copies; what it says of the file at this place
abbrev pub files_with : {F G : Type 0} → NotBegun F G → ℕ
files_with Memory = 0
files_with (Unopened file) = 1
files_with (Stopped fault each) = 1

abbrev pub copies_with : {F G : Type 0} → NotBegun F G → ℕ
copies_with Memory = 0
copies_with (Unopened file) = 0
copies_with (Stopped fault each) = 1

-- the file at this place couldn't be opened
abbrev pub IsUnopened : {F : Type 0} → (F → ℕ) → (F → ℕ) → ℕ → F → Type 0
IsUnopened place failures i file = (place file ≡ i) × (0 < failures file)

abbrev pub IsOpenFault : {F G : Type 0} → (F → ℕ) → (F → ℕ) → Type 0 → ℕ → NotBegun F G → Type 0
IsOpenFault place failures sure i Memory = Unit {0}
IsOpenFault place failures sure i (Unopened file) = IsUnopened place failures i file × ¬ sure
IsOpenFault place failures sure i (Stopped fault each) = ⊥

abbrev pub IsBeginFault : {F G : Type 0} → Sides F G → Work → ℕ → NotBegun F G → Type 0
IsBeginFault s work i Memory = Unit {0}
IsBeginFault s work i (Unopened file) = IsUnopened s.place s.failures i file
    × (work.tree_sure ≢ true)
IsBeginFault s work i (Stopped fault each) = (s.place each.source ≡ i)
    × IsStopped s work each.source each.target fault

-- ENDING THEM

-- none of the copies before this place has failed
abbrev pub AreUnfailedTo : {F G : Type 0} → (G → ℕ) → ℕ → List (Copying F G) → Type 0
AreUnfailedTo {F} {G} copy_failures end copies = (k : ℕ) (each : Copying F G) → k < end
    → slice_get copies k ≡ Some each → copy_failures each.target ≡ 0

-- the copies before this place hold these files
pub record HoldEach {F G : Type 0} (holds : G → List ℕ → List ℕ → Type 0) (end : ℕ)
    (copies : List (Copying F G)) (files : Files) : Type 0 where
  pub count : length files ≡ end
  pub each : (k : ℕ) (each : Copying F G) (file : List ℕ × List ℕ) → k < end
      → slice_get copies k ≡ Some each → slice_get files k ≡ Some file
      → holds each.target file.0 file.1

-- What was read of each file stays, and the places of the copies.
pub record EndsEach {F G : Type 0} (copy_place : G → ℕ) (copy_failures : G → ℕ) (end : ℕ)
    (old new : List (Copying F G)) (result : Result (Unit {0}) CopyStop) : Type 0 where
  pub count : length new ≡ length old
  pub read : (k : ℕ) (a b : Copying F G) → slice_get old k ≡ Some a → slice_get new k ≡ Some b
      → (b.source ≡ a.source) × (b.piece ≡ a.piece) × (b.found ≡ a.found)
      × (copy_place b.target ≡ copy_place a.target)
  pub later : (k : ℕ) → end ≤ k → slice_get new k ≡ slice_get old k
  pub ended : MatchResult result (λ done. AreUnfailedTo copy_failures end new)
      (λ stop. (stop.place < end) × (stop.fault ≡ Sink) × AreUnfailedTo copy_failures stop.place new
      × ((each : Copying F G) → slice_get new stop.place ≡ Some each
      → 0 < copy_failures each.target))
