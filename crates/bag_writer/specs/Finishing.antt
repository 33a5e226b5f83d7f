-- Several files that were copied side by side, and what is there once they were ended or one of them stopped. Private
-- functions alone cite these.
use Rattle.std.specs.Prelude.{◌≡◌, ◌<◌, ◌≤◌, ◌++◌, ℕ, Bool, false, List, Option, Some, IsSomeAnd, length, map, slice_get, take}
use Rattle.std.specs.List.{AllZip}
use Rattle.bag_digest.specs.Failures.{CountsIf}
use Rattle.bag_digest.specs.declared.algorithm.AlgSet.{AlgSet}
use Rattle.bag_rules.specs.Faults.{Has}
use Rattle.bag_rules.specs.Files.{Files}
use Rattle.bag_rules.specs.Returning.{AreOut}
use Rattle.bag_rules.specs.Trees.{Shown, octets_in, paths_in}
use Rattle.bag_rules.specs.declared.limits.TheConstants.{LARGEST_FILE}
use Rattle.bag_writer.specs.Copying.{AreFresh, AreFull, Sides}
use Rattle.bag_writer.specs.HeldFiles.{AreItemsSoFar}
use Rattle.bag_writer.specs.PayloadSteps.{AreOctetsOf, IsFoundOf}
use Rattle.bag_writer.specs.Pending.{work_of}
use Rattle.bag_writer.specs.Returned.{AreByPlace, AreUnfailed, IsStoppedAt}
use Rattle.bag_writer.specs.Sinks.{Stored}
use Rattle.bag_writer.specs.Steps.{ArePart, AreWhole, NamesLong}
use Rattle.bag_writer.specs.TagWriting.{AreFree}
use Rattle.bag_writer.specs.Writing.{HasLongFile, IsMetLater}
use Rattle.bag_writer.specs.declared.copying.Copying.{Copying}
use Rattle.bag_writer.specs.declared.copying.CopyStop.{CopyStop}
use Rattle.bag_writer.specs.declared.items.Items.{Items}
use Rattle.bag_digest.specs.declared.buffers.TheConstants.{FRONT}
use Rattle.bag_writer.specs.declared.payload.CopyFault.{CopyFault}
use Rattle.bag_writer.specs.declared.payload.CopyFault.TheVariants as copy
use Rattle.bag_writer.specs.declared.too_large.Large.TheVariants.{File}
use Rattle.bag_writer.specs.declared.write_fault.WriteFault.{WriteFault}

-- FILES BY THEIR PLACES

-- the file is the one at this place, as a tree shows it
pub record IsFileAt (shown : Shown) (i : ℕ) (file : List ℕ × List ℕ) : Type 0 where
  pub named : slice_get (paths_in shown) i ≡ Some file.0
  pub known : AreOctetsOf (octets_in shown i) file.1

abbrev pub AreFilesAt : Shown → List ℕ → Files → Type 0
AreFilesAt shown places files = AllZip (IsFileAt shown) places files

abbrev pub places_of : {F G : Type 0} → (F → ℕ) → List (Copying F G) → List ℕ
places_of {F} {G} place copies = map (λ (each : Copying F G). place each.source) copies

-- all files of which a copy waits come before this place
abbrev pub AreBefore : {F G : Type 0} → (F → ℕ) → List (Copying F G) → ℕ → Type 0
AreBefore {F} {G} place copies i = (k : ℕ) (each : Copying F G) → slice_get copies k ≡ Some each
    → place each.source < i

-- files in the order of their places, of each of which a first piece was copied, or all
pub record AreUnderWay {F G : Type 0} (s : Sides F G) (shown : Shown) (set : AlgSet)
    (copies : List (Copying F G)) : Type 0 where
  pub by_place : AreByPlace s.place s.copy_place copies
  pub full : AreFull 0 (length copies) copies
  pub fresh : AreFresh s (work_of shown false false) set 0 (length copies) copies

-- WHAT WAS READ OF THEM

-- this was found of a file, which is the one at its place; what is kept of it is no longer than a buffer
pub record IsTakenOf {F G : Type 0} (place : F → ℕ) (shown : Shown) (set : AlgSet)
    (each : Copying F G) (file : List ℕ × List ℕ) : Type 0 where
  pub at : IsFileAt shown (place each.source) file
  pub within : length file.1 ≤ LARGEST_FILE
  pub short : length each.piece.items ≤ FRONT
  pub found_is : IsSomeAnd each.found (λ found. IsFoundOf set each.piece.items found file.1)

abbrev pub AreTakenOf : {F G : Type 0} → (F → ℕ) → Shown → AlgSet → List (Copying F G) → Files
    → Type 0
AreTakenOf place shown set copies files = AllZip (IsTakenOf place shown set) copies files

-- the files come after those before them
abbrev pub AddsFiles : AlgSet → Files → Items → Items → Type 0
AddsFiles set files old new = (before : Files) → AreItemsSoFar set old before
    → AreItemsSoFar set new (before ++ files)

-- WHAT IS THERE

-- all were read to their ends and written whole
pub record AreCompleted {F G : Type 0} (s : Sides F G) (shown : Shown) (set : AlgSet)
    (copies : List (Copying F G)) (old new : Option Stored) : Type 0 where
  pub files : Files
  pub taken : AreTakenOf s.place shown set copies files
  pub unfailed : AreUnfailed s.failures s.copy_failures copies
  pub whole : AreWhole files old new

-- Of the files at some of the first of these places part was written. One of them is at this place, and is too large if
-- that is the fault.
pub record IsCutBy (shown : Shown) (places : List ℕ) (place : ℕ) (old new : Option Stored)
    (fault : CopyFault) : Type 0 where
  pub count : ℕ
  pub files : Files
  pub are : AreFilesAt shown (take count places) files
  pub part : ArePart files old new
  pub long : fault ≡ copy.TooLarge → (file : List ℕ × List ℕ) × Has files file
      × (slice_get (paths_in shown) place ≡ Some file.0) × (LARGEST_FILE < length file.1)

-- one has stopped, or its copy couldn't be ended, and none before it
pub record HasStoppedIn {F G : Type 0} (s : Sides F G) (shown : Shown)
    (copies : List (Copying F G)) (old new : Option Stored) (stop : CopyStop) : Type 0 where
  pub inside : stop.place < length copies
  pub before : (k : ℕ) (each : Copying F G) → k < stop.place → slice_get copies k ≡ Some each
      → (s.failures each.source ≡ 0) × (s.copy_failures each.target ≡ 0)
  pub here : (each : Copying F G) → slice_get copies stop.place ≡ Some each
      → IsStoppedAt s.place s.failures s.copy_place s.copy_failures shown stop.fault each
      × IsCutBy shown (places_of s.place copies) (s.place each.source) old new stop.fault

-- the items of the files at these places were added, and the files were written whole
pub record AreFinished (set : AlgSet) (shown : Shown) (places : List ℕ) (items more : Items)
    (old new : Option Stored) : Type 0 where
  pub files : Files
  pub are : AreFilesAt shown places files
  pub short : ¬ HasLongFile files LARGEST_FILE
  pub added : AddsFiles set files items more
  pub whole : AreWhole files old new

-- With this fault, of the files at some of the first of these places part was written, and one of them is named if it
-- is too large.
pub record IsCutAt (shown : Shown) (places : List ℕ) (old new : Option Stored)
    (fault : WriteFault) : Type 0 where
  pub met : IsMetLater fault
  pub count : ℕ
  pub files : Files
  pub are : AreFilesAt shown (take count places) files
  pub part : ArePart files old new
  pub long : NamesLong File files LARGEST_FILE fault

-- WHAT DOESN'T FAIL

-- a sink is sure, and has none of the files at some of the first of these places yet when it is their turn
pub record CanEnd (sure : Type 0) (is_open : Bool) (known : Option Stored) (shown : Shown)
    (places : List ℕ) : Type 0 where
  pub is_sure : sure
  pub closed : is_open ≡ false
  pub free : (count : ℕ) (files : Files) → AreFilesAt shown (take count places) files
      → AreFree known files

-- the same for copies that hold these files
pub record CanEndEach {F G : Type 0} (copy_sure : G → Type 0) (end : ℕ)
    (copies : List (Copying F G)) (files : Files) (sure : Type 0) (is_open : Bool)
    (known : Option Stored) : Type 0 where
  pub sure_each : (k : ℕ) (each : Copying F G) → k < end → slice_get copies k ≡ Some each
      → copy_sure each.target
  pub is_sure : sure
  pub closed : is_open ≡ false
  pub free : AreFree known files

-- THE COUNT OF A SINK, as in `Returned`, where files were ended

pub record EndsCopies {S : Type 0} (is_open : S → Bool) (failures : S → ℕ) (sure : S → Type 0)
    (before : ℕ) (failed : Type 0) (old new : S) : Type 0 where
  pub as_open : is_open new ≡ is_open old
  pub stays_sure : sure old → sure new
  pub counted : (base : ℕ) → AreOut base before (failures old)
      → CountsIf failed base (failures new)
