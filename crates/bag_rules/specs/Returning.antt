-- Files of a tree that are out, and taking them back. Private functions alone cite these.
use Rattle.std.specs.Prelude.{◌≡◌, ◌↔◌, ◌+◌, ◌<◌, ◌≤◌, ℕ, List, Some, length, slice_get}
use Rattle.bag_digest.specs.declared.reading.SourceFault.{SourceFault}
use Rattle.bag_digest.specs.declared.reading.SourceFault.TheVariants.{Read, TooLarge}
use Rattle.bag_digest.specs.declared.streams.Stream.{Stream}
use Rattle.bag_digest.specs.declared.streams.StreamFault.{StreamFault}
use Rattle.bag_digest.specs.Failures.{CountsIf, greatest_count}
use Rattle.bag_rules.specs.Limits.{IsLongFile, Stopped}
use Rattle.bag_rules.specs.OpenTrees.{IsTooLarge}
use Rattle.bag_rules.specs.Trees.{HasFileAt, KeepsTree, Shown, paths_in}
use Rattle.bag_rules.specs.declared.outcome.CheckFault.{CheckFault}
use Rattle.bag_rules.specs.declared.outcome.CheckFault.TheVariants.{Tree}

-- THE COUNT

-- so many files are out, which have raised the count above this one
abbrev pub AreOut : ℕ → ℕ → ℕ → Type 0
AreOut base n count = (count ≡ base + n) × (0 < n → count ≤ greatest_count)

-- Files were given out or taken back: so many were out before it, and so many after it. Nothing else was done to the
-- tree.
pub record LeavesOut {T : Type 0} (shown : T → Shown) (failures : T → ℕ) (sure : T → Type 0)
    (before after : ℕ) (old new : T) : Type 0 where
  pub kept : KeepsTree shown sure old new
  pub counted : (base : ℕ) → AreOut base before (failures old) → AreOut base after (failures new)

-- All files that were out were taken back: a failure is then counted exactly if the tree is said to have failed.
pub record TakesAllBack {T : Type 0} (shown : T → Shown) (failures : T → ℕ) (sure : T → Type 0)
    (before : ℕ) (failed : Type 0) (old new : T) : Type 0 where
  pub kept : KeepsTree shown sure old new
  pub counted : (base : ℕ) → AreOut base before (failures old)
      → CountsIf failed base (failures new)

-- FILES THAT WERE READ

-- none of them has failed
abbrev pub AreUnfailed : {F : Type 0} → (F → ℕ) → List (Stream F) → Type 0
AreUnfailed {F} failures streams = (k : ℕ) (stream : Stream F)
    → slice_get streams k ≡ Some stream → failures stream.source ≡ 0

-- they are in the order of their places
abbrev pub AreByPlace : {F : Type 0} → (F → ℕ) → List (Stream F) → Type 0
AreByPlace {F} place streams = (j k : ℕ) (a b : Stream F) → j < k
    → slice_get streams j ≡ Some a → slice_get streams k ≡ Some b
    → place a.source < place b.source

-- an open file has stopped: it has failed, or it is too large and hasn't
pub record IsStopped {F : Type 0} (place : F → ℕ) (failures : F → ℕ) (shown : Shown)
    (fault : SourceFault) (file : F) : Type 0 where
  pub inside : place file < length (paths_in shown)
  pub failed : fault ≡ Read → 0 < failures file
  pub unfailed : fault ≡ TooLarge → failures file ≡ 0
  pub large : fault ≡ TooLarge → IsTooLarge shown (place file)

-- the first of these files that has stopped
pub record HasStoppedFirst {F : Type 0} (place : F → ℕ) (failures : F → ℕ) (shown : Shown)
    (streams : List (Stream F)) (told : StreamFault) : Type 0 where
  pub inside : told.place < length streams
  pub by_place : AreByPlace place streams
  pub before : (k : ℕ) (stream : Stream F) → k < told.place → slice_get streams k ≡ Some stream
      → failures stream.source ≡ 0
  pub here : (stream : Stream F) → slice_get streams told.place ≡ Some stream
      → IsStopped place failures shown told.fault stream.source

-- The fault of a check for that of the file at this place. It is said that the tree failed exactly if the file did.
pub record IsToldOf (shown : Shown) (place : ℕ) (fault : SourceFault) (told : CheckFault)
    : Type 0 where
  pub tree : (told ≡ Tree) ↔ (fault ≡ Read)
  pub long : (path octets : List ℕ) → HasFileAt shown place path octets
      → Stopped (IsLongFile path octets) told
