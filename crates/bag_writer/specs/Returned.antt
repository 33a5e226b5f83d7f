-- Files and copies that are out, and taking them back. Private functions alone cite these.
use Rattle.std.specs.Prelude.{◌≡◌, ◌≢◌, ◌↔◌, ◌<◌, ℕ, Bool, List, Option, Some, length, slice_get}
use Rattle.bag_digest.specs.Failures.{CountsIf}
use Rattle.bag_rules.specs.OpenTrees.{IsTooLarge}
use Rattle.bag_rules.specs.Returning.{AreOut}
use Rattle.bag_rules.specs.Trees.{Shown, paths_in}
use Rattle.bag_writer.specs.Sinks.{Stored}
use Rattle.bag_writer.specs.Writing.{IsMetLater}
use Rattle.bag_writer.specs.declared.copying.Copying.{Copying}
use Rattle.bag_writer.specs.declared.copying.CopyStop.{CopyStop}
use Rattle.bag_writer.specs.declared.payload.CopyFault.{CopyFault}
use Rattle.bag_writer.specs.declared.payload.CopyFault.TheVariants as copy
use Rattle.bag_writer.specs.declared.too_large.Large.{Large}
use Rattle.bag_writer.specs.declared.too_large.Large.TheVariants.{File}
use Rattle.bag_writer.specs.declared.write_fault.WriteFault.{WriteFault}
use Rattle.bag_writer.specs.declared.write_fault.WriteFault.TheVariants.{Sink, TooLarge, Tree}

-- THE COUNT OF A SINK, as that of a tree

-- Files were given out or taken back: so many were out before it, and so many after it. What the sink holds stays.
pub record LeavesCopies {S : Type 0} (stored : S → Option Stored) (is_open : S → Bool)
    (failures : S → ℕ) (sure : S → Type 0) (before after : ℕ) (old new : S) : Type 0 where
  pub held : stored new ≡ stored old
  pub as_open : is_open new ≡ is_open old
  pub stays_sure : sure old → sure new
  pub counted : (base : ℕ) → AreOut base before (failures old) → AreOut base after (failures new)

-- All files that were out were taken back: a failure is then counted exactly if the sink is said to have failed.
pub record TakesCopiesBack {S : Type 0} (stored : S → Option Stored) (is_open : S → Bool)
    (failures : S → ℕ) (sure : S → Type 0) (before : ℕ) (failed : Type 0) (old new : S)
    : Type 0 where
  pub held : stored new ≡ stored old
  pub as_open : is_open new ≡ is_open old
  pub stays_sure : sure old → sure new
  pub counted : (base : ℕ) → AreOut base before (failures old)
      → CountsIf failed base (failures new)

-- FILES THAT WERE COPIED

-- none has failed, and none of the copies
abbrev pub AreUnfailed : {F G : Type 0} → (F → ℕ) → (G → ℕ) → List (Copying F G) → Type 0
AreUnfailed {F} {G} failures copy_failures copies = (k : ℕ) (each : Copying F G)
    → slice_get copies k ≡ Some each
    → (failures each.source ≡ 0) × (copy_failures each.target ≡ 0)

-- A file has stopped with this fault: it has failed or is too large, or it hasn't failed and its copy has.
pub record IsStoppedAt {F G : Type 0} (place : F → ℕ) (failures : F → ℕ) (copy_place : G → ℕ)
    (copy_failures : G → ℕ) (shown : Shown) (fault : CopyFault) (each : Copying F G)
    : Type 0 where
  pub inside : place each.source < length (paths_in shown)
  pub beside : copy_place each.target ≡ place each.source
  pub failed : fault ≡ copy.Tree → 0 < failures each.source
  pub unfailed : fault ≢ copy.Tree → failures each.source ≡ 0
  pub large : fault ≡ copy.TooLarge → IsTooLarge shown (place each.source)
  pub copy_failed : fault ≡ copy.Sink → 0 < copy_failures each.target

-- files are in the order of their places, and each copy has the place of its file
pub record AreByPlace {F G : Type 0} (place : F → ℕ) (copy_place : G → ℕ)
    (copies : List (Copying F G)) : Type 0 where
  pub beside : (k : ℕ) (each : Copying F G) → slice_get copies k ≡ Some each
      → copy_place each.target ≡ place each.source
  pub rising : (j k : ℕ) (a b : Copying F G) → j < k → slice_get copies j ≡ Some a
      → slice_get copies k ≡ Some b → place a.source < place b.source

-- the first of these files that has stopped
pub record HasStoppedFirst {F G : Type 0} (place : F → ℕ) (failures : F → ℕ) (copy_place : G → ℕ)
    (copy_failures : G → ℕ) (shown : Shown) (copies : List (Copying F G)) (stop : CopyStop)
    : Type 0 where
  pub inside : stop.place < length copies
  pub by_place : AreByPlace place copy_place copies
  pub before : (k : ℕ) (each : Copying F G) → k < stop.place → slice_get copies k ≡ Some each
      → (failures each.source ≡ 0) × (copy_failures each.target ≡ 0)
  pub here : (each : Copying F G) → slice_get copies stop.place ≡ Some each
      → IsStoppedAt place failures copy_place copy_failures shown stop.fault each

-- The fault of the writer for that of the file at this place. It is said that the tree failed, or the sink, exactly if
-- that is so; and if something is too large, it is this file.
pub record IsToldOf (shown : Shown) (place : ℕ) (fault : CopyFault) (told : WriteFault)
    : Type 0 where
  pub met : IsMetLater told
  pub tree : (told ≡ Tree) ↔ (fault ≡ copy.Tree)
  pub sink : (told ≡ Sink) ↔ (fault ≡ copy.Sink)
  pub long : (large : Large) → told ≡ TooLarge large → (fault ≡ copy.TooLarge)
      × ((path : List ℕ) → slice_get (paths_in shown) place ≡ Some path → large ≡ File path)
