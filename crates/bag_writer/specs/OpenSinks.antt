-- What a sink gives out, and what giving a file out and taking it back does to it.
use Rattle.std.specs.Prelude.{◌≡◌, ◌⊎◌, ◌<◌, ◌≤◌, [], ℕ, Bool, false, List, Option}
use Rattle.bag_rules.specs.OpenTrees.{IsTooLarge}
use Rattle.bag_rules.specs.Trees.{Shown}
use Rattle.bag_writer.specs.Sinks.{IsFree, Stored}

-- A file that was begun at this place, with this path. If it hasn't failed, it is empty, no file was begun in the sink
-- and the path was free. If the sink is sure and that is so, it hasn't failed, and doesn't.
pub record IsBegun {G : Type 0} (place : G → ℕ) (holds : G → List ℕ → List ℕ → Type 0)
    (failures : G → ℕ) (sure : G → Type 0) (sink_sure : Type 0) (is_open : Bool)
    (known : Option Stored) (i : ℕ) (path : List ℕ) (file : G) : Type 0 where
  pub placed : place file ≡ i
  pub empty : failures file ≡ 0 → holds file path []
  pub free : failures file ≡ 0 → (is_open ≡ false) × IsFree known path
  pub is_sure : sink_sure → is_open ≡ false → IsFree known path
      → (failures file ≡ 0) × sure file

-- Giving a file out, or taking one back, leaves what the sink holds, and whether a file is begun in it.
pub record LeavesSink {S : Type 0} (stored : S → Option Stored) (is_open : S → Bool)
    (sure : S → Type 0) (old new : S) : Type 0 where
  pub held : stored new ≡ stored old
  pub as_open : is_open new ≡ is_open old
  pub stays_sure : sure old → sure new

-- A sure sink stays sure, and ends a sure file if no file is begun in it and the path of the file is free.
pub record EndsIfSure {S G : Type 0} (holds : G → List ℕ → List ℕ → Type 0) (sure : S → Type 0)
    (stored : S → Option Stored) (is_open : S → Bool) (file_sure : Type 0) (file : G)
    (old new : S) (failed : Type 0) : Type 0 where
  pub stays_sure : sure old → sure new
  pub ends : sure old → file_sure → is_open old ≡ false → (path octets : List ℕ)
      → holds file path octets → IsFree (stored old) path → ¬ failed

-- a place is behind that of a file of a sink that has failed
pub record IsAfter {G : Type 0} (place : G → ℕ) (failures : G → ℕ) (first : G) (i : ℕ)
    : Type 0 where
  pub later : place first < i
  pub failed : 0 < failures first

-- a place is that of an open file of a tree that has failed or is too large, or is behind it
pub record IsStoppedBefore {F : Type 0} (place : F → ℕ) (failures : F → ℕ) (shown : Shown)
    (first : F) (i : ℕ) : Type 0 where
  pub later : place first ≤ i
  pub stopped : (0 < failures first) ⊎ IsTooLarge shown (place first)
