-- What a tree of files shows, and what a call that reads it does to it.
use Rattle.std.specs.Prelude.{◌≡◌, ℕ, Bool, List, Option, Some, map, slice_get}
use Rattle.std.specs.Option.{option_and_then}
use Rattle.std.specs.Ordering.{nat_cmp}
use Rattle.std.specs.Cmp.Lexicographic.{slice_cmp}
use Rattle.std.specs.List.Sorted.{IsStrictlySortedBy}
use Rattle.bag_digest.specs.Failures.{CountsIf}

-- in ascending order of their octets, none twice
abbrev pub AreRising : List (List ℕ) → Type 0
AreRising paths = IsStrictlySortedBy (slice_cmp nat_cmp) paths

-- What a tree shows: its files by path, each with its octets if they are known, and whether the payload directory is
-- there.
pub record Shown : Type 0 where
  pub files : List (List ℕ × Option (List ℕ))
  pub has_payload_dir : Bool

abbrev pub paths_in : Shown → List (List ℕ)
paths_in shown = map (λ (file : List ℕ × Option (List ℕ)). file.0) shown.files

-- the octets of the file at a place, if they are known
abbrev pub octets_in : Shown → ℕ → Option (List ℕ)
octets_in shown i =
    option_and_then (λ (file : List ℕ × Option (List ℕ)). file.1) (slice_get shown.files i)

-- the file at a place, whose octets are known
pub record HasFileAt (shown : Shown) (i : ℕ) (path octets : List ℕ) : Type 0 where
  pub there : slice_get shown.files i ≡ Some (path, Some octets)

-- What a call that reads a tree does to it. The files stay the same, a failure is counted exactly if the call fails,
-- and a sure tree never fails and stays sure.
pub record UsesTree {T : Type 0} (shown : T → Shown) (failures : T → ℕ) (sure : T → Type 0)
    (old new : T) (failed : Type 0) : Type 0 where
  pub same : shown new ≡ shown old
  pub counted : CountsIf failed (failures old) (failures new)
  pub stays_sure : sure old → sure new × ¬ failed

-- what reads leave unchanged
pub record KeepsTree {T : Type 0} (shown : T → Shown) (sure : T → Type 0)
    (old new : T) : Type 0 where
  pub same : shown new ≡ shown old
  pub stays_sure : sure old → sure new
