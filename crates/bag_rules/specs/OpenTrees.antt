-- What a tree gives out, and what giving a file out and taking it back does to it.
use Rattle.std.specs.Prelude.{◌≡◌, ◌⊎◌, ◌<◌, ℕ, Bool, List, Option, Some, length}
use Rattle.bag_rules.specs.declared.limits.TheConstants.{LARGEST_FILE}
use Rattle.bag_rules.specs.Trees.{Shown, octets_in}

-- A file that was opened at this place: nothing of it was read, it has not failed, and it doesn't if the tree never
-- does.
pub record IsOpened {F : Type 0} (place : F → ℕ) (remaining : F → Option (List ℕ))
    (failures : F → ℕ) (ready : F → Type 0) (shown : Shown) (sure : Type 0) (i : ℕ) (file : F)
    : Type 0 where
  pub placed : place file ≡ i
  pub unread : remaining file ≡ octets_in shown i
  pub unfailed : failures file ≡ 0
  pub is_ready : sure → ready file

-- the file at this place has more octets than a check takes, if they are known
abbrev pub IsTooLarge : Shown → ℕ → Type 0
IsTooLarge shown i = (octets : List ℕ) → octets_in shown i ≡ Some octets
    → LARGEST_FILE < length octets

-- a file comes behind one that has failed or is too large
pub record IsBehind {F : Type 0} (place : F → ℕ) (failures : F → ℕ) (shown : Shown)
    (first file : F) : Type 0 where
  pub later : place first < place file
  pub stopped : (0 < failures first) ⊎ IsTooLarge shown (place first)

-- Giving a file out, or taking one back, leaves what a read leaves, and the file that was started.
pub record LeavesRest {T : Type 0} (keeps : T → T → Type 0) (remaining : T → Option (List ℕ))
    (is_open : T → Bool) (ready : T → Type 0) (old new : T) : Type 0 where
  pub kept : keeps old new
  pub left : remaining new ≡ remaining old
  pub as_open : is_open new ≡ is_open old
  pub stays_ready : ready old → ready new
