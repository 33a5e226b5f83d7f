-- What a sink holds, and what a call does to it.
use Rattle.std.specs.Prelude.{◌≡◌, ◌⊎◌, ◌++◌, ◌||◌, ℕ, Bool, List, [], OnOk, Option, Some, None, Result, Contains, false, true}
use Rattle.std.specs.Option.{option_map}
use Rattle.std.specs.Ordering.{nat_cmp}
use Rattle.std.specs.Cmp.Lexicographic.{slice_cmp}
use Rattle.std.specs.BTreeMap.{insert_entry}
use Rattle.bag_digest.specs.Failures.{CountsIf}
use Rattle.bag_path.specs.Paths.{is_payload}
use Rattle.bag_rules.specs.Bags.{Bag, paths_of}

-- a file that was begun: its path, and the octets that were written to it so far
pub record Begun : Type 0 where
  pub path : List ℕ
  pub octets : List ℕ

-- the files that were ended, as a bag, and the file that was begun, if there is one
pub record Stored : Type 0 where
  pub bag : Bag
  pub begun : Option Begun

-- nothing was written yet
abbrev pub nothing_stored : Stored
nothing_stored = record { bag = record { files = []; has_payload_dir = false }; begun = None }

-- WHAT CALLS DO TO IT

abbrev pub with_payload_dir : Stored → Stored
with_payload_dir stored = record stored { bag = record stored.bag { has_payload_dir = true } }

abbrev pub with_begun : List ℕ → Stored → Stored
with_begun path stored = record stored { begun = Some (record { path = path; octets = [] }) }

-- more octets at the end of the file that was begun
abbrev pub with_octets : List ℕ → Stored → Stored
with_octets more stored = record stored {
  begun = option_map (λ (file : Begun). record file { octets = file.octets ++ more }) stored.begun;
}

-- the file is inserted at its place in the order of the paths; a payload file creates the payload directory
abbrev pub with_file : Begun → Bag → Bag
with_file file bag = record {
  files = insert_entry (slice_cmp nat_cmp) bag.files file.path file.octets;
  has_payload_dir = bag.has_payload_dir || is_payload file.path;
}

abbrev pub with_some_file : Option Begun → Bag → Bag
with_some_file None bag = bag
with_some_file (Some file) bag = with_file file bag

-- the file that was begun belongs to the bag
abbrev pub with_ended : Stored → Stored
with_ended stored = record { bag = with_some_file stored.begun stored.bag; begun = None }

-- the file that was begun is lost
abbrev pub without_begun : Stored → Stored
without_begun stored = record stored { begun = None }

-- what the sink holds changed at most in this: the file that was begun still is or is lost
abbrev pub StaysOrIsLost : Option Stored → Option Stored → Type 0
StaysOrIsLost old new = (new ≡ old) ⊎ (new ≡ option_map without_begun old)

-- no file has this path, if it is known which files are there
abbrev pub IsFree : Option Stored → List ℕ → Type 0
IsFree known path = (stored : Stored) → known ≡ Some stored → ¬ Contains (paths_of stored.bag) path

-- nothing was written yet, or nothing is known
abbrev pub IsEmptySink : Option Stored → Type 0
IsEmptySink known = (stored : Stored) → known ≡ Some stored → stored ≡ nothing_stored

-- What a call does to the sink. A failure is counted exactly if the call fails, and a sure sink stays sure and doesn't
-- fail if the call is in the right order.
pub record UsesSink {S : Type 0} (failures : S → ℕ) (sure : S → Type 0) (old new : S)
    (in_order failed : Type 0) : Type 0 where
  pub counted : CountsIf failed (failures old) (failures new)
  pub stays_sure : sure old → sure new × (in_order → ¬ failed)

-- The same. If the call succeeds, no file is open afterwards, provided that none was before.
pub record UsesClosedSink {S Value Fault : Type 0} (is_open : S → Bool) (failures : S → ℕ)
    (sure : S → Type 0) (old new : S) (in_order : Type 0) (result : Result Value Fault)
    (failed : Type 0) : Type 0 where
  pub uses : UsesSink failures sure old new in_order failed
  pub closed : is_open old ≡ false → OnOk result (is_open new ≡ false)

-- The same for a call that writes a whole file. If it succeeds, no file is open afterwards.
pub record ClosesSink {S Value Fault : Type 0} (is_open : S → Bool) (failures : S → ℕ)
    (sure : S → Type 0) (old new : S) (in_order : Type 0) (result : Result Value Fault)
    (failed : Type 0) : Type 0 where
  pub uses : UsesSink failures sure old new in_order failed
  pub closed : OnOk result (is_open new ≡ false)

-- The same for a call that writes to the open file. A file is open afterwards exactly if one was before.
pub record UsesOpenSink {S : Type 0} (is_open : S → Bool) (failures : S → ℕ) (sure : S → Type 0)
    (old new : S) (failed : Type 0) : Type 0 where
  pub uses : UsesSink failures sure old new (is_open old ≡ true) failed
  pub opened : is_open new ≡ is_open old
