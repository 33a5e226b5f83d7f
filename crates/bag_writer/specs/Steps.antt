-- How a bag is written, one whole file after another. Most of these are cited by private functions alone.
use Rattle.std.specs.Prelude.{◌≡◌, ◌⊎◌, ◌∷◌, ◌≤◌, [], ℕ, Bool, true, List, Option, Some, None, Contains, length, map, not, slice_get, take}
use Rattle.std.specs.List.{AllByRecursion, filter, fold, list_any}
use Rattle.std.specs.Map.{keys_of}
use Rattle.std.specs.Option.{option_map}
use Rattle.std.specs.Str.{bytes_eq}
use Rattle.bag_digest.specs.Reading.{AreSums}
use Rattle.bag_digest.specs.declared.algorithm.AlgSet.{AlgSet}
use Rattle.bag_path.specs.Paths.{is_payload}
use Rattle.bag_rules.specs.Bags.{paths_of}
use Rattle.bag_rules.specs.Trees.{AreRising, Shown, UsesTree, paths_in}
use Rattle.bag_rules.specs.declared.limits.TheConstants.{LARGEST_FILE, MOST_LINES}
use Rattle.bag_rules.specs.Files.{Files}
use Rattle.bag_writer.specs.Sinks.{Stored, with_begun, with_ended, with_octets, without_begun}
use Rattle.bag_writer.specs.Writing.{HasLongFile, IsAccepted, IsLongIn, payload_paths}
use Rattle.bag_writer.specs.declared.too_large.Large.{Large}
use Rattle.bag_writer.specs.declared.write_fault.WriteFault.{WriteFault}
use Rattle.bag_writer.specs.declared.write_fault.WriteFault.TheVariants.{TooLarge}
use Rattle.bag_writer.specs.declared.item.Item.{Item}
use Rattle.bag_writer.specs.declared.spec.Hole.{Hole}
use Rattle.bag_writer.specs.declared.spec.Spec.{Spec}

-- What reading its payload does to a tree. One without payload files isn't touched.
pub record ReadsPayload {T : Type 0} (shown : T → Shown) (failures : T → ℕ) (sure : T → Type 0)
    (old new : T) (failed : Type 0) : Type 0 where
  pub uses : UsesTree shown failures sure old new failed
  pub unread : payload_paths (shown old) ≡ [] → new ≡ old

-- WHAT IS WRITTEN

-- whether the path is that of a hole
abbrev pub is_hole : List Hole → List ℕ → Bool
is_hole holes path = list_any (λ (hole : Hole). bytes_eq hole.path path) holes

-- the payload files that are written
abbrev pub written_payload : Spec → Files → Files
written_payload spec payload =
    filter (λ (file : List ℕ × List ℕ). not (is_hole spec.holes.items file.0)) payload

-- one more whole file
abbrev pub with_whole : Stored → List ℕ × List ℕ → Stored
with_whole stored file = with_ended (with_octets file.1 (with_begun file.0 stored))

-- whole files, one after another
abbrev pub with_wholes : Files → Stored → Stored
with_wholes files stored = fold with_whole stored files

-- each of the files was written whole, if it is known what the sink holds
abbrev pub AreWhole : Files → Option Stored → Option Stored → Type 0
AreWhole files old new = new ≡ option_map (with_wholes files) old

-- The next file wasn't begun, some of its first octets were written, or it was begun and is lost.
abbrev pub HasFrontOf : Option (List ℕ × List ℕ) → Option Stored → Option Stored → Type 0
HasFrontOf None old new = new ≡ old
HasFrontOf (Some file) old new = (new ≡ old)
    ⊎ ((n : ℕ)
    × (new ≡ option_map (λ stored. with_octets (take n file.1) (with_begun file.0 stored)) old))
    ⊎ (new ≡ option_map without_begun old)

-- some of the first of these files were written whole, and a front of the next one
abbrev pub ArePart : Files → Option Stored → Option Stored → Type 0
ArePart files old new = (n : ℕ)
    × HasFrontOf (slice_get files n) (option_map (with_wholes (take n files)) old) new

-- no file is there yet, or (below) only payload files, if it is known which files are there
abbrev pub HasNoFile : Option Stored → Type 0
HasNoFile known = (stored : Stored) → known ≡ Some stored → stored.bag.files ≡ []

abbrev pub HasPayloadAlone : Option Stored → Type 0
HasPayloadAlone known = (stored : Stored) → known ≡ Some stored → (path : List ℕ)
    → Contains (paths_of stored.bag) path → is_payload path ≡ true

-- if the fault is `TooLarge`, it names in this way a file, one of these, that is longer than the limit
abbrev pub NamesLong : (List ℕ → Large) → Files → ℕ → WriteFault → Type 0
NamesLong named files limit fault = (large : Large) → fault ≡ TooLarge large
    → (path : List ℕ) × (large ≡ named path) × IsLongIn files limit path

-- WHAT WAS READ

-- the path of the file, and its sums
pub record IsItemOf (set : AlgSet) (item : Item) (path octets : List ℕ) : Type 0 where
  pub path_is : item.path ≡ path
  pub sums : AreSums item.sums set octets

-- each item is that of the file at its place
abbrev pub AreItemsOf : AlgSet → List Item → Files → Type 0
AreItemsOf set [] [] = Unit {0}
AreItemsOf set (item ∷ items) (file ∷ files) = IsItemOf set item file.0 file.1
    × AreItemsOf set items files
AreItemsOf set _ _ = ⊥

-- the mark at each place says whether the path there is that of a hole
pub record AreHoleMarks (paths : List (List ℕ)) (spec : Spec) (marks : List Bool) : Type 0 where
  pub each : marks ≡ map (is_hole spec.holes.items) paths

-- A bag can be written as specified of the payload of this tree, whose files come by path. The payload has no
-- more files than a manifest may list, and these are the marks of its holes.
pub record IsAcceptedWith (shown : Shown) (spec : Spec) (marks : List Bool) : Type 0 where
  pub accepted : IsAccepted (payload_paths shown) spec
  pub few : length (payload_paths shown) ≤ MOST_LINES
  pub rising : AreRising (paths_in shown)
  pub marked : AreHoleMarks (paths_in shown) spec marks

-- a payload of which a bag can be written as specified, within the limits of its files
pub record IsWritable (spec : Spec) (payload : Files) : Type 0 where
  pub rising : AreRising (keys_of payload)
  pub payload_paths : AllByRecursion (λ path. is_payload path ≡ true) (keys_of payload)
  pub accepted : IsAccepted (keys_of payload) spec
  pub few : length payload ≤ MOST_LINES
  pub short : ¬ HasLongFile payload LARGEST_FILE
