-- How the tag files are made and written. Only private functions cite these.
use Rattle.std.specs.Prelude.{◌≡◌, ◌≢◌, ◌<◌, ◌++◌, [], ◌∷◌, ℕ, Bool, true, false, List, Option, Some, None, Contains, length, string_bytes}
use Rattle.std.specs.List.{AllByRecursion}
use Rattle.std.specs.Map.{keys_of}
use Rattle.std.specs.Option.{option_map}
use Rattle.bag_digest.specs.declared.algorithm.Alg.{Alg}
use Rattle.bag_digest.specs.declared.algorithm.AlgSet.{AlgSet}
use Rattle.bag_path.specs.Paths.{is_payload}
use Rattle.bag_tags.specs.FetchEntries.{IsUrl}
use Rattle.bag_tags.specs.Listings.{IsInPlace}
use Rattle.bag_tags.specs.declared.listing.Kind.{Kind}
use Rattle.bag_tags.specs.declared.listing.Kind.TheVariants.{Payload}
use Rattle.bag_rules.specs.Faults.{Has}
use Rattle.bag_rules.specs.Files.{Files}
use Rattle.bag_rules.specs.Trees.{AreRising}
use Rattle.bag_rules.specs.declared.limits.TheConstants.{LARGEST_TAG_FILE}
use Rattle.bag_writer.specs.Sinks.{IsFree, Stored, UsesSink}
use Rattle.bag_writer.specs.Steps.{AreItemsOf, ArePart, AreWhole, NamesLong, with_whole}
use Rattle.bag_writer.specs.WrittenBags.{manifest_of}
use Rattle.bag_writer.specs.Writing.{HasLongFile, IsMetLater, empty_files}
use Rattle.bag_writer.specs.declared.too_large.Large.TheVariants.{TagFile}
use Rattle.bag_writer.specs.declared.write_fault.WriteFault.{WriteFault}
use Rattle.bag_writer.specs.declared.write_fault.WriteFault.TheVariants.{Sink, Tree}
use Rattle.bag_writer.specs.declared.item.Item.{Item}
use Rattle.bag_writer.specs.declared.spec.Hole.{Hole}

-- WHAT CAN BE LISTED

-- files that a manifest of this kind can list, by path
pub record CanBeListed (kind : Kind) (files : Files) : Type 0 where
  pub rising : AreRising (keys_of files)
  pub in_place : AllByRecursion (IsInPlace kind) (keys_of files)

-- holes that `fetch.txt` can list: each is that of a payload file, and its URL is valid
pub record CanBeFetched (payload : Files) (holes : List Hole) : Type 0 where
  pub rising : AreRising (keys_of payload)
  pub payload_paths : AllByRecursion (λ path. is_payload path ≡ true) (keys_of payload)
  pub there : (hole : Hole) → Has holes hole → ¬ ¬ Contains (keys_of payload) hole.path
  pub urls : (hole : Hole) → Has holes hole → ¬ ¬ IsUrl (string_bytes hole.url)

-- the payload manifest by this algorithm is too long, whatever the files at these paths contain
abbrev pub IsManifestLong : List (List ℕ) → Alg → Type 0
IsManifestLong paths alg =
    LARGEST_TAG_FILE < length (manifest_of Payload (empty_files paths) alg).1

-- WHAT IS WRITTEN

-- when it is a file's turn, no file with its path is there
abbrev pub AreFree : Option Stored → Files → Type 0
AreFree known [] = Unit {0}
AreFree known (file ∷ files) = IsFree known file.0
    × AreFree (option_map (λ (stored : Stored). with_whole stored file) known) files

-- the faults that writing tag files can meet
abbrev pub IsMetHere : WriteFault → Type 0
IsMetHere fault = IsMetLater fault × (fault ≢ Tree)

-- If there is no fault, the files were written whole and are within the limit. Otherwise part of them was written, and
-- if the fault is `TooLarge`, it names one of them that is beyond the limit.
abbrev pub WritesAll : Files → Option Stored → Option Stored → Option WriteFault → Type 0
WritesAll files old new None = AreWhole files old new × ¬ HasLongFile files LARGEST_TAG_FILE
WritesAll files old new (Some fault) = ArePart files old new × IsMetHere fault
    × NamesLong TagFile files LARGEST_TAG_FILE fault

-- what writing these tag files does to a sink, with this fault or none
pub record WritesFiles {S : Type 0} (stored : S → Option Stored) (is_open : S → Bool)
    (failures : S → ℕ) (sure : S → Type 0) (files : Files) (old new : S)
    (fault : Option WriteFault) : Type 0 where
  pub written : WritesAll files (stored old) (stored new) fault
  pub closed : is_open old ≡ false → fault ≡ None → is_open new ≡ false
  pub uses : UsesSink failures sure old new
      ((is_open old ≡ false) × AreFree (stored old) files) (fault ≡ Some Sink)

-- the items of these files are added after those that were there
abbrev pub AddsItems : AlgSet → Files → List Item → List Item → Type 0
AddsItems set files old new = (before : Files) → AreItemsOf set old before
    → AreItemsOf set new (before ++ files)
