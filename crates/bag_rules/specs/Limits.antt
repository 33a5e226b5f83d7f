-- The limits of a check, and which of them it meets first.
use Rattle.std.specs.Prelude.{◌≡◌, ◌⊎◌, ◌<◌, ◌≤◌, ℕ, true, List, Some, length}
use Rattle.std.specs.List.{slice_get}
use Rattle.bag_path.specs.Lines.{lines_of}
use Rattle.bag_path.specs.Paths.{is_payload}
use Rattle.bag_tags.specs.declared.listing.Pair.{Pair}
use Rattle.bag_tags.specs.Listings.{lists_path}
use Rattle.bag_tags.specs.declared.name.LineFile.{LineFile}
use Rattle.bag_tags.specs.declared.name.LineFile.TheVariants.{Info, FetchList, Manifest}
use Rattle.bag_tags.specs.declared.name.ManifestName.{ManifestName}
use Rattle.bag_rules.specs.declared.limits.TheConstants.{LARGEST_FILE, LARGEST_TAG_FILE, MOST_FILES, MOST_LINES}
use Rattle.bag_rules.specs.declared.outcome.CheckFault.{CheckFault}
use Rattle.bag_rules.specs.declared.outcome.CheckFault.TheVariants.{Tree, TagTooLarge, TooMany, TooLarge, Memory}
use Rattle.bag_rules.specs.Bags.{Bag, Lists, declaration_file}
use Rattle.bag_tags.specs.Names.{text_file}
use Rattle.bag_rules.specs.Verdicts.{NoneBelow, IsInScope}

-- a limit that says something about the bag; a failure of the tree and `Memory` say nothing about it
abbrev pub Stopped : (CheckFault → Type 0) → CheckFault → Type 0
Stopped stops Tree = Unit {0}
Stopped stops Memory = Unit {0}
Stopped stops fault = stops fault

-- a tag file that is read for what it says has at most 16,777,216 octets
abbrev pub IsLongTag : List ℕ → List ℕ → CheckFault → Type 0
IsLongTag path octets fault = (LARGEST_TAG_FILE < length octets) × (fault ≡ TagTooLarge path)

-- a file that is checked has at most 2^40 octets
abbrev pub IsLongFile : List ℕ → List ℕ → CheckFault → Type 0
IsLongFile path octets fault = (LARGEST_FILE < length octets) × (fault ≡ TooLarge path)

abbrev pub DeclarationStops : List ℕ → List ℕ → CheckFault → Type 0
DeclarationStops path octets fault = (path ≡ declaration_file) × IsLongTag path octets fault

-- the lines of these files are counted
abbrev pub HasCountedLines : LineFile → Type 0
HasCountedLines Info = ⊥
HasCountedLines FetchList = Unit {0}
HasCountedLines (Manifest name) = Unit {0}

-- a manifest or `fetch.txt` has at most 100,000 lines
abbrev pub HasManyLines : LineFile → List ℕ → CheckFault → Type 0
HasManyLines file octets fault = HasCountedLines file × (MOST_LINES < length (lines_of octets))
    × (fault ≡ TooMany)

-- a tag file that is read line by line
abbrev pub TextStops : List ℕ → List ℕ → CheckFault → Type 0
TextStops path octets fault = (file : LineFile) × (path ≡ text_file file)
    × (IsLongTag path octets fault
    ⊎ ((length octets ≤ LARGEST_TAG_FILE) × HasManyLines file octets fault))

-- each payload file and each listed file is read
abbrev pub IsChecked : Bag → List ℕ → Type 0
IsChecked bag path = (is_payload path ≡ true)
    ⊎ ((name : ManifestName) × ((pairs : List Pair) × Lists bag name pairs
    × (lists_path pairs path ≡ true)))

abbrev pub FileStops : Bag → List ℕ → List ℕ → CheckFault → Type 0
FileStops bag path octets fault = IsChecked bag path × IsLongFile path octets fault

-- none of the first n files by path stops the work
abbrev pub NoneStopsBefore : ℕ → Bag → (List ℕ → List ℕ → CheckFault → Type 0) → Type 0
NoneStopsBefore n bag stops = (i : ℕ) (path octets : List ℕ) (fault : CheckFault) → i < n
    → slice_get bag.files i ≡ Some (path, octets) → ¬ stops path octets fault

abbrev pub NoneStops : Bag → (List ℕ → List ℕ → CheckFault → Type 0) → Type 0
NoneStops bag stops = NoneStopsBefore (length bag.files) bag stops

-- the first file by path that stops the work, and why
pub record FirstStops (bag : Bag) (stops : List ℕ → List ℕ → CheckFault → Type 0)
    (fault : CheckFault) : Type 0 where
  pub place : ℕ
  pub path : List ℕ
  pub octets : List ℕ
  pub there : slice_get bag.files place ≡ Some (path, octets)
  pub reason : stops path octets fault
  pub first : NoneStopsBefore place bag stops

-- In scope: the tag files by name and then, if the form is right, the files by path.
abbrev pub ScopeStops : Bag → CheckFault → Type 0
ScopeStops bag fault = FirstStops bag TextStops fault
    ⊎ (NoneStops bag TextStops × NoneBelow 3 bag × FirstStops bag (FileStops bag) fault)

-- The declaration and then, in scope, the rest.
abbrev pub WorkStops : Bag → CheckFault → Type 0
WorkStops bag fault = FirstStops bag DeclarationStops fault
    ⊎ (NoneStops bag DeclarationStops × IsInScope bag × ScopeStops bag fault)

-- The number of files, at most 200,000, and then the rest. This is the first limit that a check of the bag meets.
abbrev pub Stops : Bag → CheckFault → Type 0
Stops bag fault = ((MOST_FILES < length bag.files) × (fault ≡ TooMany))
    ⊎ ((length bag.files ≤ MOST_FILES) × WorkStops bag fault)
