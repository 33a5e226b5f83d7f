-- Files in memory, as paths with octets.
use Rattle.std.specs.Prelude.{◌≡◌, ◌<◌, ◌≤◌, ℕ, List, Some, false, length, map, slice_get}
use Rattle.std.specs.List.{AllByRecursion}
use Rattle.std.specs.Map.{keys_of}
use Rattle.std.specs.Ordering.{nat_cmp}
use Rattle.std.specs.declared.cmp.Ordering.TheVariants.{Less, Greater}
use Rattle.std.specs.Cmp.Lexicographic.{slice_cmp}
use Rattle.bag_path.specs.Paths.{IsPath, is_payload}
use Rattle.bag_rules.specs.declared.file.File.{File}
use Rattle.bag_rules.specs.declared.limits.TheConstants.{LARGEST_TAG_FILE}
use Rattle.bag_rules.specs.Trees.{AreRising}

-- files by path, each with its octets
abbrev pub Files : Type 0
Files = List (List ℕ × List ℕ)

-- each path with its octets
abbrev pub files_of : List File → Files
files_of files = map (λ file. (file.path, file.body.items)) files

-- their paths
abbrev pub paths_of : List File → List (List ℕ)
paths_of files = keys_of (files_of files)

-- the same path and octets
abbrev pub SameFile : File → File → Type 0
SameFile file other = (other.path ≡ file.path) × (other.body.items ≡ file.body.items)

-- the path of a tag file (RFC 8493 section 2.2)
abbrev pub IsTagPath : List ℕ → Type 0
IsTagPath path = IsPath path × (is_payload path ≡ false)

-- a tag file within the limit
abbrev pub IsTagFile : List ℕ × List ℕ → Type 0
IsTagFile file = IsTagPath file.0 × (length file.1 ≤ LARGEST_TAG_FILE)

-- tag files by path, none twice
pub record AreTagFiles (files : Files) : Type 0 where
  pub rising : AreRising (keys_of files)
  pub each : AllByRecursion IsTagFile files

-- inserting the path at place i keeps the order: the paths before it are less, and those from i on are greater
pub record IsGapFor (paths : List (List ℕ)) (path : List ℕ) (i : ℕ) : Type 0 where
  pub within : i ≤ length paths
  pub less_before : (j : ℕ) (other : List ℕ) → j < i → slice_get paths j ≡ Some other
      → slice_cmp nat_cmp path other ≡ Greater
  pub greater_from : (j : ℕ) (other : List ℕ) → i ≤ j → slice_get paths j ≡ Some other
      → slice_cmp nat_cmp path other ≡ Less
