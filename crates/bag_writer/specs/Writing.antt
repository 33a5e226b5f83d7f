-- What is too large, what is refused before anything is written, and what is there after writing.
use Rattle.std.specs.Prelude.{◌≡◌, ◌⊎◌, ◌<◌, ◌++◌, [], ℕ, List, Option, Some, None, Result, Contains, MatchResult, false, length, map, slice_get, string_bytes, true}
use Rattle.std.specs.List.{filter}
use Rattle.std.specs.Map.{keys_of}
use Rattle.bag_path.specs.Paths.{is_payload}
use Rattle.bag_digest.specs.Algorithm.{has}
use Rattle.bag_digest.specs.declared.algorithm.Alg.{Alg}
use Rattle.bag_tags.specs.FetchEntries.{IsUrl}
use Rattle.bag_tags.specs.Infos.{MetadataElement, is_oxum}
use Rattle.bag_tags.specs.declared.oxum.Oxum.{Oxum}
use Rattle.bag_rules.specs.Bags.{Bag, HoldsFile, IsBagOf, octet_count, payload_of}
use Rattle.bag_rules.specs.Faults.{Has}
use Rattle.bag_rules.specs.Files.{Files}
use Rattle.bag_rules.specs.Opening.{IsFirstPath, IsFolderAmong}
use Rattle.bag_rules.specs.Trees.{Shown, paths_in}
use Rattle.bag_rules.specs.declared.limits.TheConstants.{LARGEST_FILE, LARGEST_TAG_FILE, MOST_LINES}
use Rattle.bag_writer.specs.Sinks.{Begun, Stored, nothing_stored}
use Rattle.bag_writer.specs.WrittenBags.{IsFileOf, IsWritten, tag_files}
use Rattle.bag_writer.specs.declared.too_large.Large.{Large}
use Rattle.bag_writer.specs.declared.too_large.Large.TheVariants.{File, Payload, TagFile}
use Rattle.bag_writer.specs.declared.write_fault.WriteFault.{WriteFault}
use Rattle.bag_writer.specs.declared.write_fault.WriteFault.TheVariants.{NoAlgorithm, OxumGiven, BadHole, Clash, Tree, Sink, TooLarge, Memory}
use Rattle.bag_writer.specs.declared.spec.Hole.{Hole}
use Rattle.bag_writer.specs.declared.spec.Spec.{Spec}

-- WHAT IS TOO LARGE

-- a file with this path, one of these, has more octets than the limit
abbrev pub IsLongIn : Files → ℕ → List ℕ → Type 0
IsLongIn files limit path = (octets : List ℕ) × Has files (path, octets) × (limit < length octets)

abbrev pub HasLongFile : Files → ℕ → Type 0
HasLongFile files limit = (path : List ℕ) × IsLongIn files limit path

-- this is too large: more files than a manifest may list, or a file that no check would read to its end
abbrev pub IsLarge : Spec → Files → Large → Type 0
IsLarge spec payload Payload = MOST_LINES < length payload
IsLarge spec payload (File path) = IsLongIn payload LARGEST_FILE path
IsLarge spec payload (TagFile path) = IsLongIn (tag_files spec payload) LARGEST_TAG_FILE path

abbrev pub IsTooLarge : Spec → Files → Type 0
IsTooLarge spec payload = (large : Large) × IsLarge spec payload large

-- An empty file at each of these paths. What is too large even then is known before any file is read.
abbrev pub empty_files : List (List ℕ) → Files
empty_files paths = map (λ path. (path, [])) paths

-- WHAT IS REFUSED BEFORE ANYTHING IS WRITTEN

abbrev pub payload_paths : Shown → List (List ℕ)
payload_paths shown = filter is_payload (paths_in shown)

abbrev pub HasAlgorithm : Spec → Type 0
HasAlgorithm spec = ¬ ((alg : Alg) → has spec.algs alg ≡ false)

abbrev pub GivesOxum : Spec → Type 0
GivesOxum spec = (element : MetadataElement) × Has spec.info element × (is_oxum element ≡ true)

-- an earlier hole has the path
abbrev pub IsHoleBefore : List Hole → ℕ → List ℕ → Type 0
IsHoleBefore holes i path = (j : ℕ) × ((other : Hole) × (j < i)
    × (slice_get holes j ≡ Some other) × (other.path ≡ path))

-- the hole at this place isn't a payload file, its URL is not valid, or its path is that of an earlier hole
abbrev pub IsBadHole : List (List ℕ) → List Hole → ℕ → Type 0
IsBadHole paths holes i = (hole : Hole) × (slice_get holes i ≡ Some hole)
    × ((¬ Contains paths hole.path) ⊎ (¬ IsUrl (string_bytes hole.url))
    ⊎ IsHoleBefore holes i hole.path)

abbrev pub IsFirstBadHole : List (List ℕ) → List Hole → ℕ → Type 0
IsFirstBadHole paths holes i = IsBadHole paths holes i
    × ((j : ℕ) → j < i → ¬ IsBadHole paths holes j)

-- a bag can be written as specified of a payload at these paths
pub record IsAccepted (paths : List (List ℕ)) (spec : Spec) : Type 0 where
  pub has_algorithm : HasAlgorithm spec
  pub no_oxum : ¬ GivesOxum spec
  pub holes : (i : ℕ) → ¬ IsBadHole paths spec.holes.items i
  pub no_clash : (path : List ℕ) → ¬ IsFolderAmong paths path

-- the first reason in this order why it can't; `Memory` says nothing, and other faults come later
abbrev pub RefusesBag : List (List ℕ) → Spec → WriteFault → Type 0
RefusesBag paths spec NoAlgorithm = (alg : Alg) → has spec.algs alg ≡ false
RefusesBag paths spec OxumGiven = HasAlgorithm spec × GivesOxum spec
RefusesBag paths spec (BadHole i) = HasAlgorithm spec × (¬ GivesOxum spec)
    × IsFirstBadHole paths spec.holes.items i
RefusesBag paths spec (Clash path) = HasAlgorithm spec × (¬ GivesOxum spec)
    × ((i : ℕ) → ¬ IsBadHole paths spec.holes.items i) × IsFirstPath (IsFolderAmong paths) path
RefusesBag paths spec Memory = Unit {0}
RefusesBag paths spec fault = IsAccepted paths spec

-- It isn't accepted, or something would be too large even if every payload file were empty. Nothing is written.
abbrev pub IsRefusedUnwritten : List (List ℕ) → Spec → Type 0
IsRefusedUnwritten paths spec = (¬ IsAccepted paths spec) ⊎ IsTooLarge spec (empty_files paths)

-- a failure of the tree or of the sink
abbrev pub IsOfDevice : WriteFault → Type 0
IsOfDevice Tree = Unit {0}
IsOfDevice Sink = Unit {0}
IsOfDevice fault = ⊥

-- a fault that is met before anything is written, or while it is
abbrev pub IsMetLater : WriteFault → Type 0
IsMetLater (TooLarge large) = Unit {0}
IsMetLater Memory = Unit {0}
IsMetLater fault = IsOfDevice fault

abbrev pub IsMetBefore : WriteFault → Type 0
IsMetBefore (TooLarge large) = ⊥
IsMetBefore fault = ¬ IsOfDevice fault

-- WHAT IS THERE AFTERWARDS

abbrev pub oxum_of : Files → Oxum
oxum_of payload = record { octets = octet_count payload; streams = length payload }

-- The result is the Oxum of the payload, and nothing in it is too large; or if it is `TooLarge`, it names what is.
abbrev pub Answers : Spec → Files → Result Oxum WriteFault → Type 0
Answers spec payload result = MatchResult result
    (λ oxum. (oxum ≡ oxum_of payload) × ¬ IsTooLarge spec payload)
    (λ fault. (large : Large) → fault ≡ TooLarge large → IsLarge spec payload large)

-- the whole bag is there, and no file is begun
pub record HasWhole (spec : Spec) (payload : Files) (stored : Stored) : Type 0 where
  pub written : IsWritten spec payload stored.bag
  pub none_begun : stored.begun ≡ None

-- part of the bag is there: some of its files, and a front of one more
pub record HasPart (spec : Spec) (payload : Files) (stored : Stored) : Type 0 where
  pub files : (path octets : List ℕ) → HoldsFile stored.bag path octets
      → IsFileOf spec payload path octets
  pub begun : (file : Begun) → stored.begun ≡ Some file
      → (rest : List ℕ) × IsFileOf spec payload file.path (file.octets ++ rest)

-- what a sink holds afterwards if it was empty and what it holds is known
abbrev pub Stores : Spec → Files → Result Oxum WriteFault → Option Stored → Option Stored → Type 0
Stores spec payload result old new = old ≡ Some nothing_stored → (stored : Stored)
    × (new ≡ Some stored) × MatchResult result (λ oxum. HasWhole spec payload stored)
    (λ fault. HasPart spec payload stored)

-- the files of a payload by path, as they were read: those of the tree's bag, if it is known
pub record IsReadFrom (shown : Shown) (payload : Files) : Type 0 where
  pub paths : keys_of payload ≡ payload_paths shown
  pub known : (bag : Bag) → IsBagOf shown bag → payload ≡ payload_of bag.files

-- this payload was read, and the result and the sink are those for it
pub record IsDone (shown : Shown) (spec : Spec) (result : Result Oxum WriteFault)
    (old new : Option Stored) (payload : Files) : Type 0 where
  pub read : IsReadFrom shown payload
  pub answers : Answers spec payload result
  pub stores : Stores spec payload result old new
