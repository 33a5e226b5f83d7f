-- What is known of the octets of a tree's files while they are read. Private functions alone cite these.
use Rattle.std.specs.Prelude.{◌≡◌, ◌++◌, ◌≤◌, ◌∷◌, ℕ, true, Contains, List, [], Option, Some, None, length, slice_get}
use Rattle.bag_digest.specs.declared.algorithm.Alg.{Alg}
use Rattle.bag_digest.specs.declared.algorithm.AlgSet.{AlgSet}
use Rattle.bag_digest.specs.declared.sums.Sums.{Sums}
use Rattle.bag_digest.specs.declared.streams.Stream.{Stream}
use Rattle.bag_digest.specs.Algorithm.{has}
use Rattle.bag_digest.specs.Reading.{AreSums}
use Rattle.bag_tags.specs.declared.listing.Kind.TheVariants.{Tag}
use Rattle.bag_tags.specs.declared.name.LineFile.{LineFile}
use Rattle.bag_tags.specs.Listings.{Listing}
use Rattle.bag_tags.specs.Names.{manifest_file, text_file}
use Rattle.bag_rules.specs.declared.batch_reading.BatchReading.{BatchReading}
use Rattle.bag_rules.specs.declared.file_batch.LookedUp.{LookedUp}
use Rattle.bag_rules.specs.declared.file_batch.LookedUp.TheVariants.{Known, ToRead}
use Rattle.bag_rules.specs.declared.limits.TheConstants.{LARGEST_TAG_FILE}
use Rattle.bag_rules.specs.declared.requirements.Requirements.{Requirements}
use Rattle.bag_rules.specs.declared.tag_sums.KeptFile.{KeptFile}
use Rattle.bag_rules.specs.declared.tag_sums.TagSums.{TagSums}
use Rattle.bag_rules.specs.Bags.{Bag, HasFilesOf, shown_of}
use Rattle.bag_rules.specs.FileBatchInside.{AreReadings, IsReadFor, next_of}
use Rattle.bag_rules.specs.KeptInside.{AreKept, kept_file}
use Rattle.bag_rules.specs.Trees.{HasFileAt, Shown, octets_in, paths_in}
use Rattle.bag_rules.specs.Wants.{lists_by}

-- the octets of the file at each place, as far as they are known
abbrev pub KnownOctets : Type 0
KnownOctets = ℕ → Option (List ℕ)

-- these are the octets of a file, if they are known
abbrev pub MayBe : Option (List ℕ) → List ℕ → Type 0
MayBe known octets = (own : List ℕ) → known ≡ Some own → octets ≡ own

-- what was known still is
abbrev pub Extends : KnownOctets → KnownOctets → Type 0
Extends old new = (i : ℕ) (octets : List ℕ) → old i ≡ Some octets → new i ≡ Some octets

-- the bag has the files that are shown, with the octets that are known
pub record IsBagBy (shown : Shown) (known : KnownOctets) (bag : Bag) : Type 0 where
  pub files : HasFilesOf shown bag
  pub octets : (i : ℕ) (path octets : List ℕ) → slice_get bag.files i ≡ Some (path, octets)
      → MayBe (known i) octets

-- WHAT IS KEPT

-- one file more is kept
pub record AddsKept (old new : TagSums) (file : KeptFile) : Type 0 where
  pub set : new.set ≡ old.set
  pub files : new.files.items ≡ old.files.items ++ file ∷ []

-- the sums of the file at this place are kept
pub record IsKeptAt (kept : TagSums) (place : ℕ) : Type 0 where
  pub number : ℕ
  pub file : KeptFile
  pub there : slice_get kept.files.items number ≡ Some file
  pub placed : file.place ≡ place

-- only such files are kept
abbrev pub KeepsOnly : Shown → TagSums → (List ℕ → Type 0) → Type 0
KeepsOnly shown kept such = (place : ℕ) (path : List ℕ) → IsKeptAt kept place
    → slice_get (paths_in shown) place ≡ Some path → such path

-- digests are kept by the algorithm of each tag manifest that is there
abbrev pub KeepsTagAlgs : Shown → TagSums → Type 0
KeepsTagAlgs shown kept = (alg : Alg) → Contains (paths_in shown) (manifest_file Tag alg)
    → has kept.set alg ≡ true

-- the digests that are listed of the kept files are kept
abbrev pub KeepsListed : Shown → List Listing → TagSums → Type 0
KeepsListed shown listings kept = (place : ℕ) (path : List ℕ) (alg : Alg) → IsKeptAt kept place
    → slice_get (paths_in shown) place ≡ Some path → lists_by listings path alg ≡ true
    → has kept.set alg ≡ true

-- What is known of the files: what is kept is of them, and of those from place n on no others were read.
pub record KnowsFrom (n : ℕ) (shown : Shown) (kept : TagSums) (known : KnownOctets) : Type 0 where
  pub more : Extends (octets_in shown) known
  pub are_kept : (bag : Bag) → IsBagBy shown known bag → AreKept (shown_of bag) kept
  pub unread : (i : ℕ) → n ≤ i → ¬ IsKeptAt kept i → known i ≡ octets_in shown i

-- TAG FILES

-- Files were read and kept, and only such ones.
pub record ReadsAndKnows (such : List ℕ → Type 0) (shown : Shown) (old new : TagSums)
    (known found : KnownOctets) : Type 0 where
  pub more : Extends known found
  pub knows : KnowsFrom 0 shown new found
  pub only : KeepsOnly shown new such
  pub set : new.set ≡ old.set

-- the file at this place was read and gave these octets, and its sums are kept; or it wasn't read
abbrev pub KeepsGiven : Shown → ℕ → TagSums → TagSums → Option (List ℕ) → Type 0
KeepsGiven shown place old new None = new ≡ old
KeepsGiven shown place old new (Some octets) = MayBe (octets_in shown place) octets
    × (length octets ≤ LARGEST_TAG_FILE)
    × ((sums : Sums) × AreSums sums old.set octets × AddsKept old new (kept_file place sums))

-- only a file that is read line by line was read
abbrev pub IsText : List ℕ → Type 0
IsText path = (file : LineFile) × (path ≡ text_file file)

-- FILES OF A BATCH

-- a file that is to be read isn't kept
abbrev pub IsUnkept : TagSums → ℕ → LookedUp → Type 0
IsUnkept kept place (Known sums) = Unit {0}
IsUnkept kept place (ToRead set) = ¬ IsKeptAt kept place

-- the stream at this place is that of a file of the bag, which is read
pub record IsStreamIn {F : Type 0} (place : F → ℕ) (wants : Requirements) (set : AlgSet)
    (streams : List (Stream F)) (bag : Bag) (k : ℕ) (path octets : List ℕ) : Type 0 where
  pub read : IsReadFor wants path set
  pub stream : Stream F
  pub there : slice_get streams k ≡ Some stream
  pub file : HasFileAt (shown_of bag) (place stream.source) path octets

-- What is known of the files, and of those of a batch: the octets of files that are out aren't known yet.
pub record AreKnown {F : Type 0} (place : F → ℕ) (shown : Shown) (kept : TagSums)
    (wants : Requirements) (known : KnownOctets) (gathered : BatchReading F) : Type 0 where
  pub knows : KnowsFrom (next_of gathered.batch) shown kept known
  pub readings : (bag : Bag) → IsBagBy shown known bag → AreReadings (shown_of bag) wants
      gathered.batch (IsStreamIn place wants gathered.set gathered.streams.items bag)
  pub out : (k : ℕ) (stream : Stream F) → slice_get gathered.streams.items k ≡ Some stream
      → known (place stream.source) ≡ octets_in shown (place stream.source)
