-- The subject of a transfer: the tag files with which it was opened, and the payload files that it holds (this
-- project's own: the RFC speaks only of bags that are there as a whole).
use Rattle.std.specs.Prelude.{◌≡◌, ◌≢◌, ◌≤◌, ◌↔◌, ℕ, List, [], true, Contains, Some, length}
use Rattle.std.specs.List.{fold}
use Rattle.std.specs.Map.{keys_of}
use Rattle.std.specs.BTreeMap.{insert_entry}
use Rattle.std.specs.Option.{ForSome}
use Rattle.std.specs.Ordering.{nat_cmp}
use Rattle.std.specs.Cmp.Lexicographic.{slice_cmp}
use Rattle.bag_digest.specs.declared.algorithm.Alg.{Alg}
use Rattle.bag_digest.specs.declared.digest.Digest.{Digest}
use Rattle.bag_digest.specs.Hash.{hash}
use Rattle.bag_tags.specs.declared.fetch.FetchLine.{FetchLine}
use Rattle.bag_tags.specs.declared.listing.Kind.TheVariants.{Payload}
use Rattle.bag_tags.specs.declared.listing.Pair.{Pair}
use Rattle.bag_tags.specs.Listings.{lists_path, listed_digest}
use Rattle.bag_tags.specs.Names.{manifest_name}
use Rattle.bag_rules.specs.declared.limits.TheConstants.{LARGEST_ITEM}
use Rattle.bag_rules.specs.declared.want.WantFault.{WantFault}
use Rattle.bag_rules.specs.declared.want.WantFault.TheVariants.{Length, Digest as WrongDigest}
use Rattle.bag_rules.specs.Bags.{Bag, Lists}
use Rattle.bag_rules.specs.Faults.{Has}
use Rattle.bag_rules.specs.Files.{Files}
use Rattle.bag_rules.specs.HasFault.{HasEntry}
use Rattle.bag_digest.specs.Algorithm.{IsFirstAmong}
use Rattle.bag_rules.specs.Trees.{AreRising}

-- these files and the others, each at its place in the order of the paths
abbrev pub with_files : Files → Files → Files
with_files files others =
    fold (λ all (file : List ℕ × List ℕ). insert_entry (slice_cmp nat_cmp) all file.0 file.1)
    files others

-- THE BAG

-- the bag of a transfer: its tag files, the payload files that it holds, and the payload directory
abbrev pub held_bag : Files → Files → Bag
held_bag tags items = record { files = with_files tags items; has_payload_dir = true }

-- the bag of a transfer that holds no payload file yet
abbrev pub tag_bag : Files → Bag
tag_bag tags = held_bag tags []

-- WHAT IS REQUIRED OF A PAYLOAD FILE

-- some payload manifest of the tag files lists the path (RFC 8493 section 2.1.3)
abbrev pub IsExpected : Files → List ℕ → Type 0
IsExpected tags path = (alg : Alg) × ((pairs : List Pair)
    × Lists (tag_bag tags) (manifest_name Payload alg) pairs × (lists_path pairs path ≡ true))

-- all such paths, in order
pub record AreExpected (tags : Files) (paths : List (List ℕ)) : Type 0 where
  pub rising : AreRising paths
  pub exact : (path : List ℕ) → Contains paths path ↔ IsExpected tags path

-- The content is accepted for the path: the path is listed, the content is within the limit, and it has each digest
-- that a payload manifest lists for it (section 2.1.3) and each length that a line of `fetch.txt` gives for it (section
-- 2.2.3).
pub record Passes (tags : Files) (path content : List ℕ) : Type 0 where
  pub expected : IsExpected tags path
  pub within : length content ≤ LARGEST_ITEM
  pub digests : (alg : Alg) (pairs : List Pair) (digest : Digest)
      → Lists (tag_bag tags) (manifest_name Payload alg) pairs
      → listed_digest pairs path ≡ Some digest → hash alg content ≡ digest
  pub lengths : (line : FetchLine) → HasEntry (tag_bag tags) line → line.entry.path ≡ path
      → ForSome line.entry.octets (λ given. length content ≡ given)

-- a line of `fetch.txt` gives another length for the path
abbrev pub HasOtherLength : Files → List ℕ → List ℕ → Type 0
HasOtherLength tags path content = (line : FetchLine) × HasEntry (tag_bag tags) line
    × (line.entry.path ≡ path)
    × ((given : ℕ) × (line.entry.octets ≡ Some given) × (length content ≢ given))

-- the payload manifest by this algorithm lists another digest for the path
abbrev pub ListsOther : Files → List ℕ → List ℕ → Alg → Type 0
ListsOther tags path content alg = (pairs : List Pair)
    × Lists (tag_bag tags) (manifest_name Payload alg) pairs
    × ((digest : Digest) × (listed_digest pairs path ≡ Some digest) × (hash alg content ≢ digest))

-- The first reason, apart from the limit, why the content is not accepted for a listed path: its length, or its digest
-- by the first algorithm by which another digest is listed.
abbrev pub IsMisfit : Files → List ℕ → List ℕ → WantFault → Type 0
IsMisfit tags path content Length = HasOtherLength tags path content
IsMisfit tags path content (WrongDigest alg) = (¬ HasOtherLength tags path content)
    × IsFirstAmong (ListsOther tags path content) alg

-- what a transfer may hold: payload files that pass, by path
pub record AreHeldFor (tags items : Files) : Type 0 where
  pub rising : AreRising (keys_of items)
  pub passing : (path content : List ℕ) → Has items (path, content) → Passes tags path content
