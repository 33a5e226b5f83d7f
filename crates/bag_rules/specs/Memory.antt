-- A tree of files in memory, in terms of what it shows.
use Rattle.std.specs.Prelude.{◌≡◌, ◌≢◌, ◌||◌, ℕ, Bool, true, false, List, [], Option, Some, None, Result, IsSome, MatchResult, drop, is_some, refl, slice_get}
use Rattle.std.specs.Option.{option_map}
use Rattle.std.specs.Ordering.{nat_cmp}
use Rattle.std.specs.Cmp.Lexicographic.{slice_cmp}
use Rattle.std.specs.Str.{bytes_eq}
use Rattle.std.specs.Map.{keys_of, lookup, values_of}
use Rattle.std.specs.BTreeMap.{insert_entry}
use Rattle.std.proofs.Common.{◌∙◌, ap}
use Rattle.bag_digest.specs.Failures.{one_more}
use Rattle.bag_path.specs.Paths.{is_payload}
use Rattle.bag_rules.specs.Bags.{Bag, shown_of}
use Rattle.bag_rules.specs.Trees.{KeepsTree, Shown}

-- The files, each path with its octets, in the order of the paths; whether the payload directory is there; what is left
-- to read of the file that was started, if one was; and how often a read has failed.
pub record MemFiles : Type 0 where
  pub files : List (List ℕ × List ℕ)
  pub has_payload_dir : Bool
  pub started : Option (List ℕ)
  pub failures : ℕ

-- nothing is there yet
abbrev pub no_files : MemFiles
no_files = record { files = []; has_payload_dir = false; started = None; failures = 0 }

abbrev pub mem_paths : MemFiles → List (List ℕ)
mem_paths tree = keys_of tree.files

-- the octets of a file, by its place
abbrev pub mem_octets : MemFiles → ℕ → Option (List ℕ)
mem_octets tree i = slice_get (values_of tree.files) i

-- the octets of the file with this path
abbrev pub octets_at : MemFiles → List ℕ → Option (List ℕ)
octets_at tree path = lookup (bytes_eq path) tree.files

-- The file is inserted at its place in the order of the paths. If it is a payload file, the payload directory is then
-- there (RFC 8493 section 2.1.2). Nothing else changes.
abbrev pub with_file : MemFiles → List ℕ → List ℕ → MemFiles
with_file tree path octets = record tree {
  files = insert_entry (slice_cmp nat_cmp) tree.files path octets;
  has_payload_dir = tree.has_payload_dir || is_payload path;
}

-- a look-up finds these octets at the path, and at other paths what it found before
pub record FindsAlso (old new : MemFiles) (path octets : List ℕ) : Type 0 where
  pub here : octets_at new path ≡ Some octets
  pub others : (other : List ℕ) → other ≢ path → octets_at new other ≡ octets_at old other

-- the bag of these files
abbrev pub bag_in : MemFiles → Bag
bag_in tree = record { files = tree.files; has_payload_dir = tree.has_payload_dir }

-- what the tree shows: all of its octets are known
abbrev pub mem_shown : MemFiles → Shown
mem_shown tree = shown_of (bag_in tree)

-- it never fails if a file was started
abbrev pub IsSure : MemFiles → Type 0
IsSure tree = Unit {0}

-- a file was started
abbrev pub IsStarted : MemFiles → Type 0
IsStarted tree = is_some tree.started ≡ true

-- a read fails and counts the failure if no file was started; otherwise it reads on in the file that was started
abbrev pub MatchRead : {E : Type 0} → MemFiles → MemFiles → Result ℕ E → Type 0
MatchRead old new result = MatchResult result
    (λ n. IsSome old.started × (new ≡ record old { started = option_map (drop n) old.started }))
    (λ _. (old.started ≡ None) × (new ≡ record old {
      failures = one_more old.failures;
    }))

abbrev shown_with : List (List ℕ × List ℕ) → Bool → Shown
shown_with files has_payload_dir = shown_of
    (record { files = files; has_payload_dir = has_payload_dir })

-- a read doesn't change whether something is open, and fails if nothing is
pub record KeepsOpen (old new : Bool) (failed : Type 0) : Type 0 where
  pub stays : new ≡ old
  pub fails : old ≡ false → failed

-- the same files
abbrev pub SameMemFiles : MemFiles → MemFiles → Type 0
SameMemFiles old new = (new.files ≡ old.files) × (new.has_payload_dir ≡ old.has_payload_dir)

pub same_itself : (a : MemFiles) → SameMemFiles a a
same_itself a = (refl, refl)

pub same_on : (a b c : MemFiles) → SameMemFiles a b → SameMemFiles b c → SameMemFiles a c
same_on a b c p q = (q.0 ∙ p.0, q.1 ∙ p.1)

pub keeps_tree : (a b : MemFiles) → SameMemFiles a b → KeepsTree mem_shown IsSure a b
keeps_tree a b p = record {
  same = ap (λ files. shown_with files b.has_payload_dir) p.0 ∙ ap (shown_with a.files) p.1;
  stays_sure = λ sure. sure;
}
