-- The names of the tag files that tag manifests list: each may be listed.
use Rattle.std.proofs.Common.{◌≡◌, ◌++◌, ◌&&◌, ℕ, Bool, true, false, not, List, [], ◌∷◌, Option, Some, None, get_or, map, nat_eq, refl}
use Rattle.std.specs.List.{list_all}
use Rattle.bag_path.proofs.AsciiLemmas.{ascii_path, is_ascii_text}
use Rattle.bag_path.specs.Paths.{path_fault}
use Rattle.bag_path.specs.declared.path.PathFault.{PathFault}
use Rattle.bag_rules.proofs.Words.{AlgSet, AllByRecursion, and_parts, differ_at, false≢true, Files, Info, is_payload, keys_of, Payload, Tag, text_file}
use Rattle.bag_tags.specs.Names.{tag_manifest}
use Rattle.bag_writer.proofs.ListedPairs.{MayBeListed}
use Rattle.bag_writer.specs.WrittenBags.{algs_in, bagit_file, fetch_files, info_file, listed_tags, manifest_of}
use Rattle.bag_writer.specs.declared.spec.Hole.{Hole}
use Rattle.bag_writer.specs.declared.spec.Spec.{Spec}

-- A TEST OF A NAME

is_none : Option PathFault → Bool
is_none None = true
is_none (Some fault) = false

none_if : (o : Option PathFault) → is_none o ≡ true → o ≡ None
unfolding is_none
none_if None h = refl
none_if (Some fault) h = absurd (false≢true h)

not_true : (b : Bool) → not b ≡ true → b ≡ false
not_true true h = absurd (false≢true h)
not_true false h = refl

-- a path in ASCII that isn't payload and doesn't begin with `t`, as tag manifests do
is_listed_name : List ℕ → Bool
is_listed_name path = (is_ascii_text path && is_none (path_fault path)) && (not (is_payload path) && not (nat_eq (get_or path 0 0) 116))

may_be : (path : List ℕ) → is_listed_name path ≡ true → MayBeListed Tag path
unfolding is_listed_name
may_be path h =
    let k = and_parts (is_ascii_text path && is_none (path_fault path)) (not (is_payload path) && not (nat_eq (get_or path 0 0) 116)) h in
    let l = and_parts (is_ascii_text path) (is_none (path_fault path)) k.0 in
    let r = and_parts (not (is_payload path)) (not (nat_eq (get_or path 0 0) 116)) k.1 in
    (ascii_path path l.0 (none_if (path_fault path) l.1), (not_true (is_payload path) r.0, λ (word, is_word, e). differ_at 0 path (tag_manifest word) (not_true (nat_eq (get_or path 0 0) 116) r.1) e))

all_if : {X : Type 0} (p : X → Bool) (P : X → Type 0) → ((x : X) → p x ≡ true → P x) → (xs : List X) → list_all p xs ≡ true → AllByRecursion P xs
all_if p P so [] h = tt
all_if p P so (x ∷ xs) h = let k = and_parts (p x) (list_all p xs) h in (so x k.0, all_if p P so xs k.1)

-- EACH NAME, by the algorithms

abbrev by_flags : Bool → Bool → Bool → Bool → AlgSet
by_flags a b c d = record { md5 = a; sha1 = b; sha256 = c; sha512 = d }

abbrev listed_by : Bool → Bool → Bool → Bool → List Hole → Files → List ℕ → Files
listed_by a b c d holes payload octets = ((text_file Info, octets) ∷ bagit_file ∷ fetch_files payload holes) ++ map (manifest_of Payload payload) (algs_in (by_flags a b c d))

named : (a b c d : Bool) (holes : List Hole) (payload : Files) (octets : List ℕ) → list_all is_listed_name (keys_of (listed_by a b c d holes payload octets)) ≡ true
unfolding is_listed_name is_none path_fault
named true true true true [] payload octets = refl
named true true true true (hole ∷ holes) payload octets = refl
named true true true false [] payload octets = refl
named true true true false (hole ∷ holes) payload octets = refl
named true true false true [] payload octets = refl
named true true false true (hole ∷ holes) payload octets = refl
named true true false false [] payload octets = refl
named true true false false (hole ∷ holes) payload octets = refl
named true false true true [] payload octets = refl
named true false true true (hole ∷ holes) payload octets = refl
named true false true false [] payload octets = refl
named true false true false (hole ∷ holes) payload octets = refl
named true false false true [] payload octets = refl
named true false false true (hole ∷ holes) payload octets = refl
named true false false false [] payload octets = refl
named true false false false (hole ∷ holes) payload octets = refl
named false true true true [] payload octets = refl
named false true true true (hole ∷ holes) payload octets = refl
named false true true false [] payload octets = refl
named false true true false (hole ∷ holes) payload octets = refl
named false true false true [] payload octets = refl
named false true false true (hole ∷ holes) payload octets = refl
named false true false false [] payload octets = refl
named false true false false (hole ∷ holes) payload octets = refl
named false false true true [] payload octets = refl
named false false true true (hole ∷ holes) payload octets = refl
named false false true false [] payload octets = refl
named false false true false (hole ∷ holes) payload octets = refl
named false false false true [] payload octets = refl
named false false false true (hole ∷ holes) payload octets = refl
named false false false false [] payload octets = refl
named false false false false (hole ∷ holes) payload octets = refl

pub tags_listed : (spec : Spec) (payload : Files) → AllByRecursion (MayBeListed Tag) (keys_of (listed_tags spec payload))
tags_listed spec payload = all_if is_listed_name (MayBeListed Tag) may_be (keys_of (listed_tags spec payload)) (named spec.algs.md5 spec.algs.sha1 spec.algs.sha256 spec.algs.sha512 spec.holes.items payload (info_file spec payload).1)
