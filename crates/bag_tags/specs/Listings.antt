-- What a manifest lists (RFC 8493 sections 2.1.3 and 2.2.1).
use Rattle.std.specs.Prelude.{◌≡◌, ◌++◌, ℕ, Bool, true, false, List, [], ◌∷◌, Option, Some, None, if◌then◌else◌}
use Rattle.std.specs.List.{list_any}
use Rattle.std.specs.Str.{bytes_eq}
use Rattle.bag_path.specs.Paths.{is_payload}
use Rattle.bag_digest.specs.declared.algorithm.Alg.{Alg}
use Rattle.bag_digest.specs.declared.digest.Digest.{Digest}
use Rattle.bag_digest.specs.Hash.{alg_of}
use Rattle.bag_tags.specs.declared.listing.Kind.{Kind}
use Rattle.bag_tags.specs.declared.listing.Kind.TheVariants.{Payload, Tag}
use Rattle.bag_tags.specs.declared.listing.Pair.{Pair}
use Rattle.bag_tags.specs.declared.listing.PushFault.{PushFault}
use Rattle.bag_tags.specs.declared.listing.PushFault.TheVariants.{WrongAlg, WrongPlace, Twice, Memory}
use Rattle.bag_tags.specs.Names.{NamesTagManifest}

-- files and their digests by one algorithm, in the order of the manifest
pub record Listing : Type 0 where
  pub alg : Alg
  pub kind : Kind
  pub pairs : List Pair

abbrev pub nothing_listed : Alg → Kind → Listing
nothing_listed alg kind = record { alg = alg; kind = kind; pairs = [] }

abbrev pub pair : List ℕ → Digest → Pair
pair path digest = record { path = path; digest = digest }

-- the listing with one more pair at the end
abbrev pub with_pair : Listing → Pair → Listing
with_pair listing pair = record listing { pairs = listing.pairs ++ pair ∷ [] }

-- A payload manifest lists only payload files. A tag manifest lists tag files that aren't tag manifests.
abbrev pub IsInPlace : Kind → List ℕ → Type 0
IsInPlace Payload path = is_payload path ≡ true
IsInPlace Tag path = (is_payload path ≡ false) × ¬ NamesTagManifest path

-- whether some pair has this path
abbrev pub lists_path : List Pair → List ℕ → Bool
lists_path pairs path = list_any (λ (pair : Pair). bytes_eq pair.path path) pairs

-- the digest that is listed for a path, if one is
abbrev pub listed_digest : List Pair → List ℕ → Option Digest
listed_digest [] path = None
listed_digest (pair ∷ pairs) path = if bytes_eq pair.path path then Some pair.digest
    else listed_digest pairs path

-- no path is listed twice
abbrev pub NoneTwice : List Pair → Type 0
NoneTwice [] = Unit {0}
NoneTwice (pair ∷ pairs) = (lists_path pairs pair.path ≡ false) × NoneTwice pairs

-- the pair may be added to the listing
pub record Admits (listing : Listing) (path : List ℕ) (digest : Digest) : Type 0 where
  pub by_alg : alg_of digest ≡ listing.alg
  pub in_place : IsInPlace listing.kind path
  pub not_listed : lists_path listing.pairs path ≡ false

-- the first reason why the pair may not be added; `Memory` says nothing of it
abbrev pub RefusesPair : Listing → List ℕ → Digest → PushFault → Type 0
RefusesPair listing path digest WrongAlg = ¬ (alg_of digest ≡ listing.alg)
RefusesPair listing path digest WrongPlace = (alg_of digest ≡ listing.alg)
    × ¬ IsInPlace listing.kind path
RefusesPair listing path digest Twice = (alg_of digest ≡ listing.alg) × IsInPlace listing.kind path
    × (lists_path listing.pairs path ≡ true)
RefusesPair listing path digest Memory = Unit {0}
