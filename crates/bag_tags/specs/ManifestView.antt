-- What a manifest lists, and how its index finds the pairs.
use Rattle.std.specs.Prelude.{◌≡◌, ◌+◌, ℕ, List, [], ◌∷◌, Option, Some, None, if◌then◌else◌}
use Rattle.std.specs.Str.{bytes_eq}
use Rattle.std.specs.BTreeMap.{BTreeMap, get}
use Rattle.std.specs.List.{AllByRecursion}
use Rattle.std.specs.Ordering.{nat_cmp}
use Rattle.std.specs.Cmp.Lexicographic.{slice_cmp}
use Rattle.bag_digest.specs.declared.algorithm.Alg.{Alg}
use Rattle.bag_digest.specs.Hash.{alg_of}
use Rattle.bag_tags.specs.declared.listing.Kind.{Kind}
use Rattle.bag_tags.specs.declared.listing.Pair.{Pair}
use Rattle.bag_tags.specs.declared.manifest.Manifest.TheInside.{Inside}
use Rattle.bag_tags.specs.Listings.{Listing, IsInPlace, NoneTwice}

abbrev pub listing_of : Inside → Listing
listing_of manifest =
    record { alg = manifest.alg; kind = manifest.kind; pairs = manifest.pairs.items }

-- the place of the first pair with this path, counted from n
abbrev pub place_from : ℕ → List Pair → List ℕ → Option ℕ
place_from n [] path = None
place_from n (pair ∷ pairs) path = if bytes_eq pair.path path then Some n
    else place_from (n + 1) pairs path

-- the index has the place of each listed path, and no other path
abbrev pub IsIndexOf : BTreeMap (List ℕ) ℕ → List Pair → Type 0
IsIndexOf places pairs = (path : List ℕ) → get (slice_cmp nat_cmp) places path
    ≡ place_from 0 pairs path

-- each pair's digest is by the algorithm, and its path is in place
abbrev pub FitEach : Alg → Kind → List Pair → Type 0
FitEach alg kind pairs = AllByRecursion (λ (pair : Pair). (alg_of pair.digest ≡ alg)
    × IsInPlace kind pair.path) pairs

pub record IsIndexed (manifest : Inside) : Type 0 where
  pub index : IsIndexOf manifest.places manifest.pairs.items
  pub none_twice : NoneTwice manifest.pairs.items
  pub fit : FitEach manifest.alg manifest.kind manifest.pairs.items
