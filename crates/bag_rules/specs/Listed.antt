-- Which payload manifests have to list a payload file, and a path of `fetch.txt`.
use Rattle.std.specs.Prelude.{◌≡◌, ◌≢◌, ℕ, true, false, List}
use Rattle.std.specs.Ordering.{nat_cmp}
use Rattle.std.specs.Cmp.Lexicographic.{slice_cmp}
use Rattle.std.specs.declared.cmp.Ordering.TheVariants.{Greater}
use Rattle.bag_path.specs.declared.version.Version.{Version}
use Rattle.bag_path.specs.declared.version.Version.TheVariants.{V1, V097}
use Rattle.bag_digest.specs.declared.algorithm.Alg.{Alg}
use Rattle.bag_tags.specs.declared.listing.Kind.TheVariants.{Payload}
use Rattle.bag_tags.specs.declared.listing.Pair.{Pair}
use Rattle.bag_tags.specs.Listings.{lists_path}
use Rattle.bag_tags.specs.Names.{manifest_file, manifest_name}
use Rattle.bag_rules.specs.Bags.{Bag, Lists}

-- The path is listed as required: in version 1.0 by every payload manifest (RFC 8493 sections 2.2.3 and 3), in version
-- 0.97 by some payload manifest (this project's own).
abbrev pub IsListed : Version → Bag → List ℕ → Type 0
IsListed V1 bag path = (alg : Alg) (pairs : List Pair)
    → Lists bag (manifest_name Payload alg) pairs → lists_path pairs path ≡ true
IsListed V097 bag path = (alg : Alg) × (pairs : List Pair)
    × Lists bag (manifest_name Payload alg) pairs × (lists_path pairs path ≡ true)

-- the payload manifest is there and can be read, and is the first such one by file name
pub record IsFirstManifest (bag : Bag) (alg : Alg) : Type 0 where
  pub there : (pairs : List Pair) × Lists bag (manifest_name Payload alg) pairs
  pub first : (other : Alg) (pairs : List Pair) → Lists bag (manifest_name Payload other) pairs
      → slice_cmp nat_cmp (manifest_file Payload alg) (manifest_file Payload other) ≢ Greater

-- The payload manifest that is reported because the path isn't listed as required: in version 1.0 each one that doesn't
-- list it, in version 0.97 the first one, if none lists it.
abbrev pub IsUnlisted : Version → Bag → Alg → List ℕ → Type 0
IsUnlisted V1 bag alg path = (pairs : List Pair)
    × Lists bag (manifest_name Payload alg) pairs × (lists_path pairs path ≡ false)
IsUnlisted V097 bag alg path = IsFirstManifest bag alg × ¬ IsListed V097 bag path
