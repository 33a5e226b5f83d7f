-- Faults of the form, in terms of what was read. Only private functions cite these; HasFault defines what a fault is.
use Rattle.std.specs.Prelude.{◌≡◌, ◌⊎◌, ◌≤◌, ℕ, true, false, List, length}
use Rattle.std.specs.List.{filter}
use Rattle.bag_digest.specs.declared.algorithm.Alg.{Alg}
use Rattle.bag_tags.specs.declared.listing.Kind.TheVariants.{Payload, Tag}
use Rattle.bag_tags.specs.Infos.{MetadataElement, is_oxum}
use Rattle.bag_tags.specs.Listings.{Listing, lists_path}
use Rattle.bag_tags.specs.Oxums.{OxumText}
use Rattle.bag_rules.specs.declared.fault.Fault.{Fault}
use Rattle.bag_rules.specs.declared.fault.Fault.TheVariants.{ManifestNotListed, OxumForm, OxumTwice}
use Rattle.bag_tags.specs.Names.{manifest_file}
use Rattle.bag_rules.specs.Faults.{Has}

-- the path is that of a payload manifest, and one of these tag manifests doesn't list it
abbrev pub IsUnlistedBy : List Listing → List ℕ → Fault → Type 0
IsUnlistedBy listings path fault = (alg : Alg)
    × ((listing : Listing) × (path ≡ manifest_file Payload alg) × Has listings listing
    × (listing.kind ≡ Tag)
    × (lists_path listing.pairs path ≡ false) × (fault ≡ ManifestNotListed listing.alg alg))

-- this is true of one of these paths
abbrev pub IsUnlistedManifest : List (List ℕ) → List Listing → Fault → Type 0
IsUnlistedManifest paths listings fault = (path : List ℕ) × Has paths path
    × IsUnlistedBy listings path fault

-- a `Payload-Oxum` that can't be read
abbrev pub IsBadOxum : MetadataElement → Type 0
IsBadOxum element = (is_oxum element ≡ true)
    × ((octets streams : ℕ) → ¬ OxumText element.value octets streams)

-- one of these elements is such, or two of them are `Payload-Oxum`
abbrev pub IsOxumFault : List MetadataElement → Fault → Type 0
IsOxumFault elements fault =
    ((element : MetadataElement) × Has elements element × IsBadOxum element × (fault ≡ OxumForm))
    ⊎ ((2 ≤ length (filter is_oxum elements)) × (fault ≡ OxumTwice))
