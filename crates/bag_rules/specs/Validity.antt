-- Complete and valid bags (RFC 8493 section 3).
use Rattle.std.specs.Prelude.{◌≡◌, ◌≤◌, ◌↔◌, ℕ, true, List, [], Some, length}
use Rattle.std.specs.List.{filter}
use Rattle.std.specs.Option.{ForSome}
use Rattle.bag_path.specs.Paths.{is_payload}
use Rattle.bag_digest.specs.declared.algorithm.Alg.{Alg}
use Rattle.bag_digest.specs.declared.digest.Digest.{Digest}
use Rattle.bag_digest.specs.Hash.{hash}
use Rattle.bag_tags.specs.declared.fetch.FetchLine.{FetchLine}
use Rattle.bag_tags.specs.declared.listing.Kind.TheVariants.{Payload, Tag}
use Rattle.bag_tags.specs.declared.listing.Pair.{Pair}
use Rattle.bag_tags.specs.Infos.{MetadataElement, is_oxum}
use Rattle.bag_tags.specs.Listings.{lists_path, listed_digest}
use Rattle.bag_tags.specs.Oxums.{OxumText}
use Rattle.bag_tags.specs.declared.name.LineFile.TheVariants.{Info, FetchList}
use Rattle.bag_tags.specs.declared.name.ManifestName.{ManifestName}
use Rattle.bag_rules.specs.declared.outcome.Outcome.{Outcome}
use Rattle.bag_rules.specs.declared.outcome.Outcome.TheVariants.{Judged, Outside}
use Rattle.bag_rules.specs.Bags.{Bag, HoldsFile, IsThere, IsDeclared, Lists, SaysInfo, ListsFetch, payload_of, octet_count, version_of}
use Rattle.bag_tags.specs.Names.{file_of, manifest_file, manifest_name, text_file}
use Rattle.bag_rules.specs.HasFault.{SaysOxum, HasEntry}
use Rattle.bag_rules.specs.Listed.{IsListed}
use Rattle.bag_rules.specs.Faults.{NoneUpTo, last_of_completeness}

-- Section 2: what is there conforms to the format.
pub record Conforms (bag : Bag) : Type 0 where
  pub declared : IsDeclared bag  -- section 2.1.1
  pub has_payload_dir : bag.has_payload_dir ≡ true  -- section 2.1.2
  pub has_manifest : (alg : Alg) × IsThere bag (manifest_file Payload alg)  -- section 2.1.3
  pub manifests_read : (name : ManifestName) → IsThere bag (file_of name) → (pairs : List Pair)
      × Lists bag name pairs  -- sections 2.1.3 and 2.2.1
  pub info_reads : IsThere bag (text_file Info) → (elements : List MetadataElement)
      × SaysInfo bag elements  -- section 2.2.2
  pub fetch_reads : IsThere bag (text_file FetchList) → (lines : List FetchLine)
      × ListsFetch bag lines  -- section 2.2.3
  -- each tag manifest lists every payload manifest (section 2.2.1)
  pub manifests_listed : (tag_manifest manifest : Alg) (pairs : List Pair)
      → Lists bag (manifest_name Tag tag_manifest) pairs
      → IsThere bag (manifest_file Payload manifest)
      → lists_path pairs (manifest_file Payload manifest) ≡ true
  -- at most one `Payload-Oxum`, with the numbers of the payload's octets and files (section 2.2.2)
  pub one_oxum : (elements : List MetadataElement) → SaysInfo bag elements
      → length (filter is_oxum elements) ≤ 1
  pub oxum_right : (element : MetadataElement) → SaysOxum bag element
      → OxumText element.value (octet_count (payload_of bag.files)) (length (payload_of bag.files))
  -- each file of `fetch.txt` is listed and, if it is there, has the length that is given
  -- (section 2.2.3)
  pub fetch_listed : (line : FetchLine) → HasEntry bag line
      → IsListed (version_of bag) bag line.entry.path
  pub fetch_lengths : (line : FetchLine) (octets : List ℕ) → HasEntry bag line
      → HoldsFile bag line.entry.path octets
      → ForSome line.entry.octets (λ given. length octets ≡ given)

-- Section 3: every required element is there; every file listed in every tag manifest and in every payload manifest is
-- there; every payload file is listed in every payload manifest (in version 0.97: in some); and every element present
-- conforms.
pub record IsComplete (bag : Bag) : Type 0 where
  pub conforms : Conforms bag
  pub each_there : (name : ManifestName) (pairs : List Pair) (path : List ℕ) → Lists bag name pairs
      → lists_path pairs path ≡ true → IsThere bag path
  pub each_listed : (path : List ℕ) → IsThere bag path → is_payload path ≡ true
      → IsListed (version_of bag) bag path

-- Section 3: it is complete, and every checksum in every payload manifest and tag manifest has been verified.
pub record IsValid (bag : Bag) : Type 0 where
  pub complete : IsComplete bag
  pub verified : (name : ManifestName) (pairs : List Pair) (path : List ℕ) (digest : Digest)
      (octets : List ℕ)
      → Lists bag name pairs → listed_digest pairs path ≡ Some digest → HoldsFile bag path octets
      → hash name.alg octets ≡ digest

-- If a judged bag has no faults, it is valid. If it has no faults but wrong digests, it is complete.
abbrev pub Means : Bag → Outcome → Type 0
Means bag (Judged faults) = (IsValid bag ↔ (faults ≡ []))
    × (IsComplete bag ↔ NoneUpTo last_of_completeness faults)
Means bag (Outside cause) = Unit {0}
