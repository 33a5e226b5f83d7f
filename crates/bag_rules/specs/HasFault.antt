-- What is wrong with a bag (RFC 8493 sections 2 and 3): for each fault, when a bag has it.
use Rattle.std.specs.Prelude.{◌≡◌, ◌≢◌, ◌⊎◌, ◌≤◌, ◌==◌, ℕ, true, false, List, Some, length}
use Rattle.std.specs.List.{filter, list_any}
use Rattle.bag_path.specs.declared.version.Version.{Version}
use Rattle.bag_path.specs.Paths.{is_payload}
use Rattle.bag_digest.specs.declared.algorithm.Alg.{Alg}
use Rattle.bag_digest.specs.declared.digest.Digest.{Digest}
use Rattle.bag_digest.specs.Hash.{hash}
use Rattle.bag_tags.specs.declared.tag_fault.LineFault.{LineFault}
use Rattle.bag_tags.specs.declared.tag_fault.LineCause.{LineCause}
use Rattle.bag_tags.specs.declared.fetch.FetchLine.{FetchLine}
use Rattle.bag_tags.specs.declared.listing.Kind.TheVariants.{Payload, Tag}
use Rattle.bag_tags.specs.declared.listing.Pair.{Pair}
use Rattle.bag_tags.specs.Declarations.{IsDeclarationFault}
use Rattle.bag_tags.specs.FetchText.{FetchFault}
use Rattle.bag_tags.specs.Infos.{MetadataElement, is_oxum}
use Rattle.bag_tags.specs.InfoText.{InfoFault}
use Rattle.bag_tags.specs.Listings.{lists_path, listed_digest}
use Rattle.bag_tags.specs.Manifests.{ManifestFault}
use Rattle.bag_tags.specs.Oxums.{OxumText}
use Rattle.bag_rules.specs.declared.fault.Fault.{Fault}
use Rattle.bag_rules.specs.declared.fault.Fault.TheVariants.{NoDeclaration, BadDeclaration, NoPayloadDir, NoManifest, BadLine, ManifestNotListed, OxumForm, OxumTwice, Missing, Unlisted, FetchNotListed, FetchLength, OxumWrong, WrongDigest}
use Rattle.bag_tags.specs.declared.name.LineFile.{LineFile}
use Rattle.bag_tags.specs.declared.name.LineFile.TheVariants.{Info, FetchList, Manifest}
use Rattle.bag_rules.specs.Bags.{Bag, version_of, HoldsFile, IsThere, Lists, SaysInfo, ListsFetch, declaration_file, payload_of, octet_count}
use Rattle.bag_tags.specs.Names.{manifest_file, manifest_name, text_file}
use Rattle.bag_rules.specs.Listed.{IsUnlisted}
use Rattle.bag_rules.specs.Faults.{Has, number_of}

-- the text of a tag file has this first faulty line
abbrev pub IsFaultyText : Version → LineFile → List ℕ → LineFault → Type 0
IsFaultyText version Info octets fault = InfoFault version octets fault
IsFaultyText version FetchList octets fault = FetchFault version octets fault
IsFaultyText version (Manifest name) octets fault =
    ManifestFault version name.alg name.kind octets fault

abbrev pub line_fault : ℕ → LineCause → LineFault
line_fault line cause = record { line = line; cause = cause }

-- `bag-info.txt` has this `Payload-Oxum`
pub record SaysOxum (bag : Bag) (element : MetadataElement) : Type 0 where
  pub elements : List MetadataElement
  pub says : SaysInfo bag elements
  pub has : Has elements element
  pub is_oxum : is_oxum element ≡ true

-- `fetch.txt` has this entry
pub record HasEntry (bag : Bag) (line : FetchLine) : Type 0 where
  pub lines : List FetchLine
  pub lists : ListsFetch bag lines
  pub has : Has lines line

-- these are not the numbers of the payload's octets and files
abbrev pub IsOtherPayload : Bag → ℕ → ℕ → Type 0
IsOtherPayload bag octets streams = (octets ≢ octet_count (payload_of bag.files))
    ⊎ (streams ≢ length (payload_of bag.files))

-- the bag has the fault
abbrev pub HasFault : Bag → Fault → Type 0
HasFault bag NoDeclaration = ¬ IsThere bag declaration_file  -- section 2.1.1
HasFault bag (BadDeclaration cause) = (octets : List ℕ) × HoldsFile bag declaration_file octets
    × IsDeclarationFault octets cause  -- section 2.1.1
HasFault bag NoPayloadDir = bag.has_payload_dir ≡ false  -- section 2.1.2
HasFault bag NoManifest = (alg : Alg) → ¬ IsThere bag (manifest_file Payload alg)  -- section 2.1.3
HasFault bag (BadLine file line cause) = (octets : List ℕ) × HoldsFile bag (text_file file) octets
    × IsFaultyText (version_of bag) file octets
    (line_fault line cause)  -- sections 2.1.3, 2.2.1 to 2.2.3
HasFault bag (ManifestNotListed tag_manifest manifest) =
    (pairs : List Pair) × Lists bag (manifest_name Tag tag_manifest) pairs
    × IsThere bag (manifest_file Payload manifest)
    × (lists_path pairs (manifest_file Payload manifest) ≡ false)  -- section 2.2.1
HasFault bag OxumForm = (element : MetadataElement) × SaysOxum bag element
    × ((octets streams : ℕ) → ¬ OxumText element.value octets streams)  -- section 2.2.2
HasFault bag OxumTwice = (elements : List MetadataElement) × SaysInfo bag elements
    × (2 ≤ length (filter is_oxum elements))  -- section 2.2.2
HasFault bag (Missing manifest path) = (pairs : List Pair) × Lists bag manifest pairs
    × (lists_path pairs path ≡ true) × ¬ IsThere bag path  -- section 3
HasFault bag (Unlisted manifest path) = IsUnlisted (version_of bag) bag manifest path
    × IsThere bag path × (is_payload path ≡ true)  -- section 3
HasFault bag (FetchNotListed manifest path) = IsUnlisted (version_of bag) bag manifest path
    × ((line : FetchLine) × HasEntry bag line × (line.entry.path ≡ path))  -- section 2.2.3
HasFault bag (FetchLength number path) = (line : FetchLine) × HasEntry bag line
    × (line.line ≡ number) × (line.entry.path ≡ path)
    × ((length_given : ℕ) × (line.entry.octets ≡ Some length_given)
    × ((octets : List ℕ) × HoldsFile bag path octets
    × (length octets ≢ length_given)))  -- section 2.2.3
HasFault bag OxumWrong = (element : MetadataElement) × SaysOxum bag element
    × ((octets : ℕ) × ((streams : ℕ) × OxumText element.value octets streams
    × IsOtherPayload bag octets streams))  -- section 2.2.2
HasFault bag (WrongDigest manifest path) = (pairs : List Pair) × Lists bag manifest pairs
    × ((digest : Digest) × (listed_digest pairs path ≡ Some digest)
    × ((octets : List ℕ) × HoldsFile bag path octets
    × (hash manifest.alg octets ≢ digest)))  -- section 3

-- the bag has the fault, and its kind is one of these
abbrev pub HasFaultOf : Bag → List ℕ → Fault → Type 0
HasFaultOf bag kinds fault = HasFault bag fault
    × (list_any (λ kind. kind == number_of fault) kinds ≡ true)
