-- The bag that is written of a payload (RFC 8493 section 2), in terms of its files.
use Rattle.std.specs.Prelude.{◌≡◌, ◌⊎◌, ◌↔◌, ◌++◌, ◌∷◌, [], ℕ, List, codes, length, map, string_bytes, true}
use Rattle.std.specs.List.{filter, flat_map}
use Rattle.std.specs.Map.{lookup}
use Rattle.std.specs.Option.{option_map}
use Rattle.std.specs.Str.{bytes_eq}
use Rattle.bag_digest.specs.Algorithm.{has}
use Rattle.bag_digest.specs.Hash.{hash}
use Rattle.bag_digest.specs.declared.algorithm.Alg.{Alg}
use Rattle.bag_digest.specs.declared.algorithm.Alg.TheVariants.{Md5, Sha1, Sha256, Sha512}
use Rattle.bag_digest.specs.declared.algorithm.AlgSet.{AlgSet}
use Rattle.bag_tags.specs.Declarations.{written_declaration}
use Rattle.bag_tags.specs.FetchEntries.{FetchItem, fetch_item, written_entry}
use Rattle.bag_tags.specs.Infos.{MetadataElement, element, written_info}
use Rattle.bag_tags.specs.Listings.{pair}
use Rattle.bag_tags.specs.ManifestWriting.{written_manifest}
use Rattle.bag_tags.specs.Names.{manifest_file, text_file}
use Rattle.bag_tags.specs.Oxums.{written_oxum}
use Rattle.bag_tags.specs.declared.listing.Kind.{Kind}
use Rattle.bag_tags.specs.declared.listing.Kind.TheVariants.{Payload, Tag}
use Rattle.bag_tags.specs.declared.listing.Pair.{Pair}
use Rattle.bag_tags.specs.declared.name.LineFile.TheVariants.{Info, FetchList}
use Rattle.bag_rules.specs.Bags.{Bag, HoldsFile, declaration_file, octet_count, paths_of}
use Rattle.bag_rules.specs.Faults.{Has}
use Rattle.bag_rules.specs.Files.{Files}
use Rattle.bag_rules.specs.Trees.{AreRising}
use Rattle.bag_writer.specs.declared.spec.Hole.{Hole}
use Rattle.bag_writer.specs.declared.spec.Spec.{Spec}

-- TAG FILES, in the order of their names

-- `bag-info.txt`: the elements that were given and then the Oxum of the whole payload, including holes (section 2.2.2)
abbrev pub oxum_element : Files → MetadataElement
oxum_element payload =
    element (codes "Payload-Oxum") (written_oxum (octet_count payload) (length payload))

abbrev pub info_file : Spec → Files → List ℕ × List ℕ
info_file spec payload = (text_file Info, written_info (spec.info ++ oxum_element payload ∷ []))

-- `bagit.txt` (section 2.1.1)
abbrev pub bagit_file : List ℕ × List ℕ
bagit_file = (declaration_file, written_declaration)

-- `fetch.txt`, if there are holes: each with its length, in their order (section 2.2.3)
abbrev pub entry_of : Files → Hole → FetchItem
entry_of payload hole = fetch_item (string_bytes hole.url)
    (option_map length (lookup (bytes_eq hole.path) payload)) hole.path

abbrev pub fetch_files : Files → List Hole → Files
fetch_files payload [] = []
fetch_files payload (hole ∷ holes) = (
  text_file FetchList,
  flat_map (λ each. written_entry (entry_of payload each)) (hole ∷ holes),
) ∷ []

-- a manifest by this algorithm: each file with its digest (sections 2.1.3 and 2.2.1)
abbrev pub pairs_by : Alg → Files → List Pair
pairs_by alg files = map (λ (file : List ℕ × List ℕ). pair file.0 (hash alg file.1)) files

abbrev pub manifest_of : Kind → Files → Alg → List ℕ × List ℕ
manifest_of kind files alg = (manifest_file kind alg, written_manifest (pairs_by alg files))

abbrev pub algs_in : AlgSet → List Alg
algs_in set = filter (has set) (Md5 ∷ Sha1 ∷ Sha256 ∷ Sha512 ∷ [])

-- the tag files that tag manifests list: all but tag manifests
abbrev pub listed_tags : Spec → Files → Files
listed_tags spec payload =
    info_file spec payload ∷ bagit_file ∷ fetch_files payload spec.holes.items
    ++ map (manifest_of Payload payload) (algs_in spec.algs)

abbrev pub tag_files : Spec → Files → Files
tag_files spec payload = listed_tags spec payload
    ++ map (manifest_of Tag (listed_tags spec payload)) (algs_in spec.algs)

-- THE BAG

-- the file isn't written and has to be fetched
abbrev pub IsHole : Spec → List ℕ → Type 0
IsHole spec path = (hole : Hole) × Has spec.holes.items hole × (hole.path ≡ path)

-- a file of the bag: a payload file that isn't a hole, or a tag file
abbrev pub IsFileOf : Spec → Files → List ℕ → List ℕ → Type 0
IsFileOf spec payload path octets = (Has payload (path, octets) × ¬ IsHole spec path)
    ⊎ Has (tag_files spec payload) (path, octets)

-- the bag that is written of this payload
pub record IsWritten (spec : Spec) (payload : Files) (bag : Bag) : Type 0 where
  pub rising : AreRising (paths_of bag)
  pub has_payload_dir : bag.has_payload_dir ≡ true
  pub exact : (path octets : List ℕ) → HoldsFile bag path octets ↔ IsFileOf spec payload path octets
