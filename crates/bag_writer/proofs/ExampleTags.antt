-- The tag files of worked payloads.
use Rattle.std.proofs.Common.{◌≡◌, ◌∙◌, ◌++◌, ℕ, List, [], ◌∷◌, codes, length, map, refl, ap, string_bytes}
use Rattle.std.specs.Fmt.{digits}
use Rattle.bag_path.specs.Octets.{lf}
use Rattle.bag_rules.proofs.Words.{AlgSet, FetchList, Files, Info, lookup, bytes_eq, MetadataElement, Md5, option_map, Payload, Sha256, Sha512, Tag, text_file}
use Rattle.bag_rules.specs.Bags.{octet_count}
use Rattle.bag_tags.specs.FetchEntries.{fetch_item, written_entry}
use Rattle.bag_tags.specs.Infos.{element, written_info}
use Rattle.bag_writer.proofs.ExampleLengths.{manifest_length}
use Rattle.bag_writer.specs.ExampleBags.{file_e, IsPlainExample, IsWithHole, lengths_of, payload_of_two}
use Rattle.bag_writer.specs.WrittenBags.{algs_in, bagit_file, fetch_files, info_file, manifest_of, oxum_element, tag_files}
use Rattle.bag_writer.specs.declared.spec.Hole.{Hole}
use Rattle.bag_writer.specs.declared.spec.Spec.{Spec}

abbrev File : Type 0
File = List ℕ × List ℕ

-- THE PARTS

info_of : List MetadataElement → Files → List ℕ
info_of elements payload = written_info (elements ++ oxum_element payload ∷ [])

info_two : info_of (element (codes "Source-Organization") (codes "Test") ∷ []) payload_of_two ≡ codes "Source-Organization: Test" ++ lf ∷ codes "Payload-Oxum: 3.2" ++ lf ∷ []
unfolding info_of octet_count digits
info_two = refl

info_none : info_of [] [] ≡ codes "Payload-Oxum: 0.0" ++ lf ∷ []
unfolding info_of octet_count digits
info_none = refl

fetch_of : List ℕ → List ℕ → List ℕ
fetch_of url path = written_entry (fetch_item url (option_map length (lookup (bytes_eq path) payload_of_two)) path) ++ []

fetch_two : fetch_of (codes "http://example.org/e") file_e ≡ codes "http://example.org/e 0 data/e.txt" ++ lf ∷ []
unfolding fetch_of digits
fetch_two = refl

-- THE TAG FILES, by their parts

abbrev listed_by : AlgSet → List MetadataElement → List Hole → Files → Files
listed_by set elements holes payload = ((text_file Info, info_of elements payload) ∷ bagit_file ∷ fetch_files payload holes) ++ map (manifest_of Payload payload) (algs_in set)

abbrev tags_by : AlgSet → List MetadataElement → List Hole → Files → Files
tags_by set elements holes payload = listed_by set elements holes payload ++ map (manifest_of Tag (listed_by set elements holes payload)) (algs_in set)

parted : (spec : Spec) (payload : Files) → tag_files spec payload ≡ tags_by spec.algs spec.info spec.holes.items payload
unfolding info_of
parted spec payload = refl

-- with a hole
abbrev listed_two : List ℕ → List ℕ → Files
listed_two info fetch = (text_file Info, info) ∷ bagit_file ∷ (text_file FetchList, fetch) ∷ manifest_of Payload payload_of_two Md5 ∷ manifest_of Payload payload_of_two Sha512 ∷ []

abbrev tags_two : List ℕ → List ℕ → Files
tags_two info fetch = listed_two info fetch ++ manifest_of Tag (listed_two info fetch) Md5 ∷ manifest_of Tag (listed_two info fetch) Sha512 ∷ []

module _ (spec : Spec) (is : IsWithHole spec) where
  entry_two : fetch_of (string_bytes is.hole.url) is.hole.path ≡ codes "http://example.org/e 0 data/e.txt" ++ lf ∷ []
  entry_two = (λ t. fetch_of (is.url t) (is.path t)) ∙ fetch_two

  pub info_text : (info_file spec payload_of_two).1 ≡ codes "Source-Organization: Test" ++ lf ∷ codes "Payload-Oxum: 3.2" ++ lf ∷ []
  unfolding info_of
  info_text = (λ t. info_of (is.info t) payload_of_two) ∙ info_two

  pub fetch_text : fetch_files payload_of_two spec.holes.items ≡ (codes "fetch.txt", codes "http://example.org/e 0 data/e.txt" ++ lf ∷ []) ∷ []
  unfolding fetch_of
  fetch_text = (λ t. fetch_files payload_of_two (is.holes t)) ∙ (λ t. (codes "fetch.txt", entry_two t) ∷ [])

  tags_are : tag_files spec payload_of_two ≡ tags_two (codes "Source-Organization: Test" ++ lf ∷ codes "Payload-Oxum: 3.2" ++ lf ∷ []) (codes "http://example.org/e 0 data/e.txt" ++ lf ∷ [])
  unfolding fetch_of
  tags_are = parted spec payload_of_two ∙ (λ t. tags_by (is.algs t) (is.info t) (is.holes t) payload_of_two) ∙ (λ t. tags_two (info_two t) (entry_two t))

  pub lengths_two : lengths_of (tag_files spec payload_of_two) ≡ (codes "bag-info.txt", 44) ∷ (codes "bagit.txt", 54) ∷ (codes "fetch.txt", 34) ∷ (codes "manifest-md5.txt", 90) ∷ (codes "manifest-sha512.txt", 282) ∷ (codes "tagmanifest-md5.txt", 240) ∷ (codes "tagmanifest-sha512.txt", 720) ∷ []
  lengths_two =
      let info = codes "Source-Organization: Test" ++ lf ∷ codes "Payload-Oxum: 3.2" ++ lf ∷ [] in
      let fetch = codes "http://example.org/e 0 data/e.txt" ++ lf ∷ [] in
      ap lengths_of tags_are
      ∙ (λ t. (codes "bag-info.txt", 44) ∷ (codes "bagit.txt", 54) ∷ (codes "fetch.txt", 34)
      ∷ (codes "manifest-md5.txt", manifest_length Md5 payload_of_two t) ∷ (codes "manifest-sha512.txt", manifest_length Sha512 payload_of_two t)
      ∷ (codes "tagmanifest-md5.txt", manifest_length Md5 (listed_two info fetch) t) ∷ (codes "tagmanifest-sha512.txt", manifest_length Sha512 (listed_two info fetch) t) ∷ [])

-- without files
abbrev listed_none : List ℕ → Files
listed_none info = (text_file Info, info) ∷ bagit_file ∷ manifest_of Payload [] Sha256 ∷ []

abbrev tags_none : List ℕ → Files
tags_none info = listed_none info ++ manifest_of Tag (listed_none info) Sha256 ∷ []

pub lengths_none : (spec : Spec) → IsPlainExample spec → lengths_of (tag_files spec []) ≡ (codes "bag-info.txt", 18) ∷ (codes "bagit.txt", 54) ∷ (codes "manifest-sha256.txt", 0) ∷ (codes "tagmanifest-sha256.txt", 241) ∷ []
lengths_none spec is =
    let info = codes "Payload-Oxum: 0.0" ++ lf ∷ [] in
    ap lengths_of (parted spec [] ∙ (λ t. tags_by (is.algs t) (is.info t) (is.holes t) []) ∙ (λ t. tags_none (info_none t)))
    ∙ (λ t. (codes "bag-info.txt", 18) ∷ (codes "bagit.txt", 54) ∷ (codes "manifest-sha256.txt", manifest_length Sha256 [] t) ∷ (codes "tagmanifest-sha256.txt", manifest_length Sha256 (listed_none info) t) ∷ [])
