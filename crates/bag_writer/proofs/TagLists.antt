-- What can be listed of a payload of which a bag can be written, and of its tag files.
use Rattle.std.proofs.Common.{◌≡◌, ◌<◌, ◌++◌, ◌∷◌, [], ℕ, List, ap, arith, get_or, lit<, map, refl, inl, inr}
use Rattle.std.specs.List.{AllByRecursion}
use Rattle.bag_tags.specs.Listings.{IsInPlace}
use Rattle.bag_tags.specs.Names.{manifest_file, tag_manifest, text_file}
use Rattle.bag_tags.specs.declared.name.LineFile.TheVariants.{FetchList, Info}
use Rattle.bag_rules.proofs.Words.{Alg, Files, Md5, Payload, Sha1, Sha256, Sha512, Tag, declaration_file, keys_of}
use Rattle.bag_rules.proofs.HasLemmas.{place_of_has}
use Rattle.bag_writer.specs.Steps.{IsWritable}
use Rattle.bag_writer.specs.TagWriting.{CanBeFetched, CanBeListed}
use Rattle.bag_writer.specs.WrittenBags.{algs_in, fetch_files, listed_tags, manifest_of}
use Rattle.bag_writer.specs.declared.spec.Hole.{Hole}
use Rattle.bag_writer.specs.declared.spec.Spec.{Spec}
use Rattle.bag_writer.proofs.TagNames.{listed_rise}

pub payload_listed : (spec : Spec) (payload : Files) → IsWritable spec payload → CanBeListed Payload payload
payload_listed spec payload writable = record { rising = writable.rising; in_place = writable.payload_paths }

pub holes_fetched : (spec : Spec) (payload : Files) → IsWritable spec payload → CanBeFetched payload spec.holes.items
holes_fetched spec payload writable = record {
  rising = writable.rising;
  payload_paths = writable.payload_paths;
  there = λ hole given absent. (let place = place_of_has spec.holes.items hole given in writable.accepted.holes place.0 (hole, place.1, inl absent));
  urls = λ hole given none. (let place = place_of_has spec.holes.items hole given in writable.accepted.holes place.0 (hole, place.1, inr (inl none)));
}

-- THE TAG FILES THAT TAG MANIFESTS LIST

abbrev IsInTags : List ℕ → Type 0
IsInTags path = IsInPlace Tag path

-- a tag manifest's name begins with a `t`
no_tag_manifest : (path word : List ℕ) (octet : ℕ) → get_or path 0 0 ≡ octet → octet < 116 → path ≡ tag_manifest word → ⊥
no_tag_manifest path word octet first less is =
    let begins : get_or path 0 0 ≡ 116 = ap (λ (p : List ℕ). get_or p 0 0) is in
    omega (arith, first, begins, less)

manifest_in_tags : (alg : Alg) → IsInTags (manifest_file Payload alg)
manifest_in_tags Md5 = (refl, λ tag. no_tag_manifest (manifest_file Payload Md5) tag.0 109 refl (lit< tt) tag.2)
manifest_in_tags Sha1 = (refl, λ tag. no_tag_manifest (manifest_file Payload Sha1) tag.0 109 refl (lit< tt) tag.2)
manifest_in_tags Sha256 = (refl, λ tag. no_tag_manifest (manifest_file Payload Sha256) tag.0 109 refl (lit< tt) tag.2)
manifest_in_tags Sha512 = (refl, λ tag. no_tag_manifest (manifest_file Payload Sha512) tag.0 109 refl (lit< tt) tag.2)

manifests_in_tags : (payload : Files) (algs : List Alg) → AllByRecursion IsInTags (keys_of (map (manifest_of Payload payload) algs))
manifests_in_tags payload [] = tt
manifests_in_tags payload (alg ∷ algs) = (manifest_in_tags alg, manifests_in_tags payload algs)

fetch_in_tags : (payload : Files) (holes : List Hole) (more : Files) → AllByRecursion IsInTags (keys_of more) → AllByRecursion IsInTags (keys_of (fetch_files payload holes ++ more))
fetch_in_tags payload [] more all = all
fetch_in_tags payload (hole ∷ holes) more all = ((refl, λ tag. no_tag_manifest (text_file FetchList) tag.0 102 refl (lit< tt) tag.2), all)

pub tags_listed : (spec : Spec) (payload : Files) → CanBeListed Tag (listed_tags spec payload)
tags_listed spec payload = record {
  rising = listed_rise spec payload;
  in_place = (
    (refl, λ tag. no_tag_manifest (text_file Info) tag.0 98 refl (lit< tt) tag.2),
    (
      (refl, λ tag. no_tag_manifest declaration_file tag.0 98 refl (lit< tt) tag.2),
      fetch_in_tags payload spec.holes.items (map (manifest_of Payload payload) (algs_in spec.algs)) (manifests_in_tags payload (algs_in spec.algs)),
    ),
  );
}
