-- A written bag whose holes are filled is valid.
use Rattle.std.proofs.Common.{◌≡◌, ◌∙◌, ◌≤◌, ℕ, Bool, true, false, not, List, [], Some, length, inl, inr, sym, ap, subst}
use Rattle.std.proofs.lemmas.List.Kept.{IsStrictlySortedBy-filter}
use Rattle.std.specs.List.{filter}
use Rattle.std.specs.List.Sorted.{IsStrictlySortedBy}
use Rattle.bag_rules.proofs.HasLemmas.{has_at, place_of_has}
use Rattle.bag_rules.proofs.SameListLemmas.{asymmetric, same_list, sorted_by_key}
use Rattle.bag_rules.proofs.TreeLemmas.{one_octets}
use Rattle.bag_rules.proofs.Words.{Alg, AlgSet, AreRising, Bag, cases_Bool, false≢true, Files, Has, has, hash, HoldsFile, is_oxum, is_payload, IsComplete, IsThere, IsValid, keys_of, Kind, listed_digest, Lists, lists_path, manifest_file, manifest_name, Md5, MetadataElement, nat_cmp, nat_list_cmp_total, OxumText, Pair, Payload, payload_of, SaysOxum, Sha1, Sha256, Sha512, slice_cmp, Tag}
use Rattle.bag_rules.specs.Bags.{octet_count, version_of}
use Rattle.bag_rules.specs.Listed.{IsListed}
use Rattle.bag_writer.proofs.ListedPairs.{digest_has, has_listed, listed_has}
use Rattle.bag_writer.proofs.PartBags.{declared, HasTags, lists_only, lists_so, manifest_octets, payload_path, tag_plain, version_is}
use Rattle.bag_writer.proofs.SaidElements.{elements, one_oxum, oxum_read, says_only, says_oxum, says_so}
use Rattle.bag_writer.proofs.SaidEntries.{entry_length, entry_path, fetches_so, lines}
use Rattle.bag_writer.proofs.TagCases.{files_in, has_filter, has_filtered, has_manifest, has_payload_manifest, listed_tag, tag_case}
use Rattle.bag_writer.proofs.TagNames.{tags_rise}
use Rattle.bag_writer.specs.FilledBags.{IsFilled, IsPayloadFor}
use Rattle.bag_writer.specs.WrittenBags.{IsHole, IsWritten, listed_tags, oxum_element, tag_files}
use Rattle.bag_writer.specs.declared.spec.Spec.{Spec}

-- SOME ALGORITHM

none_of : (set : AlgSet) → set.md5 ≡ false → set.sha1 ≡ false → set.sha256 ≡ false → set.sha512 ≡ false → (alg : Alg) → has set alg ≡ false
none_of set a b c d Md5 = a
none_of set a b c d Sha1 = b
none_of set a b c d Sha256 = c
none_of set a b c d Sha512 = d

pub some_alg : (set : AlgSet) → ¬ ((alg : Alg) → has set alg ≡ false) → (alg : Alg) × (has set alg ≡ true)
some_alg set some = elim (cases_Bool set.md5) [
  | inl h ↦ (Md5, h)
  | inr a ↦ elim (cases_Bool set.sha1) [
    | inl h ↦ (Sha1, h)
    | inr b ↦ elim (cases_Bool set.sha256) [
      | inl h ↦ (Sha256, h)
      | inr c ↦ elim (cases_Bool set.sha512) [ inl h ↦ (Sha512, h) | inr d ↦ absurd (some (none_of set a b c d)) ]
    ]
  ]
]

-- FILES BY PATH

abbrev File : Type 0
File = List ℕ × List ℕ

by_path : (files : Files) → AreRising (keys_of files) → IsStrictlySortedBy (λ (x : File) (y : File). slice_cmp nat_cmp x.0 y.0) files
by_path files rising = sorted_by_key (λ (file : File). file.0) (slice_cmp nat_cmp) files rising

-- two lists of files by path that contain the same files
pub same_files : (files others : Files) → AreRising (keys_of files) → AreRising (keys_of others) → (p : File → Bool) → ((file : File) → Has files file → p file ≡ true → Has others file) → ((file : File) → Has others file → Has files file × (p file ≡ true)) → filter p files ≡ others
same_files files others rising rises p to from =
    same_list (λ (x : File) (y : File). slice_cmp nat_cmp x.0 y.0) (λ x y. asymmetric nat_list_cmp_total x.0 y.0) (filter p files) others
    (IsStrictlySortedBy-filter (λ (x : File) (y : File). slice_cmp nat_cmp x.0 y.0) p files (by_path files rising)) (by_path others rises)
    (λ file h. (let k = has_filtered p files file h in to file k.0 k.1))
    (λ file h. (let k = from file h in has_filter p files file k.0 k.1))

module _ (spec : Spec) (payload : Files) (fits : IsPayloadFor spec payload) where
  -- the tag files of a bag that has these
  pub tags_of : (bag : Bag) → HasTags spec payload bag → filter (λ (file : File). not (is_payload file.0)) bag.files ≡ tag_files spec payload
  tags_of bag tags = same_files bag.files (tag_files spec payload) tags.rising (tags_rise spec payload) (λ (file : File). not (is_payload file.0))
      (λ file h plain. elim (tags.only file.0 file.1 (place_of_has bag.files file h)) [
        | inl item ↦ absurd (false≢true (sym (ap not (payload_path spec payload fits file.0 file.1 item).1) ∙ plain))
        | inr tag ↦ tag
      ])
      (λ file h. (let there = tags.there file.0 file.1 h in (has_at bag.files there.0 file there.1, ap not (tag_plain spec payload file.0 file.1 (tag_case spec payload file.0 file.1 h)))))

  -- WHAT MANIFESTS LIST

  module _ (bag : Bag) (tags : HasTags spec payload bag) where
    pub listed_all : (path octets : List ℕ) → Has payload (path, octets) → IsListed (version_of bag) bag path
    listed_all path octets h = subst (λ v. IsListed v bag path) (sym (version_is spec payload fits bag tags))
        (λ alg pairs lists. subst (λ ps. lists_path ps path ≡ true) (sym (lists_only spec payload fits bag tags (manifest_name Payload alg) pairs lists).1) (has_listed alg payload path octets h))

    pub manifest_listed : (tag alg : Alg) (pairs : List Pair) → Lists bag (manifest_name Tag tag) pairs → IsThere bag (manifest_file Payload alg) → lists_path pairs (manifest_file Payload alg) ≡ true
    manifest_listed tag alg pairs lists there =
        let is = manifest_octets spec payload fits bag tags (manifest_name Payload alg) there.0 there.1 in
        subst (λ ps. lists_path ps (manifest_file Payload alg) ≡ true) (sym (lists_only spec payload fits bag tags (manifest_name Tag tag) pairs lists).1)
        (has_listed tag (listed_tags spec payload) (manifest_file Payload alg) _ (has_payload_manifest spec payload alg is.0))

  module _ (bag : Bag) (filled : IsFilled spec payload bag) where
    pub tags : HasTags spec payload bag
    tags = record {
      rising = filled.rising;
      there = λ path octets h. (filled.exact path octets).1 (inr h);
      only = λ path octets holds. (filled.exact path octets).0 holds;
    }

    -- a payload file
    item_of : (path octets : List ℕ) → is_payload path ≡ true → HoldsFile bag path octets → Has payload (path, octets)
    item_of path octets is holds = elim ((filled.exact path octets).0 holds) [
      | inl item ↦ item
      | inr tag ↦ absurd (false≢true (sym (tag_plain spec payload path octets (tag_case spec payload path octets tag)) ∙ is))
    ]

    pub payload_is : payload_of bag.files ≡ payload
    payload_is = same_files bag.files payload filled.rising fits.rising (λ (file : File). is_payload file.0)
        (λ file h is. item_of file.0 file.1 is (place_of_has bag.files file h))
        (λ file h. (let there = (filled.exact file.0 file.1).1 (inl h) in (has_at bag.files there.0 file there.1, (payload_path spec payload fits file.0 file.1 h).1)))

    -- the files that a manifest lists
    listed_there : (kind : Kind) (path octets : List ℕ) → Has (files_in spec payload kind) (path, octets) → HoldsFile bag path octets
    listed_there Payload path octets h = (filled.exact path octets).1 (inl h)
    listed_there Tag path octets h = (filled.exact path octets).1 (inr (listed_tag spec payload path octets h))

    oxum_right : (element : MetadataElement) → SaysOxum bag element → OxumText element.value (octet_count (payload_of bag.files)) (length (payload_of bag.files))
    oxum_right element says =
        subst (λ (e : MetadataElement). OxumText e.value (octet_count (payload_of bag.files)) (length (payload_of bag.files))) (says_oxum spec payload fits bag tags element says)
        (subst (λ (files : Files). OxumText (oxum_element payload).value (octet_count files) (length files)) (sym payload_is) (oxum_read spec payload fits))

    complete : IsComplete bag
    complete = record {
      conforms = record {
        declared = declared spec payload fits bag tags;
        has_payload_dir = filled.has_payload_dir;
        has_manifest = (let some = some_alg spec.algs fits.accepted.has_algorithm in (some.0, (_, tags.there _ _ (has_manifest spec payload Payload some.0 some.1))));
        manifests_read = λ name there. (_, lists_so spec payload fits bag tags name (manifest_octets spec payload fits bag tags name there.0 there.1).0);
        info_reads = λ there. (elements spec payload fits, says_so spec payload fits bag tags);
        fetch_reads = λ there. (lines spec payload fits, fetches_so spec payload fits bag tags there);
        manifests_listed = manifest_listed bag tags;
        one_oxum = λ said says. subst (λ es. length (filter is_oxum es) ≤ 1) (sym (says_only spec payload fits bag tags said says)) (one_oxum spec payload fits);
        oxum_right = oxum_right;
        fetch_listed = λ line entry. (let file = entry_path spec payload fits bag tags line entry in listed_all bag tags line.entry.path file.0 file.1);
        fetch_lengths = λ line octets entry holds given gives. (
            let file = entry_path spec payload fits bag tags line entry in
            entry_length spec payload fits bag tags line octets entry (item_of line.entry.path octets (payload_path spec payload fits line.entry.path file.0 file.1).1 holds) given gives
            );
      };
      each_there = λ name pairs path lists listed. (
          let file = listed_has name.alg (files_in spec payload name.kind) path (subst (λ ps. lists_path ps path ≡ true) (lists_only spec payload fits bag tags name pairs lists).1 listed) in
          (file.0, listed_there name.kind path file.0 file.1)
          );
      each_listed = λ path there is. listed_all bag tags path there.0 (item_of path there.0 is there.1);
    }

    pub filled_valid : IsValid bag
    filled_valid = record {
      complete = complete;
      verified = λ name pairs path digest octets lists is holds. (
          let file = digest_has name.alg (files_in spec payload name.kind) path digest (subst (λ ps. listed_digest ps path ≡ Some digest) (lists_only spec payload fits bag tags name pairs lists).1 is) in
          ap (hash name.alg) (one_octets bag path octets file.0 filled.rising holds (listed_there name.kind path file.0 file.1)) ∙ file.2
          );
    }

-- WRITTEN BAGS

module _ (spec : Spec) (payload : Files) (bag : Bag) (written : IsWritten spec payload bag) where
  pub written_tags : HasTags spec payload bag
  written_tags = record {
    rising = written.rising;
    there = λ path octets h. (written.exact path octets).1 (inr h);
    only = λ path octets holds. elim ((written.exact path octets).0 holds) [ inl item ↦ inl item.0 | inr tag ↦ inr tag ];
  }

  no_hole : (path : List ℕ) → spec.holes.items ≡ [] → ¬ IsHole spec path
  no_hole path none (hole, h, is) = subst (λ holes. Has holes hole) none h

  pub filled_without : spec.holes.items ≡ [] → IsFilled spec payload bag
  filled_without none = record {
    rising = written.rising;
    has_payload_dir = written.has_payload_dir;
    exact = λ path octets. (
      λ holds. elim ((written.exact path octets).0 holds) [ inl item ↦ inl item.0 | inr tag ↦ inr tag ],
      λ h. (written.exact path octets).1 (elim h [ inl item ↦ inl (item, no_hole path none) | inr tag ↦ inr tag ]),
    );
  }
