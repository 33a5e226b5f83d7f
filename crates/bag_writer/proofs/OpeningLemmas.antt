-- The tag files of a written bag open, and what then passes.
use Rattle.std.proofs.Common.{◌≡◌, ◌≢◌, ◌∙◌, ◌++◌, ◌≤◌, ◌<◌, ◌==◌, ℕ, Bool, true, false, List, [], ◌∷◌, Some, length, map, inl, inr, refl, sym, ap, subst, arith, length-append}
use Rattle.std.specs.List.{filter, list_any}
use Rattle.bag_path.specs.Octets.{slash}
use Rattle.bag_path.specs.Lines.{lines_of}
use Rattle.bag_tags.proofs.ExactTexts.{no_elements, no_entries, no_pairs}
use Rattle.bag_tags.proofs.NameLemmas.{one_name}
use Rattle.bag_tags.proofs.WrittenLines.{fetch_lines, manifest_lines}
use Rattle.bag_tags.specs.declared.name.TagName.TheVariants as tag
use Rattle.bag_rules.proofs.HasLemmas.{has_at, has_map, place_of_has, all_of}
use Rattle.bag_rules.proofs.TreeLemmas.{one_octets}
use Rattle.bag_rules.proofs.VerdictLemmas.{declared_none}
use Rattle.bag_rules.proofs.Words.{Alg, AreTagFiles, Bag, cases_Bool, Digest, false≢true, FetchList, FetchText, file_of, Files, Has, has, hash, HoldsFile, Info, InfoText, is_payload, IsFaultyText, IsInScope, IsThere, IsUnknownManifest, keys_of, Kind, length-map, line_fault, LineFault, LineFile, listed_digest, Lists, lists_path, Manifest, manifest_file, manifest_name, ManifestText, Md5, MetadataElement, octet_count, is_oxum, OxumText, Pair, pair, Payload, Sha1, Sha256, Sha512, Tag, text_file}
use Rattle.bag_rules.specs.declared.fault.Fault.TheVariants.{BadDeclaration, BadLine, FetchLength, FetchNotListed, ManifestNotListed, Missing, NoDeclaration, NoManifest, NoPayloadDir, OxumForm, OxumTwice, OxumWrong, Unlisted, WrongDigest}
use Rattle.bag_rules.specs.Bags.{version_of}
use Rattle.bag_rules.specs.Files.{IsTagFile}
use Rattle.bag_rules.specs.Limits.{HasCountedLines}
use Rattle.bag_rules.specs.Listed.{IsListed, IsUnlisted}
use Rattle.bag_rules.specs.Opening.{FewLines, IsClash, NoOpeningFault, Opens}
use Rattle.bag_rules.specs.Transfers.{AreExpected, IsExpected, Passes, tag_bag}
use Rattle.bag_rules.specs.declared.limits.TheConstants.{LARGEST_ITEM, LARGEST_TAG_FILE, MOST_LINES}
use Rattle.bag_writer.proofs.FewHoles.{at_most, few_holes}
use Rattle.bag_writer.proofs.FilledLemmas.{listed_all, manifest_listed, some_alg}
use Rattle.bag_writer.proofs.ListedPairs.{can_be_written, digest_has, has_listed, listed_has}
use Rattle.bag_writer.proofs.PartBags.{declaration_there, declared, HasTags, lists_only, lists_so, manifest_named, manifest_octets, manifest_tag, may_be_listed, payload_path, tag_path, tag_plain, version_is}
use Rattle.bag_writer.proofs.SaidElements.{elements, few_files, one_oxum, oxum_read, says_only, says_oxum, says_so, short}
use Rattle.bag_writer.proofs.SaidEntries.{all_fetched, entry_length, entry_path, fetch_is, fetch_is_written, fetches_so, has_path, hole_file, line_of, lines, path_has, whole}
use Rattle.bag_writer.proofs.TagCases.{a_manifest, files_in, has_manifest, listed_tag, tag_case, TagCase, the_declaration, the_fetch, the_info}
use Rattle.bag_writer.proofs.TagNames.{tags_rise}
use Rattle.bag_writer.specs.FilledBags.{IsPayloadFor}
use Rattle.bag_writer.specs.WrittenBags.{algs_in, fetch_files, listed_tags, manifest_of, pairs_by, tag_files}
use Rattle.bag_writer.specs.declared.spec.Hole.{Hole}
use Rattle.bag_writer.specs.declared.spec.Spec.{Spec}
use Rattle.bag_writer.specs.declared.too_large.Large.TheVariants as large

abbrev File : Type 0
File = List ℕ × List ℕ

-- NAMES OF TAG FILES

manifest_known : (kind : Kind) (alg : Alg) → manifest_tag kind alg ≢ tag.UnknownManifest
unfolding manifest_tag
manifest_known Payload alg e = cc
manifest_known Tag alg e = cc

is_slash : ℕ → Bool
is_slash octet = octet == 47

has_slash : List ℕ → Bool
has_slash path = list_any is_slash path

manifest_flat : (kind : Kind) (alg : Alg) → has_slash (manifest_file kind alg) ≡ false
unfolding has_slash is_slash
manifest_flat Payload Md5 = refl
manifest_flat Payload Sha1 = refl
manifest_flat Payload Sha256 = refl
manifest_flat Payload Sha512 = refl
manifest_flat Tag Md5 = refl
manifest_flat Tag Sha1 = refl
manifest_flat Tag Sha256 = refl
manifest_flat Tag Sha512 = refl

manifest_front : (kind : Kind) (alg : Alg) (rest : List ℕ) → is_payload (manifest_file kind alg ++ rest) ≡ false
manifest_front Payload Md5 rest = refl
manifest_front Payload Sha1 rest = refl
manifest_front Payload Sha256 rest = refl
manifest_front Payload Sha512 rest = refl
manifest_front Tag Md5 rest = refl
manifest_front Tag Sha1 rest = refl
manifest_front Tag Sha256 rest = refl
manifest_front Tag Sha512 rest = refl

inside_slash : (path rest : List ℕ) → has_slash (path ++ slash ∷ rest) ≡ true
unfolding has_slash is_slash
inside_slash [] rest = refl
inside_slash (octet ∷ path) rest = elim (cases_Bool (octet == 47)) [
  | inl same ↦ rw same refl
  | inr other ↦ rw other (inside_slash path rest)
]

module _ (spec : Spec) (payload : Files) where
  unknown_case : (path word octets : List ℕ) → TagCase spec payload path octets → ¬ IsUnknownManifest path word
  unknown_case path word octets (the_info p o) u = let k : tag.Info ≡ tag.UnknownManifest = one_name path tag.Info tag.UnknownManifest p (word, u) in cc
  unknown_case path word octets (the_declaration p o) u = let k : tag.Declaration ≡ tag.UnknownManifest = one_name path tag.Declaration tag.UnknownManifest p (word, u) in cc
  unknown_case path word octets (the_fetch p o some) u = let k : tag.FetchList ≡ tag.UnknownManifest = one_name path tag.FetchList tag.UnknownManifest p (word, u) in cc
  unknown_case path word octets (a_manifest kind alg h p o) u = manifest_known kind alg (one_name path (manifest_tag kind alg) tag.UnknownManifest (manifest_named path kind alg p) (word, u))

  flat : (path octets : List ℕ) → TagCase spec payload path octets → has_slash path ≡ false
  unfolding has_slash is_slash
  flat path octets (the_info p o) = ap has_slash p
  flat path octets (the_declaration p o) = ap has_slash p
  flat path octets (the_fetch p o some) = ap has_slash p
  flat path octets (a_manifest kind alg h p o) = ap has_slash p ∙ manifest_flat kind alg

  plain_front : (path octets rest : List ℕ) → TagCase spec payload path octets → is_payload (path ++ rest) ≡ false
  plain_front path octets rest (the_info p o) = ap (λ q. is_payload (q ++ rest)) p
  plain_front path octets rest (the_declaration p o) = ap (λ q. is_payload (q ++ rest)) p
  plain_front path octets rest (the_fetch p o some) = ap (λ q. is_payload (q ++ rest)) p
  plain_front path octets rest (a_manifest kind alg h p o) = ap (λ q. is_payload (q ++ rest)) p ∙ manifest_front kind alg rest

  -- NUMBERS OF LINES

  one_fetch : (holes : List Hole) → length (fetch_files payload holes) ≤ 1
  one_fetch [] = omega arith
  one_fetch (hole ∷ holes) = omega arith

  pub few_listed : length (listed_tags spec payload) ≤ 7
  few_listed =
      let algs = at_most (has spec.algs) (Md5 ∷ Sha1 ∷ Sha256 ∷ Sha512 ∷ []) in
      let manifests = length-map (algs_in spec.algs) (manifest_of Payload payload) in
      let both = length-append (fetch_files payload spec.holes.items) (map (manifest_of Payload payload) (algs_in spec.algs)) in
      let fetch = one_fetch spec.holes.items in
      omega (arith, algs, manifests, both, fetch)

module _ (spec : Spec) (payload : Files) (fits : IsPayloadFor spec payload) where
  few_in : (kind : Kind) → length (files_in spec payload kind) ≤ 100000
  few_in Payload = few_files spec payload fits
  few_in Tag = let few = few_listed spec payload in omega (arith, few)

  holes_few : length spec.holes.items ≤ 100000
  holes_few =
      let fewer = few_holes spec.holes.items (keys_of payload) (λ i hole at before. fits.accepted.holes i (hole, at, inr (inr before)))
      (λ hole h. (let file = hole_file spec payload fits hole h in has_map (λ (file : File). file.0) payload (hole.path, file.0) file.1)) in
      let keys = length-map payload (λ (file : File). file.0) in
      let few = few_files spec payload fits in
      omega (arith, fewer, keys, few)

  -- a manifest or `fetch.txt` has few lines
  pub few_in_text : (bag : Bag) (tags : HasTags spec payload bag) (file : LineFile) (octets : List ℕ) → HoldsFile bag (text_file file) octets → HasCountedLines file → ¬ (MOST_LINES < length (lines_of octets))
  few_in_text bag tags Info octets holds counted many = counted
  few_in_text bag tags FetchList octets holds counted many =
      let e = (fetch_is_written spec payload fits bag tags octets holds).0 in
      let f = fetch_lines (map (line_of payload) spec.holes.items) (all_fetched spec payload fits spec.holes.items (λ hole h. h)) in
      let g : length (lines_of octets) ≡ length spec.holes.items = ap (λ o. length (lines_of o)) (e ∙ fetch_is payload spec.holes.items) ∙ f ∙ length-map spec.holes.items (line_of payload) in
      let few = holes_few in
      let more : 100000 < length (lines_of octets) = many in
      omega (arith, g, few, more)
  few_in_text bag tags (Manifest name) octets holds counted many =
      let e = (manifest_octets spec payload fits bag tags name octets holds).1 in
      let f = manifest_lines (pairs_by name.alg (files_in spec payload name.kind)) (can_be_written name.alg name.kind (files_in spec payload name.kind) (may_be_listed spec payload fits name.kind)) in
      let g : length (lines_of octets) ≡ length (files_in spec payload name.kind) = ap (λ o. length (lines_of o)) e ∙ f ∙ length-map (files_in spec payload name.kind) (λ (file : File). pair file.0 (hash name.alg file.1)) in
      let few = few_in name.kind in
      let more : 100000 < length (lines_of octets) = many in
      omega (arith, g, few, more)

  -- THE TAG FILES ALONE

  abbrev alone : Bag
  alone = tag_bag (tag_files spec payload)

  here : (path octets : List ℕ) → HoldsFile alone path octets → Has (tag_files spec payload) (path, octets)
  here path octets holds = has_at (tag_files spec payload) holds.0 (path, octets) holds.1

  tags : HasTags spec payload alone
  tags = record {
    rising = tags_rise spec payload;
    there = λ path octets h. place_of_has (tag_files spec payload) (path, octets) h;
    only = λ path octets holds. inr (here path octets holds);
  }

  case_here : (path octets : List ℕ) → HoldsFile alone path octets → TagCase spec payload path octets
  case_here path octets holds = tag_case spec payload path octets (here path octets holds)

  -- no payload file is there
  no_item : (path octets other : List ℕ) → Has payload (path, octets) → ¬ HoldsFile alone path other
  no_item path octets other h holds = false≢true (sym (tag_plain spec payload path other (case_here path other holds)) ∙ (payload_path spec payload fits path octets h).1)

  pub are_tag_files : AreTagFiles (tag_files spec payload)
  are_tag_files = record {
    rising = tags_rise spec payload;
    each = all_of IsTagFile (tag_files spec payload) (λ file h. (
      (tag_path spec payload file.0 file.1 (tag_case spec payload file.0 file.1 h), tag_plain spec payload file.0 file.1 (tag_case spec payload file.0 file.1 h)),
      short (tag_files spec payload) LARGEST_TAG_FILE (λ long. fits.not_too_large (large.TagFile long.0, long.1)) file.0 file.1 h,
    ));
  }

  -- LINES

  few_lines : FewLines (tag_files spec payload)
  few_lines path (file, (octets, is, holds, counted, many)) = few_in_text alone tags file octets (subst (λ p. HoldsFile alone p octets) is holds) counted many

  -- WHAT IS EXPECTED

  pub expected_has : (path : List ℕ) → IsExpected (tag_files spec payload) path → (octets : List ℕ) × Has payload (path, octets)
  expected_has path (alg, (pairs, lists, listed)) = listed_has alg payload path
      (subst (λ ps. lists_path ps path ≡ true) (lists_only spec payload fits alone tags (manifest_name Payload alg) pairs lists).1 listed)

  pub has_expected : (path octets : List ℕ) → Has payload (path, octets) → IsExpected (tag_files spec payload) path
  has_expected path octets h =
      let some = some_alg spec.algs fits.accepted.has_algorithm in
      (some.0, (pairs_by some.0 payload, lists_so spec payload fits alone tags (manifest_name Payload some.0) some.1, has_listed some.0 payload path octets h))

  pub are_expected : AreExpected (tag_files spec payload) (keys_of payload)
  are_expected = record {
    rising = fits.rising;
    exact = λ path. (
      λ found. (let file = has_path spec payload fits path found in has_expected path file.0 file.1),
      λ expected. (let file = expected_has path expected in path_has spec payload fits path file.0 file.1),
    );
  }

  one_item : (path a b : List ℕ) → Has payload (path, a) → Has payload (path, b) → a ≡ b
  one_item path a b p q = one_octets (whole spec payload fits) path a b fits.rising (place_of_has payload (path, a) p) (place_of_has payload (path, b) q)

  pub passes : (path content : List ℕ) → Has payload (path, content) → length content ≤ LARGEST_ITEM → Passes (tag_files spec payload) path content
  passes path content h within = record {
    expected = has_expected path content h;
    within = within;
    digests = λ alg pairs digest lists some. (
        let file = digest_has alg payload path digest (subst (λ ps. listed_digest ps path ≡ Some digest) (lists_only spec payload fits alone tags (manifest_name Payload alg) pairs lists).1 some) in
        ap (hash alg) (one_item path content file.0 h file.1) ∙ file.2
        );
    lengths = λ line entry named given gives. entry_length spec payload fits alone tags line content entry (subst (λ p. Has payload (p, content)) (sym named) h) given gives;
  }

  -- FAULTS

  -- for a listed path nothing is reported
  never_unlisted : (alg : Alg) (path octets : List ℕ) → Has payload (path, octets) → ¬ IsUnlisted (version_of alone) alone alg path
  never_unlisted alg path octets h unlisted =
      let is = version_is spec payload fits alone tags in
      let no = subst (λ v. IsUnlisted v alone alg path) is unlisted in
      let all = subst (λ v. IsListed v alone path) is (listed_all spec payload fits alone tags path octets h) in
      false≢true (sym no.2 ∙ all alg no.0 no.1)

  -- a text that is written has no faulty line
  reads_well : (file : LineFile) (octets : List ℕ) (fault : LineFault) → HoldsFile alone (text_file file) octets → ¬ IsFaultyText (version_of alone) file octets fault
  reads_well Info octets fault holds bad =
      let says = says_so spec payload fits alone tags in
      no_elements (version_of alone) octets (elements spec payload fits) fault
      (subst (λ o. InfoText (version_of alone) o (elements spec payload fits)) (one_octets alone (text_file Info) says.octets octets tags.rising says.there holds) says.text) bad
  reads_well FetchList octets fault holds bad =
      let lists = fetches_so spec payload fits alone tags (octets, holds) in
      no_entries (version_of alone) octets (lines spec payload fits) fault
      (subst (λ o. FetchText (version_of alone) o (lines spec payload fits)) (one_octets alone (text_file FetchList) lists.octets octets tags.rising lists.there holds) lists.text) bad
  reads_well (Manifest name) octets fault holds bad =
      let pairs = pairs_by name.alg (files_in spec payload name.kind) in
      let lists = lists_so spec payload fits alone tags name (manifest_octets spec payload fits alone tags name octets holds).0 in
      no_pairs (version_of alone) name.alg name.kind octets (pairs_by name.alg (files_in spec payload name.kind)) fault
      (subst (λ o. ManifestText (version_of alone) name.alg name.kind o (pairs_by name.alg (files_in spec payload name.kind))) (one_octets alone (file_of name) lists.octets octets tags.rising lists.there holds) lists.text) bad

  -- the files that a tag manifest lists are there
  none_missing : (kind : Kind) (alg : Alg) (path : List ℕ) (pairs : List Pair) → Lists alone (manifest_name kind alg) pairs → lists_path pairs path ≡ true → ¬ IsThere alone path → kind ≡ Payload
  none_missing Payload alg path pairs lists listed absent = refl
  none_missing Tag alg path pairs lists listed absent =
      let file = listed_has alg (listed_tags spec payload) path (subst (λ ps. lists_path ps path ≡ true) (lists_only spec payload fits alone tags (manifest_name Tag alg) pairs lists).1 listed) in
      absurd (absent (file.0, tags.there path file.0 (listed_tag spec payload path file.0 file.1)))

  -- these files have their listed digests
  none_wrong : (kind : Kind) (alg : Alg) (path octets : List ℕ) (pairs : List Pair) (digest : Digest) → Lists alone (manifest_name kind alg) pairs → listed_digest pairs path ≡ Some digest → HoldsFile alone path octets → hash alg octets ≡ digest
  none_wrong Payload alg path octets pairs digest lists some holds =
      let file = digest_has alg payload path digest (subst (λ ps. listed_digest ps path ≡ Some digest) (lists_only spec payload fits alone tags (manifest_name Payload alg) pairs lists).1 some) in
      absurd (no_item path file.0 octets file.1 holds)
  none_wrong Tag alg path octets pairs digest lists some holds =
      let file = digest_has alg (listed_tags spec payload) path digest (subst (λ ps. listed_digest ps path ≡ Some digest) (lists_only spec payload fits alone tags (manifest_name Tag alg) pairs lists).1 some) in
      ap (hash alg) (one_octets alone path octets file.0 tags.rising holds (tags.there path file.0 (listed_tag spec payload path file.0 file.1))) ∙ file.2

  no_fault : NoOpeningFault (tag_files spec payload)
  no_fault NoDeclaration h = h.0 (_, declaration_there spec payload fits alone tags)
  no_fault (BadDeclaration cause) h =
      let is = declared spec payload fits alone tags in
      declared_none alone is.declaration tags.rising is.declares (BadDeclaration cause) (omega arith) h.0
  no_fault NoPayloadDir h = let k : true ≡ false = h.0 in cc
  no_fault NoManifest h =
      let some = some_alg spec.algs fits.accepted.has_algorithm in
      h.0 some.0 (_, tags.there _ _ (has_manifest spec payload Payload some.0 some.1))
  no_fault (BadLine file line cause) ((octets, holds, bad), mended) = reads_well file octets (line_fault line cause) holds bad
  no_fault (ManifestNotListed tag_alg alg) ((pairs, lists, there, unlisted), mended) = false≢true (sym unlisted ∙ manifest_listed spec payload fits alone tags tag_alg alg pairs lists there)
  no_fault OxumForm ((element, says, none), mended) = none (octet_count payload) (length payload)
      (subst (λ (e : MetadataElement). OxumText e.value (octet_count payload) (length payload)) (says_oxum spec payload fits alone tags element says) (oxum_read spec payload fits))
  no_fault OxumTwice ((said, says, twice), mended) =
      let one = subst (λ es. length (filter is_oxum es) ≤ 1) (sym (says_only spec payload fits alone tags said says)) (one_oxum spec payload fits) in
      omega (arith, one, twice)
  no_fault (Missing name path) ((pairs, lists, listed, absent), mended) = mended (none_missing name.kind name.alg path pairs lists listed absent)
  no_fault (Unlisted alg path) (expected, unlisted) = let file = expected_has path expected in never_unlisted alg path file.0 file.1 unlisted
  no_fault (FetchNotListed alg path) ((unlisted, (line, entry, named)), mended) =
      let file = entry_path spec payload fits alone tags line entry in
      never_unlisted alg path file.0 (subst (λ p. Has payload (p, file.0)) named file.1) unlisted
  no_fault (FetchLength number path) ((line, entry, numbered, named, (given, gives, (octets, holds, other))), mended) =
      let file = entry_path spec payload fits alone tags line entry in
      no_item path file.0 octets (subst (λ p. Has payload (p, file.0)) named file.1) holds
  no_fault OxumWrong h = h.1 tt
  no_fault (WrongDigest name path) ((pairs, lists, (digest, some, (octets, holds, other))), mended) = other (none_wrong name.kind name.alg path octets pairs digest lists some holds)

  -- THE SCOPE

  in_scope : IsInScope alone
  in_scope = record {
    declared = declared spec payload fits alone tags;
    known = λ path word there u. unknown_case spec payload path word there.0 (case_here path there.0 there.1) u;
  }

  -- CLASHES

  inside_tag : (path octets rest : List ℕ) → TagCase spec payload (path ++ slash ∷ rest) octets → ⊥
  inside_tag path octets rest is = false≢true (sym (flat spec payload (path ++ slash ∷ rest) octets is) ∙ inside_slash path rest)

  no_clash : (path : List ℕ) → ¬ IsClash (tag_files spec payload) path
  no_clash path (is, (other, inl there, (rest, e))) = inside_tag path there.0 rest (subst (λ p. TagCase spec payload p there.0) e (case_here other there.0 there.1))
  no_clash path (inl there, (other, inr expected, (rest, e))) =
      let file = expected_has other expected in
      let payload_other = (payload_path spec payload fits other file.0 file.1).1 in
      false≢true (sym (plain_front spec payload path there.0 (slash ∷ rest) (case_here path there.0 there.1)) ∙ sym (ap is_payload e) ∙ payload_other)
  no_clash path (inr expects, (other, inr expected, (rest, e))) =
      let file = expected_has other expected in
      let folder = expected_has path expects in
      fits.accepted.no_clash path (path_has spec payload fits path folder.0 folder.1, (other, path_has spec payload fits other file.0 file.1, (rest, e)))

  pub opens : Opens (tag_files spec payload)
  opens = record { few_lines = few_lines; in_scope = in_scope; no_fault = no_fault; no_clash = no_clash }
