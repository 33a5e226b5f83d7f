-- The texts of the tag files, made line by line.
use Rattle.std.proofs.Common.{◌≡◌, ◌∙◌, ◌<◌, ◌+◌, ◌++◌, ◌∷◌, ◌==◌, [], ℕ, Bool, true, false, List, None, Option, Some, Contains, Err, append-nil, cond, drop, get_or, length, map, slice_get, string_bytes, suc, take, zero, refl, sym, ap, subst, inl, inr}
use Rattle.std.specs.List.{AllByRecursion, filter}
use Rattle.std.specs.List.Sorted.{IsBinarySearchResult, IsSearchInRange}
use Rattle.std.specs.Option.{option_map}
use Rattle.std.proofs.lemmas.List.{drop_more, map-append, take-append-drop, take_more}
use Rattle.std.proofs.lemmas.List.Concat.{flat_map-append}
use Rattle.std.proofs.lemmas.List.Elements.{filter-append, filter_more}
use Rattle.bag_digest.specs.declared.algorithm.TheConstants.Alg.{ALL}
use Rattle.bag_rules.proofs.Words.{Alg, AlgSet, AreRising, Bag, Digest, FetchLine, FetchList, Files, Has, Kind, Listing, Pair, bytes_eq, digest_in, false≢true, get_or_from_slice_get, take-length, has, hash, is_payload, keys_of, lookup, pair, text_file, with_pair}
use Rattle.bag_rules.proofs.EachLemmas.{stands_at}
use Rattle.bag_rules.proofs.HasLemmas.{has_at}
use Rattle.bag_rules.proofs.RisingPaths.{place_of}
use Rattle.bag_rules.proofs.SearchLemmas.{against, told}
use Rattle.bag_rules.proofs.TreeLemmas.{text_of}
use Rattle.bag_tags.specs.FetchEntries.{FetchItem, fetch_item, written_entry}
use Rattle.bag_tags.specs.Fetches.{fetch_line, written_fetch, written_line}
use Rattle.bag_tags.specs.Listings.{Admits}
use Rattle.bag_tags.specs.ManifestWriting.{written_manifest}
use Rattle.bag_writer.specs.Steps.{AreItemsOf, IsItemOf}
use Rattle.bag_writer.specs.TagWriting.{CanBeFetched, CanBeListed}
use Rattle.bag_writer.specs.WrittenBags.{algs_in, entry_of, fetch_files, manifest_of, pairs_by}
use Rattle.bag_writer.specs.declared.item.Item.{Item}
use Rattle.bag_writer.specs.declared.spec.Hole.{Hole}
use Rattle.bag_writer.proofs.ItemLemmas.{File, each_at, item_at, item_digest, items_paths, not_before}
use Rattle.bag_digest.proofs.WholeDigests.{digest_by}
use Rattle.bag_writer.proofs.TagCases.{fetch_octets}

-- ENTRIES OF `fetch.txt`

abbrev pub path_of : Item → List ℕ
path_of item = item.path

module _ (set : AlgSet) (items : List Item) (payload : Files) (are : AreItemsOf set items payload) where
  paths_rise : AreRising (keys_of payload) → AreRising (map path_of items)
  paths_rise rising = subst AreRising (sym (items_paths set items payload are)) rising

  -- a search among the items doesn't miss the path of a payload file
  pub not_missed : (path : List ℕ) (i : ℕ) → AreRising (keys_of payload) → IsSearchInRange (Err i) (length items) → IsBinarySearchResult (against path_of items path) items (Err i) → (Contains (keys_of payload) path → ⊥)
  not_missed path i rising within parted contains =
      let found = told path_of items path (paths_rise rising) (Err i) within parted in
      false≢true (found.1 (subst (λ (paths : List (List ℕ)). Contains paths path) (sym (items_paths set items payload are)) contains))

  -- the entry of a hole
  pub entry_is : (hole : Hole) (i : ℕ) (item : Item) → AreRising (keys_of payload) → slice_get items i ≡ Some item → item.path ≡ hole.path → fetch_item (string_bytes hole.url) (Some item.sums.length) hole.path ≡ entry_of payload hole
  entry_is hole i item rising there same =
      let at = item_at set items payload i item are there in
      let file = at.0 in
      let path_is : file.0 ≡ hole.path = sym at.2.path_is ∙ same in
      let bag : Bag = record { files = payload; has_payload_dir = true } in
      let place : slice_get payload i ≡ Some (hole.path, file.1) = at.1 ∙ ap (λ (p : List ℕ). Some (p, file.1)) path_is in
      let found : lookup (bytes_eq hole.path) payload ≡ Some file.1 = text_of bag hole.path file.1 rising (i, place) in
      let octets_are : item.sums.length ≡ length file.1 = at.2.sums.0 in
      ap (λ (n : ℕ). fetch_item (string_bytes hole.url) (Some n) hole.path) octets_are
      ∙ ap (λ (octets : Option (List ℕ)). fetch_item (string_bytes hole.url) (option_map length octets) hole.path) (sym found)

  -- the entry of a hole as it is made from what a search found
  pub entry_found : (hole : Hole) (i : ℕ) (item d : Item) (entry : FetchItem) (url path : List ℕ) → AreRising (keys_of payload) → slice_get items i ≡ Some item → item.path ≡ hole.path → url ≡ string_bytes hole.url → path ≡ hole.path → entry ≡ fetch_item url (Some (get_or items i d).sums.length) path → entry ≡ entry_of payload hole
  entry_found hole i item d entry url path rising there same url_is path_is made =
      let here : get_or items i d ≡ item = get_or_from_slice_get items i item d there in
      made ∙ (λ t. fetch_item (url_is t) (Some (here t).sums.length) (path_is t)) ∙ entry_is hole i item rising there same

all_at : (P : List ℕ → Type 0) (paths : List (List ℕ)) (i : ℕ) (path : List ℕ) → AllByRecursion P paths → slice_get paths i ≡ Some path → P path
all_at P [] i path all at = (let no : None ≡ Some path = at in cc)
all_at P (first ∷ paths) zero path all at = (let same : first ≡ path = cc in subst P same all.0)
all_at P (first ∷ paths) (suc i) path all at = all_at P paths i path all.1 at

-- a hole's path is a payload path
pub hole_paid : (payload : Files) (hole : Hole) → CanBeFetched payload (hole ∷ []) → (is_payload hole.path ≡ true → ⊥) → ⊥
hole_paid payload hole can other = can.there hole (inl refl) (λ contains.
    let place = place_of (keys_of payload) hole.path contains in
    other (all_at (λ path. is_payload path ≡ true) (keys_of payload) place.0 hole.path can.payload_paths place.1))

-- one of the holes
pub one_fetched : (payload : Files) (holes : List Hole) (i : ℕ) (hole : Hole) → slice_get holes i ≡ Some hole → CanBeFetched payload holes → CanBeFetched payload (hole ∷ [])
one_fetched payload holes i hole at can = record {
  rising = can.rising;
  payload_paths = can.payload_paths;
  there = λ other given. elim given [ inl same ↦ subst (λ (h : Hole). ((Contains (keys_of payload) h.path → ⊥) → ⊥)) same (can.there hole (has_at holes i hole at)) | inr none ↦ absurd none ];
  urls = λ other given. elim given [ inl same ↦ can.urls other (subst (Has holes) same (has_at holes i hole at)) | inr none ↦ absurd none ];
}

pub fetch_more : (payload : Files) (holes : List Hole) (i : ℕ) (d : Hole) (lines : List FetchLine) (n : ℕ) (entry : FetchItem) → i < length holes → slice_get holes i ≡ Some d → entry ≡ entry_of payload d → written_fetch lines ≡ fetch_octets payload (take i holes)
    → written_fetch (lines ++ fetch_line n entry ∷ []) ≡ fetch_octets payload (take (i + 1) holes)
fetch_more payload holes i d lines n entry within there is so_far =
    let hole = get_or holes i d in
    let here : d ≡ hole = sym (get_or_from_slice_get holes i d d there) in
    flat_map-append written_line lines (fetch_line n entry ∷ [])
    ∙ (λ t. so_far t ++ (written_entry ((is ∙ ap (entry_of payload) here) t) ++ []))
    ∙ sym (flat_map-append (λ h. written_entry (entry_of payload h)) (take i holes) (hole ∷ []))
    ∙ ap (fetch_octets payload) (sym (take_more holes i d within))

pub fetch_all : (payload : Files) (holes : List Hole) (i : ℕ) (lines : List FetchLine) → i ≡ length holes → written_fetch lines ≡ fetch_octets payload (take i holes) → written_fetch lines ≡ fetch_octets payload holes
fetch_all payload holes i lines all so_far = so_far ∙ ap (fetch_octets payload) (ap (λ (n : ℕ). take n holes) all ∙ take-length holes)

-- `fetch.txt`, if there are holes
abbrev pub fetch_file : Files → List Hole → File
fetch_file payload holes = (text_file FetchList, fetch_octets payload holes)

pub some_fetched : (payload : Files) (holes : List Hole) → (length holes == 0) ≡ false → fetch_files payload holes ≡ fetch_file payload holes ∷ []
some_fetched payload [] some = (let no : true ≡ false = some in cc)
some_fetched payload (hole ∷ holes) some = refl

-- MANIFESTS

abbrev pub listing_by : Alg → Kind → Files → Listing
listing_by alg kind files = record { alg = alg; kind = kind; pairs = pairs_by alg files }

module _ (set : AlgSet) (items : List Item) (files : Files) (are : AreItemsOf set items files) (alg : Alg) (kind : Kind) (wanted : has set alg ≡ true) (can : CanBeListed kind files) (i : ℕ) (item : Item) (there : slice_get items i ≡ Some item) where
  abbrev at : (file : File) × (slice_get files i ≡ Some file) × IsItemOf set item file.0 file.1
  at = item_at set items files i item are there

  -- the next item can be listed
  pub next_admitted : (listing : Listing) → listing ≡ listing_by alg kind (take i files) → (digest : Digest) × (digest_in item.sums.digests listing.alg ≡ Some digest) × Admits listing item.path digest
  next_admitted listing is =
      let file = at.0 in
      let path_is : item.path ≡ file.0 = at.2.path_is in
      let admitted : Admits (listing_by alg kind (take i files)) file.0 (hash alg file.1) = record {
        by_alg = digest_by alg file.1;
        in_place = each_at _ files i file can.in_place at.1;
        not_listed = not_before alg files i file can.rising at.1;
      } in (
        hash alg file.1,
        subst (λ (l : Listing). digest_in item.sums.digests l.alg ≡ Some (hash alg file.1)) (sym is) (item_digest set item file alg at.2 wanted),
        subst (λ (l : Listing). Admits l item.path (hash alg file.1)) (sym is) (subst (λ (p : List ℕ). Admits (listing_by alg kind (take i files)) p (hash alg file.1)) (sym path_is) admitted),
      )

  -- the next item is listed
  pub next_listed : (old new : Listing) → old ≡ listing_by alg kind (take i files) → ((digest : Digest) → digest_in item.sums.digests old.alg ≡ Some digest → new ≡ with_pair old (pair item.path digest)) → i < length files → new ≡ listing_by alg kind (take (i + 1) files)
  next_listed old new is adds within =
      let file = at.0 in
      let digest : digest_in item.sums.digests old.alg ≡ Some (hash alg file.1) = ap (λ (l : Listing). digest_in item.sums.digests l.alg) is ∙ item_digest set item file alg at.2 wanted in
      let path_is : item.path ≡ file.0 = at.2.path_is in
      let here : get_or files i file ≡ file = (let both : Some (get_or files i file) ≡ Some file = sym (stands_at files i file within) ∙ at.1 in cc) in
      adds (hash alg file.1) digest
      ∙ (λ t. with_pair (is t) (pair (path_is t) (hash alg file.1)))
      ∙ ap (λ (pairs : List Pair). record { alg = alg; kind = kind; pairs = pairs }) (
      ap (λ (f : File). pairs_by alg (take i files) ++ pair f.0 (hash alg f.1) ∷ []) (sym here)
      ∙ sym (map-append (λ (f : File). pair f.0 (hash alg f.1)) (take i files) (get_or files i file ∷ []))
      ∙ ap (pairs_by alg) (sym (take_more files i file within)))

pub listing_all : (alg : Alg) (kind : Kind) (files : Files) (i : ℕ) (listing : Listing) → i ≡ length files → listing ≡ listing_by alg kind (take i files) → written_manifest listing.pairs ≡ written_manifest (pairs_by alg files)
listing_all alg kind files i listing all is = ap (λ (l : Listing). written_manifest l.pairs) is ∙ ap (λ (fs : Files). written_manifest (pairs_by alg fs)) (ap (λ (n : ℕ). take n files) all ∙ take-length files)

-- MANIFESTS BY THE ALGORITHMS OF A SET

module _ (kind : Kind) (files : Files) (set : AlgSet) where
  -- those by the first algorithms
  abbrev pub first_manifests : ℕ → Files
  first_manifests i = map (manifest_of kind files) (filter (has set) (take i ALL))

  module _ (i : ℕ) (d : Alg) (within : i < 4) where
    manifests_by : (b : Bool) → has set (get_or ALL i d) ≡ b → first_manifests (i + 1) ≡ first_manifests i ++ map (manifest_of kind files) (cond b (get_or ALL i d ∷ []) [])
    manifests_by b is =
        ap (map (manifest_of kind files)) (filter_more (has set) ALL i d within ∙ ap (λ (yes : Bool). filter (has set) (take i ALL) ++ cond yes (get_or ALL i d ∷ []) []) is)
        ∙ map-append (manifest_of kind files) (filter (has set) (take i ALL)) (cond b (get_or ALL i d ∷ []) [])

    pub manifests_more : has set (get_or ALL i d) ≡ true → first_manifests (i + 1) ≡ first_manifests i ++ manifest_of kind files (get_or ALL i d) ∷ []
    manifests_more is = manifests_by true is

    pub manifests_same : has set (get_or ALL i d) ≡ false → first_manifests (i + 1) ≡ first_manifests i
    manifests_same is = manifests_by false is ∙ append-nil (first_manifests i)

  -- and those by the others
  abbrev pub last_manifests : ℕ → Files
  last_manifests i = map (manifest_of kind files) (filter (has set) (drop i ALL))

  pub both_manifests : (i : ℕ) → first_manifests i ++ last_manifests i ≡ map (manifest_of kind files) (algs_in set)
  both_manifests i =
      sym (map-append (manifest_of kind files) (filter (has set) (take i ALL)) (filter (has set) (drop i ALL)))
      ∙ ap (map (manifest_of kind files)) (sym (filter-append (has set) (take i ALL) (drop i ALL)) ∙ ap (filter (has set)) (take-append-drop i ALL))

  pub next_manifest : (i : ℕ) (d : Alg) → i < 4 → has set (get_or ALL i d) ≡ true → last_manifests i ≡ manifest_of kind files (get_or ALL i d) ∷ last_manifests (i + 1)
  next_manifest i d within is =
      ap (λ (algs : List Alg). map (manifest_of kind files) (filter (has set) algs)) (drop_more ALL i d within)
      ∙ ap (λ (yes : Bool). map (manifest_of kind files) (cond yes (get_or ALL i d ∷ filter (has set) (drop (i + 1) ALL)) (filter (has set) (drop (i + 1) ALL)))) is

  pub all_manifests : (i : ℕ) → i ≡ 4 → first_manifests i ≡ map (manifest_of kind files) (algs_in set)
  all_manifests i is = ap first_manifests is
