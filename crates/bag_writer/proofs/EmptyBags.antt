-- What is too large of a bag whose payload files are empty is too large of every bag with files at these paths.
use Rattle.std.proofs.Common.{◌≡◌, ◌∙◌, ◌⊎◌, ◌<◌, ◌≤◌, ℕ, Bool, true, false, List, [], ◌∷◌, length, inl, inr, refl, sym, ap, subst, arith}
use Rattle.std.proofs.lemmas.List.Sums.{sum_by-cons}
use Rattle.std.specs.List.{sum_by}
use Rattle.bag_rules.proofs.HasLemmas.{has_from_map, has_left}
use Rattle.bag_rules.proofs.Words.{Alg, FetchList, Files, Info, Kind, Md5, Payload, Sha1, Sha256, Sha512, Tag, has, keys_of, length-map, manifest_file, text_file, written_declaration}
use Rattle.bag_rules.specs.Bags.{octet_count}
use Rattle.bag_rules.specs.declared.limits.TheConstants.{LARGEST_FILE, LARGEST_TAG_FILE, MOST_LINES}
use Rattle.bag_tags.specs.ManifestWriting.{written_manifest}
use Rattle.bag_writer.proofs.MeasuredTags.{empty_fetched, empty_keys, fetched_grows, hole_line, info_grows, info_octets, line, lines, measured}
use Rattle.bag_writer.proofs.TagCases.{TagCase, a_manifest, fetch_octets, files_in, has_declaration, has_fetch, has_info, has_manifest, listed_tag, tag_case, the_declaration, the_fetch, the_info}
use Rattle.bag_writer.proofs.TagNames.{chosen, listed_names, listed_of, which_listed}
use Rattle.bag_writer.specs.WrittenBags.{fetch_files, info_file, listed_tags, manifest_of, pairs_by, tag_files}
use Rattle.bag_writer.specs.Writing.{HasLongFile, IsLarge, IsLongIn, IsTooLarge, empty_files}
use Rattle.bag_writer.specs.declared.too_large.Large.{Large}
use Rattle.bag_writer.specs.declared.too_large.Large.TheVariants as large
use Rattle.bag_writer.specs.declared.spec.Hole.{Hole}
use Rattle.bag_writer.specs.declared.spec.Spec.{Spec}

abbrev empty_file : List ℕ → List ℕ × List ℕ
empty_file path = (path, [])

no_octets : (paths : List (List ℕ)) → octet_count (empty_files paths) ≡ 0
unfolding octet_count
no_octets [] = refl
no_octets (path ∷ paths) = omega (arith, no_octets paths)

-- TAG MANIFESTS, which list seven files at most

fewer : (alg : Alg) (bs : List Bool) (paths : List (List ℕ)) → lines alg (chosen bs paths) ≤ lines alg paths
fewer alg [] paths = omega arith
fewer alg (true ∷ bs) [] = omega arith
fewer alg (false ∷ bs) [] = omega arith
fewer alg (true ∷ bs) (path ∷ paths) = let all = sum_by-cons (line alg) path paths in let some = sum_by-cons (line alg) path (chosen bs paths) in omega (arith, all, some, fewer alg bs paths)
fewer alg (false ∷ bs) (path ∷ paths) = let all = sum_by-cons (line alg) path paths in omega (arith, all, fewer alg bs paths)

all_lines : (alg : Alg) → lines alg listed_of ≤ 1018
all_lines Md5 = let all : lines Md5 listed_of ≡ 346 = refl in omega (arith, all)
all_lines Sha1 = let all : lines Sha1 listed_of ≡ 402 = refl in omega (arith, all)
all_lines Sha256 = let all : lines Sha256 listed_of ≡ 570 = refl in omega (arith, all)
all_lines Sha512 = let all : lines Sha512 listed_of ≡ 1018 = refl in omega (arith, all)

-- FETCH.TXT

fetch_named : (paths : List (List ℕ)) (holes : List Hole) → LARGEST_TAG_FILE < sum_by hole_line holes → IsLongIn (fetch_files (empty_files paths) holes) LARGEST_TAG_FILE (text_file FetchList)
fetch_named paths [] less = absurd (omega (arith, less))
fetch_named paths (hole ∷ holes) less = (fetch_octets (empty_files paths) (hole ∷ holes), inl refl, omega (arith, less, empty_fetched paths (hole ∷ holes)))

pub fetch_long : (paths : List (List ℕ)) (holes : List Hole) → LARGEST_TAG_FILE < sum_by hole_line holes → HasLongFile (fetch_files (empty_files paths) holes) LARGEST_TAG_FILE
fetch_long paths holes less = (text_file FetchList, fetch_named paths holes less)

pub long_fetch : (paths : List (List ℕ)) (holes : List Hole) → HasLongFile (fetch_files (empty_files paths) holes) LARGEST_TAG_FILE → LARGEST_TAG_FILE < sum_by hole_line holes
long_fetch paths [] (path, (octets, has, less)) = absurd has
long_fetch paths (hole ∷ holes) (path, (octets, inl e, less)) =
    let text = ap (λ (file : List ℕ × List ℕ). length file.1) e in
    omega (arith, less, text, empty_fetched paths (hole ∷ holes))
long_fetch paths (hole ∷ holes) (path, (octets, inr none, less)) = absurd none

-- ALL TAG FILES

as_many : (payload : Files) (paths : List (List ℕ)) → keys_of payload ≡ paths → length payload ≡ length paths
as_many payload paths same = sym (length-map payload (λ (file : List ℕ × List ℕ). file.0)) ∙ ap (λ (keys : List (List ℕ)). length keys) same

module _ (spec : Spec) (paths : List (List ℕ)) where
  tag_manifest_short : (alg : Alg) → length (written_manifest (pairs_by alg (listed_tags spec (empty_files paths)))) ≤ 1018
  tag_manifest_short alg =
      let text = measured alg (listed_tags spec (empty_files paths)) in
      let names = ap (lines alg) (listed_names spec (empty_files paths)) in
      let some = fewer alg (which_listed spec) listed_of in
      omega (arith, text, names, some, all_lines alg)

  -- `bag-info.txt` is too long, or `fetch.txt`, or a payload manifest
  abbrev pub HasLongPart : Type 0
  HasLongPart = (LARGEST_TAG_FILE < length (info_file spec (empty_files paths)).1) ⊎ HasLongFile (fetch_files (empty_files paths) spec.holes.items) LARGEST_TAG_FILE
      ⊎ ((alg : Alg) × (has spec.algs alg ≡ true) × (LARGEST_TAG_FILE < length (manifest_of Payload (empty_files paths) alg).1))

  long_part : (path octets : List ℕ) → TagCase spec (empty_files paths) path octets → LARGEST_TAG_FILE < length octets → HasLongPart
  long_part path octets (the_info is text) less = inl (subst (λ t. LARGEST_TAG_FILE < length t) text less)
  long_part path octets (the_declaration is text) less = let short : length written_declaration ≡ 54 = refl in absurd (omega (arith, less, ap (λ (t : List ℕ). length t) text, short))
  long_part path octets (the_fetch is text some) less = inr (inl (fetch_long paths spec.holes.items (omega (arith, less, ap (λ (t : List ℕ). length t) text, empty_fetched paths spec.holes.items))))
  long_part path octets (a_manifest Payload alg given is text) less = inr (inr (alg, given, subst (λ t. LARGEST_TAG_FILE < length t) text less))
  long_part path octets (a_manifest Tag alg given is text) less = absurd (omega (arith, less, ap (λ (t : List ℕ). length t) text, tag_manifest_short alg))

  no_long_item : ¬ HasLongFile (empty_files paths) LARGEST_FILE
  no_long_item (path, (octets, h, less)) =
      let made = has_from_map empty_file paths (path, octets) h in
      let none = ap (λ (file : List ℕ × List ℕ). length file.1) made.2 in
      omega (arith, less, none)

  large_part : IsTooLarge spec (empty_files paths) → (MOST_LINES < length paths) ⊎ HasLongPart
  large_part (large.Payload, many) = inl (omega (arith, many, as_many (empty_files paths) paths (empty_keys paths)))
  large_part (large.File path, item) = absurd (no_long_item (path, item))
  large_part (large.TagFile path, (octets, h, less)) = inr (long_part path octets (tag_case spec (empty_files paths) path octets h) less)

  -- what is too large
  pub many_large : MOST_LINES < length paths → IsLarge spec (empty_files paths) large.Payload
  many_large many = omega (arith, many, as_many (empty_files paths) paths (empty_keys paths))

  pub info_large : LARGEST_TAG_FILE < length (info_file spec (empty_files paths)).1 → IsLarge spec (empty_files paths) (large.TagFile (text_file Info))
  info_large less = ((info_file spec (empty_files paths)).1, listed_tag spec (empty_files paths) _ _ (has_info spec (empty_files paths)), less)

  pub fetch_large : HasLongFile (fetch_files (empty_files paths) spec.holes.items) LARGEST_TAG_FILE → IsLarge spec (empty_files paths) (large.TagFile (text_file FetchList))
  fetch_large long =
      let it = fetch_named paths spec.holes.items (long_fetch paths spec.holes.items long) in
      (it.0, listed_tag spec (empty_files paths) (text_file FetchList) it.0 (inr (inr (has_left _ _ _ it.1))), it.2)

  pub manifest_large : (alg : Alg) → has spec.algs alg ≡ true → LARGEST_TAG_FILE < length (manifest_of Payload (empty_files paths) alg).1 → IsLarge spec (empty_files paths) (large.TagFile (manifest_file Payload alg))
  manifest_large alg given less = (written_manifest (pairs_by alg (empty_files paths)), has_manifest spec (empty_files paths) Payload alg given, less)

  pub none_large : ¬ (MOST_LINES < length paths) → ((alg : Alg) → has spec.algs alg ≡ true → ¬ (LARGEST_TAG_FILE < length (manifest_of Payload (empty_files paths) alg).1))
      → ¬ HasLongFile (fetch_files (empty_files paths) spec.holes.items) LARGEST_TAG_FILE → ¬ (LARGEST_TAG_FILE < length (info_file spec (empty_files paths)).1) → ¬ IsTooLarge spec (empty_files paths)
  none_large few no_manifest no_fetch no_info too_large = elim (large_part too_large) [
    | inl many ↦ few many
    | inr part ↦ elim part [
      | inl info ↦ no_info info
      | inr other ↦ elim other [ inl fetch ↦ no_fetch fetch | inr manifest ↦ no_manifest manifest.0 manifest.1 manifest.2 ]
    ]
  ]

  pub info_is : (count : ℕ) → count ≡ length paths → length (info_file spec (empty_files paths)).1 ≡ info_octets spec.info 0 count
  info_is count number = ap (λ (oxum : ℕ × ℕ). info_octets spec.info oxum.0 oxum.1) (λ t. (no_octets paths t, (as_many (empty_files paths) paths (empty_keys paths) ∙ sym number) t))

-- What is too large does not become smaller when the files are filled.
module _ (spec : Spec) (payload : Files) (paths : List (List ℕ)) (same : keys_of payload ≡ paths) where
  abbrev empty : Files
  empty = empty_files paths

  manifest_same : (files other : Files) (alg : Alg) → keys_of files ≡ keys_of other → length (written_manifest (pairs_by alg files)) ≡ length (written_manifest (pairs_by alg other))
  manifest_same files other alg keys = measured alg files ∙ ap (lines alg) keys ∙ sym (measured alg other)

  same_keys : (kind : Kind) → keys_of (files_in spec empty kind) ≡ keys_of (files_in spec payload kind)
  same_keys Payload = empty_keys paths ∙ sym same
  same_keys Tag = listed_names spec empty ∙ sym (listed_names spec payload)

  info_less : length (info_file spec empty).1 ≤ length (info_file spec payload).1
  info_less =
      let grows = info_grows spec.info (octet_count payload) (length payload) in
      let files : length empty ≡ length payload = as_many empty paths (empty_keys paths) ∙ sym (as_many payload paths same) in
      let least = ap (λ (oxum : ℕ × ℕ). info_octets spec.info oxum.0 oxum.1) (λ t. (no_octets paths t, files t)) in
      omega (arith, grows, least)

  filled_long : (path octets : List ℕ) → TagCase spec empty path octets → LARGEST_TAG_FILE < length octets → IsLongIn (tag_files spec payload) LARGEST_TAG_FILE path
  filled_long path octets (the_info is text) less = rw is (
    (info_file spec payload).1,
    listed_tag spec payload _ _ (has_info spec payload),
    omega (arith, less, ap (λ (t : List ℕ). length t) text, info_less),
  )
  filled_long path octets (the_declaration is text) less = rw is (
    written_declaration,
    listed_tag spec payload _ _ (has_declaration spec payload),
    subst (λ t. LARGEST_TAG_FILE < length t) text less,
  )
  filled_long path octets (the_fetch is text some) less = rw is (
    fetch_octets payload spec.holes.items,
    listed_tag spec payload _ _ (has_fetch spec payload some),
    omega (arith, less, ap (λ (t : List ℕ). length t) text, empty_fetched paths spec.holes.items, fetched_grows payload spec.holes.items),
  )
  filled_long path octets (a_manifest kind alg given is text) less = rw is (
    written_manifest (pairs_by alg (files_in spec payload kind)),
    has_manifest spec payload kind alg given,
    omega (arith, less, ap (λ (t : List ℕ). length t) text, manifest_same (files_in spec empty kind) (files_in spec payload kind) alg (same_keys kind)),
  )

  pub filled_large : (what : Large) → IsLarge spec empty what → IsLarge spec payload what
  filled_large large.Payload many = omega (arith, many, as_many empty paths (empty_keys paths), as_many payload paths same)
  filled_large (large.File path) item = absurd (no_long_item spec paths (path, item))
  filled_large (large.TagFile path) (octets, h, less) = filled_long path octets (tag_case spec empty path octets h) less
