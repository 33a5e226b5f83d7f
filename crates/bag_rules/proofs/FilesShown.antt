-- What is shown of files in memory, and what a search among them finds.
use Rattle.std.proofs.Common.{◌≡◌, ℕ, ◌+◌, ◌<◌, List, Some, Result, Ok, Err, IfOk, IfErr, slice_get, get_or, length, refl, sym, ap, subst, ◌∙◌, arith, inl, inr}
use Rattle.bag_rules.proofs.Words.{AreRising, bytes_eq, exact_bytes, File, insert, is_lt, IsBinarySearchResult, IsGapFor, IsNonDecreasingBy, IsSearchInRange, length-map, lookup, nat_cmp, nat_list_cmp_total, option_map, Ordering, ordering_index, ordering_reverse, same_Some, searchable_from_sorted, files_of, slice_cmp, slice_get-map, slice_get_cases, slice_get_read, slice_get_within, values_of}
use Rattle.bag_rules.specs.Files.{paths_of}
use Rattle.std.proofs.lemmas.List.{get_or_default}
use Rattle.bag_rules.proofs.RisingPaths.{lesser}
use Rattle.bag_rules.proofs.MemoryFiles.{map-insert, lookup_at}

pub length_shown : (files : List File) → length (paths_of files) ≡ length files
length_shown files = length-map (files_of files) (λ (file : List ℕ × List ℕ). file.0) ∙ length-map files (λ (file : File). (file.path, file.body.items))

pub length_bodies : (files : List File) → length (values_of (files_of files)) ≡ length files
length_bodies files = length-map (files_of files) (λ (file : List ℕ × List ℕ). file.1) ∙ length-map files (λ (file : File). (file.path, file.body.items))

-- a file by its place, and its path and octets
file_shown : (files : List File) (i : ℕ) (file : File) → i < length files → file ≡ get_or files i file → slice_get (files_of files) i ≡ Some (file.path, file.body.items)
file_shown files i file within here = slice_get-map (λ (f : File). (f.path, f.body.items)) files i ∙ ap (option_map (λ (f : File). (f.path, f.body.items))) (slice_get_read files (length files) i file refl within here)

pub path_at : (files : List File) (i : ℕ) (file : File) → i < length files → file ≡ get_or files i file → slice_get (paths_of files) i ≡ Some file.path
path_at files i file within here = slice_get-map (λ (f : List ℕ × List ℕ). f.0) (files_of files) i ∙ ap (option_map (λ (f : List ℕ × List ℕ). f.0)) (file_shown files i file within here)

pub body_at : (files : List File) (i : ℕ) (file : File) → i < length files → file ≡ get_or files i file → slice_get (values_of (files_of files)) i ≡ Some file.body.items
body_at files i file within here = slice_get-map (λ (f : List ℕ × List ℕ). f.1) (files_of files) i ∙ ap (option_map (λ (f : List ℕ × List ℕ). f.1)) (file_shown files i file within here)

-- a place that shows a path is that of a file with this path
pub file_at : (files : List File) (i : ℕ) (path : List ℕ) → slice_get (paths_of files) i ≡ Some path → (file : File) × (i < length files) × (get_or files i file ≡ file) × (file.path ≡ path)
file_at files i path here =
    let within : i < length files = omega (arith, slice_get_within (paths_of files) i path here, length_shown files) in
    elim (slice_get_cases files i).1 [
      | inl found ↦ (
          let shown = path_at files i found.0 within (sym found.3) in
          (found.0, within, found.3, same_Some _ _ (sym shown ∙ here))
          )
      | inr past ↦ absurd (omega (arith, past.0, within))
    ]

module _ (files : List File) (path : List ℕ) where
  -- what a search compares
  abbrev pub against : File → Ordering
  against file = slice_cmp nat_cmp file.path path

  path_of : (k : ℕ) (d : File) → k < length files → slice_get (paths_of files) k ≡ Some (get_or files k d).path
  path_of k d within = path_at files k (get_or files k d) within (get_or_default files k d (get_or files k d) within)

  -- the results of the comparison ascend along files in order
  answers_rise : AreRising (paths_of files) → IsNonDecreasingBy (λ file. ordering_index (against file)) files
  answers_rise rising = searchable_from_sorted nat_list_cmp_total (λ (file : File). file.path) files path (λ k d _ next.
      let below : k + 1 < length files = omega (arith, next) in
      let less = lesser (paths_of files) rising k (k + 1) (get_or files k d).path (get_or files (k + 1) d).path (path_of k d (omega (arith, below))) (path_of (k + 1) d below) (omega arith) in
      ap is_lt (nat_list_cmp_total.antisymm (get_or files (k + 1) d).path (get_or files k d).path ∙ ap ordering_reverse less))

  pub search_found : (r : Result ℕ ℕ) → IsSearchInRange r (length files) → IsBinarySearchResult against files r → IfOk r (λ i. slice_get (paths_of files) i ≡ Some path)
  search_found (Ok i) within equal = elim (slice_get_cases files i).1 [
    | inl found ↦ path_at files i found.0 within (sym found.3) ∙ ap Some (exact_bytes _ _ (ap against (sym found.3) ∙ equal found.0))
    | inr past ↦ absurd (omega (arith, past.0, within))
  ]
  search_found (Err i) within equal = tt

  -- what is shown at a place is compared as its file is
  met : (j : ℕ) (other : List ℕ) → slice_get (paths_of files) j ≡ Some other → (file : File) × (j < length files) × (slice_cmp nat_cmp path other ≡ ordering_reverse (against (get_or files j file)))
  met j other here =
      let file = file_at files j other here in
      (file.0, file.1, nat_list_cmp_total.antisymm path other ∙ sym (ap (λ f. ordering_reverse (against f)) file.2 ∙ ap (λ p. ordering_reverse (slice_cmp nat_cmp p path)) file.3))

  pub search_absent : AreRising (paths_of files) → (r : Result ℕ ℕ) → IsSearchInRange r (length files) → IsBinarySearchResult against files r → IfErr r (IsGapFor (paths_of files) path)
  search_absent rising (Ok i) within parted = tt
  search_absent rising (Err i) within parted = record {
    within = omega (arith, within, length_shown files);
    less_before = λ j other below here. (let m = met j other here in m.2 ∙ ap ordering_reverse ((parted (answers_rise rising)).0 j m.0 (omega arith) below));
    greater_from = λ j other from here. (let m = met j other here in m.2 ∙ ap ordering_reverse ((parted (answers_rise rising)).1 j m.0 from m.1));
  }

-- what is shown after a file was inserted at a place
pub shown_insert : (files : List File) (place : ℕ) (file : File) → files_of (insert files place file) ≡ insert (files_of files) place (file.path, file.body.items)
shown_insert files place file = map-insert (λ (f : File). (f.path, f.body.items)) files place file

-- the gap that a search among the same files gave for the same path
pub same_gap : (files shown : List File) (path text : List ℕ) (i : ℕ) → shown ≡ files → text ≡ path → IsGapFor (paths_of shown) text i → IsGapFor (paths_of files) path i
same_gap files shown path text i all same gap = subst (λ fs. IsGapFor (paths_of fs) path i) all (subst (λ p. IsGapFor (paths_of shown) p i) same gap)

-- the octets that a look-up finds are those of the file that a search finds
pub body_found : (files : List File) (path : List ℕ) (i : ℕ) (file : File) → AreRising (paths_of files) → slice_get (paths_of files) i ≡ Some path → file ≡ get_or files i file → Some file.body.items ≡ lookup (bytes_eq path) (files_of files)
body_found files path i file rising found here =
    let within : i < length files = omega (arith, slice_get_within (paths_of files) i path found, length_shown files) in
    sym (body_at files i file within here) ∙ sym (lookup_at path (files_of files) i rising found)
