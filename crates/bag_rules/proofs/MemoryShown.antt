-- What the fields of a tree in memory show after a file was inserted, and what a search finds.
use Rattle.std.proofs.Common.{◌≡◌, ℕ, zero, suc, ◌+◌, ◌<◌, ◌≤◌, ◌++◌, ◌-◌, add-zero, take, take-append-drop, true, List, [], ◌∷◌, Option, Some, None, All, slice_get, drop, is_some, length, refl, sym, ap, subst, ◌∙◌, arith}
use Rattle.bag_rules.proofs.Words.{All-nil, AreRising, Consumes, drop-drop, File, ForSome, insert, Inside, is_payload, IsAtEnd, IsSoundTree, mem_octets, mem_paths, mem_shown, MemFiles, moved_up, no_files, octets_in, option_map, paths_in, Reading, rest_of, files_of, take-append_seam, values_of, view_of}
use Rattle.std.specs.List.Sorted.{IsStrictlySortedBy}
use Rattle.bag_rules.specs.Files.{paths_of}
use Rattle.bag_rules.proofs.FilesShown.{length_shown, length_bodies, shown_insert}
use Rattle.bag_rules.proofs.TreeLemmas.{all_paths}
use Rattle.bag_rules.proofs.MemoryFiles.{map-insert, slice_get-insert_moved}
use Rattle.bag_digest.proofs.ListLemmas.{stands}

-- the paths that the tree shows
pub shown_is : (tree : MemFiles) (inside : Inside) → view_of inside ≡ tree → paths_in (mem_shown tree) ≡ paths_of inside.files.items
shown_is tree inside view = all_paths tree.files ∙ ap mem_paths (sym view)

-- and the octets
known_at : (files : List (List ℕ × List ℕ)) (i : ℕ) → octets_in (mem_shown (record no_files { files = files })) i ≡ slice_get (values_of files) i
known_at [] i = refl
known_at (file ∷ files) zero = refl
known_at (file ∷ files) (suc i) = known_at files i

-- a file that was started is there
not_dropped : (o : Option (List ℕ)) → option_map (drop 0) o ≡ o
not_dropped None = refl
not_dropped (Some xs) = refl

pub started_from : (tree : MemFiles) (inside : Inside) (i : ℕ) → view_of inside ≡ tree → option_map (drop 0) (slice_get (values_of (files_of inside.files.items)) i) ≡ octets_in (mem_shown tree) i
started_from tree inside i view = not_dropped _ ∙ ap (λ t. mem_octets t i) view ∙ sym (known_at tree.files i)

pub started_there : (tree : MemFiles) (inside : Inside) (i : ℕ) → view_of inside ≡ tree → i < length (paths_in (mem_shown tree)) → is_some (option_map (drop 0) (slice_get (values_of (files_of inside.files.items)) i)) ≡ true
started_there tree inside i view below =
    let files = inside.files.items in
    let bodies = values_of (files_of files) in
    let body = stands bodies i (omega (arith, below, ap length (shown_is tree inside view), length_shown files, length_bodies files)) in
    ap is_some (not_dropped (slice_get bodies i) ∙ body.1)

-- the octets of a file are known
pub known_body : (tree : MemFiles) (inside : Inside) (i : ℕ) (body : List ℕ) → view_of inside ≡ tree → slice_get (values_of (files_of inside.files.items)) i ≡ Some body → octets_in (mem_shown tree) i ≡ Some body
known_body tree inside i body view here = known_at tree.files i ∙ sym (ap (λ t. mem_octets t i) view) ∙ here

-- what is left of the file that is being read after another one was inserted at a place
module _ (files : List File) (place : ℕ) (file : File) (upto : place ≤ length files) where
  body_moved : (r : Reading) → r.place < length files → slice_get (values_of (files_of (insert files place file))) (moved_up place r).place ≡ slice_get (values_of (files_of files)) r.place
  body_moved r within =
      ap (λ fs. slice_get (values_of fs) (moved_up place r).place) (shown_insert files place file)
      ∙ ap (λ bodies. slice_get bodies (moved_up place r).place) (map-insert (λ (f : List ℕ × List ℕ). f.1) (files_of files) place (file.path, file.body.items))
      ∙ slice_get-insert_moved (values_of (files_of files)) place file.body.items r.place (omega (arith, upto, length_bodies files)) (omega (arith, within, length_bodies files))

  pub rest_moved : (reading : Option Reading) → ForSome reading (λ r. r.place < length files) → rest_of (insert files place file) (option_map (moved_up place) reading) ≡ rest_of files reading
  rest_moved None within = refl
  rest_moved (Some r) within = ap (option_map (drop r.at)) (body_moved r (within r refl))

-- nothing is wrong if there are no files
pub empty_sound : (inside : Inside) → inside.files.items ≡ [] → inside.reading ≡ None → IsSoundTree inside
unfolding IsStrictlySortedBy
empty_sound inside no_file none = record {
  rising = subst (λ fs. AreRising (paths_of fs)) (sym no_file) tt;
  payload = subst (λ fs. All (λ path. is_payload path ≡ true → inside.has_payload_dir ≡ true) (paths_of fs)) (sym no_file) (All-nil (λ path. is_payload path ≡ true → inside.has_payload_dir ≡ true));
  reading = subst (λ reading. ForSome reading (λ r. r.place < length inside.files.items)) (sym none) (λ r here. cc);
}

-- what was copied, followed by what comes after it, is what was there
pub copied : (body buf src : List ℕ) (at n : ℕ) → src ≡ take (at + n - at) (drop at body) → length src ≡ n → drop at body ≡ take n (src ++ drop n buf) ++ drop (at + n) body
copied body buf src at n e size =
    sym (take-append-drop n (drop at body))
    ∙ ap (λ xs. xs ++ drop n (drop at body)) (ap (λ m. take m (drop at body)) (let k : n ≡ at + n - at = omega arith in k) ∙ sym e ∙ sym (ap (λ m. take m (src ++ drop n buf)) (sym size) ∙ take-append_seam src (drop n buf)))
    ∙ ap (λ xs. take n (src ++ drop n buf) ++ xs) (drop-drop n at body)

-- what is shown of a file that is being read
pub started_is : (tree : MemFiles) (inside : Inside) (reading : Reading) (body : List ℕ) → view_of inside ≡ tree → inside.reading ≡ Some reading → slice_get (values_of (files_of inside.files.items)) reading.place ≡ Some body → tree.started ≡ Some (drop reading.at body)
started_is tree inside reading body view at here =
    ap (λ t. t.started) (sym view)
    ∙ ap (rest_of inside.files.items) at
    ∙ ap (option_map (drop reading.at)) here

-- the tree after a read of n octets
read_further : (at n : ℕ) (o : Option (List ℕ)) → option_map (drop (at + n)) o ≡ option_map (drop n) (option_map (drop at) o)
read_further at n None = refl
read_further at n (Some octets) = ap Some (sym (drop-drop n at octets))

pub read_view : (tree : MemFiles) (inside : Inside) (reading : Reading) (n : ℕ) → view_of inside ≡ tree → inside.reading ≡ Some reading
    → view_of (record inside { reading = Some (record { place = reading.place; at = reading.at + n }) }) ≡ record tree { started = option_map (drop n) tree.started }
read_view tree inside reading n view at =
    let rest = read_further reading.at n (slice_get (values_of (files_of inside.files.items)) reading.place) ∙ ap (λ r. option_map (drop n) (rest_of inside.files.items r)) (sym at) in
    ap (λ started. (let t : MemFiles = record (view_of inside) { started = started } in t)) rest
    ∙ ap (λ (t : MemFiles). (let s : MemFiles = record t { started = option_map (drop n) t.started } in s)) view

-- what a read of n octets gives
pub read_on : (started body : Option (List ℕ)) (octets buf : List ℕ) (at n : ℕ) → started ≡ Some (drop at octets) → body ≡ Some octets → drop at octets ≡ take n buf ++ drop (at + n) octets → (n ≡ 0 → 0 < length buf → drop at octets ≡ []) → Consumes started (option_map (drop (at + n)) body) (take n buf) × (n ≡ 0 → 0 < length buf → IsAtEnd (option_map (drop (at + n)) body))
read_on started body octets buf at n before here copied end =
    let after : option_map (drop (at + n)) body ≡ Some (drop (at + n) octets) = ap (option_map (drop (at + n))) here in (
      subst (λ o. Consumes o (option_map (drop (at + n)) body) (take n buf)) (sym before) (subst (λ o. Consumes (Some (drop at octets)) o (take n buf)) (sym after) copied),
      λ none room. subst IsAtEnd (sym after) (ap (λ m. drop (at + m) octets) none ∙ ap (λ m. drop m octets) (add-zero at) ∙ end none room),
    )
