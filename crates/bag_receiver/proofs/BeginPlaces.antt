-- Which of the files with which a transfer is to be opened can be added to the tag files.
use Rattle.std.proofs.Common.{◌≡◌, ◌≢◌, ◌⊎◌, ◌+◌, ◌≤◌, ◌<◌, ◌++◌, ℕ, false, List, [], ◌∷◌, Option, Some, None, Result, Ok, Err, Contains, MatchResult, OnOk, IfErr, length, drop, get_or, suc, string_bytes, take, slice_get, refl, sym, ap, subst, ◌∙◌, inl, inr, arith}
use Rattle.std.proofs.lemmas.Bool.{false_from_ne_true}
use Rattle.std.proofs.lemmas.List.{length-take-le, take-append-drop, take-append-le}
use Rattle.std.proofs.lemmas.Option.{slice_get_within}
use Rattle.std.proofs.Math.Seq.{drop-cons, take-append_seam}
use Rattle.bag_path.specs.Paths.{is_payload}
use Rattle.bag_rules.proofs.FirstFiles.{to_front}
use Rattle.bag_rules.proofs.TagSetLemmas.{not_refused}
use Rattle.bag_rules.specs.declared.tag_set.TagSetFault.{TagSetFault}
use Rattle.bag_rules.specs.declared.tag_set.TagSetFault.TheVariants as tag
use Rattle.bag_rules.specs.Files.{IsTagPath}
use Rattle.bag_rules.specs.TagSets.{RefusesFile}
use Rattle.bag_receiver.specs.declared.begin.BeginFault.TheVariants.{Keeper}
use Rattle.bag_receiver.specs.Beginning.{IsMisplaced}
use Rattle.bag_receiver.proofs.BeginFiles.{Handed, emptied_within, given_more, key_light, light_more, shown_file}
use Rattle.bag_receiver.proofs.FileLemmas.{File, held_or_not}
use Rattle.bag_receiver.proofs.Words.{BeginFault, contains_from_has, decided_at_most, decided_true, emptied, Files, given_in, has_from_contains, IsPath, IsPlaced, IsRefusal, IsUtf8, keys_of, LARGEST_TAG_FILE, length-append, length-map, light_tags, map-append, Memory, NoneMisplaced, path_fault, path_if_no_fault, PathFault, RefusesFiles, TagPath, with_file}

-- A FILE IS ADDED OR NOT

module _ (tags : Files) (path body : List ℕ) (utf8 : IsUtf8 path) where
  abbrev NotRefused : Type 0
  NotRefused = (fault : TagSetFault) → fault ≢ tag.Memory → ¬ RefusesFile tags path body fault

  no_fault : (found : Option PathFault) → path_fault path ≡ found → NotRefused → IsPath path
  no_fault None is none = path_if_no_fault path utf8 is
  no_fault (Some fault) is none = absurd (none (tag.BadPath fault) (λ e. cc) is)

  is_placed : NotRefused → IsPlaced tags path
  is_placed none =
      let path_is = no_fault (path_fault path) refl none in
      elim (decided_true (is_payload path)) [
        | inl payload ↦ absurd (none tag.Payload (λ e. cc) (path_is, payload))
        | inr other ↦
            let plain : is_payload path ≡ false = false_from_ne_true (is_payload path) other in
            ((path_is, plain), λ contains. none tag.Twice (λ e. cc) ((path_is, plain), contains))
      ]

pub placed_by : (r : Result Unit TagSetFault) (old new : Files) (path octets body : List ℕ) → IsUtf8 path → body ≡ emptied octets → OnOk r (new ≡ with_file old path body)
    → MatchResult r (λ _. (fault : TagSetFault) → fault ≢ tag.Memory → ¬ RefusesFile old path body fault) (RefusesFile old path body)
    → OnOk r (IsPlaced old path × (new ≡ with_file old path (emptied octets)))
placed_by (Ok done) old new path octets body utf8 is added none = (is_placed old path body utf8 none, added ∙ ap (with_file old path) is)
placed_by (Err fault) old new path octets body utf8 is added refused = tt

pub not_placed_by : (r : Result Unit TagSetFault) (old : Files) (path octets body : List ℕ) → body ≡ emptied octets
    → MatchResult r (λ _. (fault : TagSetFault) → fault ≢ tag.Memory → ¬ RefusesFile old path body fault) (RefusesFile old path body)
    → IfErr r (λ fault. fault ≢ tag.Memory → ¬ IsPlaced old path)
not_placed_by (Ok done) old path octets body is none = tt
not_placed_by (Err fault) old path octets body is refused = λ other placed.
    let within : length body ≤ LARGEST_TAG_FILE = omega (arith, ap length is, emptied_within octets) in
    not_refused old path body placed.0 placed.1 within fault other refused

-- THE FILES AND THOSE SO FAR

at_seam : (front : Files) (file : File) (rest : Files) → slice_get (front ++ file ∷ rest) (length front) ≡ Some file
at_seam [] file rest = refl
at_seam (first ∷ front) file rest = at_seam front file rest

module _ (front : Files) where
  key_here : (path : List ℕ) → Contains (keys_of (light_tags front)) path → Contains (keys_of front) path
  key_here path h = contains_from_has (keys_of front) path ((key_light front path).0 (has_from_contains (keys_of (light_tags front)) path h))

  key_there : (path : List ℕ) → Contains (keys_of front) path → Contains (keys_of (light_tags front)) path
  key_there path h = contains_from_has (keys_of (light_tags front)) path ((key_light front path).1 (has_from_contains (keys_of front) path h))

  same_front : (rest : Files) (j : ℕ) → j ≤ length front → take j (front ++ rest) ≡ take j front
  same_front rest j below = take-append-le j front rest below

  at_front : (rest : Files) (j : ℕ) (file : File) → j < length front → slice_get (front ++ rest) j ≡ Some file → slice_get front j ≡ Some file
  at_front rest j file below at =
      let here = to_front (front ++ rest) (length front) j file below at in
      subst (λ (files : Files). slice_get files j ≡ Some file) (take-append_seam front rest) here

  -- whether a file can be added doesn't depend on those after it
  pub misplaced_before : (rest : Files) (j : ℕ) → j < length front → IsMisplaced (front ++ rest) j → IsMisplaced front j
  misplaced_before rest j below h = record {
    file = h.file;
    at = at_front rest j h.file below h.at;
    misplaced = subst (λ (files : Files). (¬ IsTagPath h.file.0) ⊎ Contains (keys_of files) h.file.0) (same_front rest j (omega (arith, below))) h.misplaced;
  }

  module _ (file : File) (rest : Files) where
    at_here : slice_get (front ++ file ∷ rest) (length front) ≡ Some file
    at_here = at_seam front file rest

    same_here : (other : File) → slice_get (front ++ file ∷ rest) (length front) ≡ Some other → file ≡ other
    same_here other at = let same : Some file ≡ Some other = sym at_here ∙ at in cc

    -- the next file can't be added
    pub misplaced_here : ¬ IsPlaced (light_tags front) file.0 → IsMisplaced (front ++ file ∷ rest) (length front)
    misplaced_here not_placed = record {
      file = file;
      at = at_here;
      misplaced = subst (λ (files : Files). (¬ IsTagPath file.0) ⊎ Contains (keys_of files) file.0) (sym (take-append_seam front (file ∷ rest))) (elim (held_or_not front file.0) [
        | inl held ↦ inr held
        | inr away ↦ inl (λ is. not_placed (is, λ contains. away (key_here file.0 contains)))
      ]);
    }

    pub first_misplaced : NoneMisplaced front → ¬ IsPlaced (light_tags front) file.0
        → IsMisplaced (front ++ file ∷ rest) (length front) × ((j : ℕ) → j < length front → ¬ IsMisplaced (front ++ file ∷ rest) j)
    first_misplaced none not_placed = (misplaced_here not_placed, λ j below h. none j (misplaced_before (file ∷ rest) j below h))

  -- it can be added
  pub none_misplaced : (file : File) → NoneMisplaced front → IsPlaced (light_tags front) file.0 → NoneMisplaced (front ++ file ∷ [])
  none_misplaced file none placed j h = elim (decided_at_most (j + 1) (length front)) [
    | inl below ↦ none j (misplaced_before (file ∷ []) j (omega (arith, below)) h)
    | inr above ↦
        let within : j < length (front ++ file ∷ []) = slice_get_within (front ++ file ∷ []) j h.file h.at in
        let here : j ≡ length front = omega (arith, above, within, length-append front (file ∷ [])) in
        let same : file ≡ h.file = same_here file [] h.file (subst (λ (k : ℕ). slice_get (front ++ file ∷ []) k ≡ Some h.file) here h.at) in
        let taken : take j (front ++ file ∷ []) ≡ front = ap (λ (k : ℕ). take k (front ++ file ∷ [])) here ∙ take-append_seam front (file ∷ []) in
        elim h.misplaced [
          | inl other ↦ other (subst (λ (f : File). IsTagPath f.0) same placed.0)
          | inr before ↦ placed.1 (key_there file.0 (subst (λ (f : File). Contains (keys_of front) f.0) (sym same) (subst (λ (files : Files). Contains (keys_of files) h.file.0) taken before)))
        ]
  ]

-- THE FILES SO FAR, as the loop continues

-- the files are those so far, the next one and others
pub handed_parts : (files : List Handed) (i : ℕ) (file : Handed) → i < length files → file ≡ get_or files i file
    → given_in files ≡ given_in (take i files) ++ shown_file file ∷ given_in (drop (suc i) files)
handed_parts files i file below here =
    ap given_in (sym (take-append-drop i files) ∙ ap (λ (rest : List Handed). take i files ++ rest) (drop-cons files i file below ∙ ap (λ (f : Handed). f ∷ drop (suc i) files) (sym here)))
    ∙ map-append shown_file (take i files) (file ∷ drop (suc i) files)

front_length : (files : List Handed) (i : ℕ) → i < length files → length (given_in (take i files)) ≡ i
front_length files i below = length-map (take i files) shown_file ∙ length-take-le i files (omega (arith, below))

-- the file is the first that can't be added
pub refused_at : (files : List Handed) (i : ℕ) (file : Handed) (fault : BeginFault) (reason : TagSetFault) → i < length files → file ≡ get_or files i file → NoneMisplaced (given_in (take i files))
    → (reason ≢ tag.Memory → ¬ IsPlaced (light_tags (given_in (take i files))) (string_bytes file.0))
    → ((reason ≡ tag.Memory) × (fault ≡ Keeper Memory)) ⊎ ((reason ≢ tag.Memory) × (fault ≡ TagPath i)) → IsRefusal (given_in files) fault
refused_at files i file fault reason below here none not_placed (inl (out, memory)) = inl memory
refused_at files i file fault reason below here none not_placed (inr (other, is)) =
    let front = given_in (take i files) in
    let rest = given_in (drop (suc i) files) in
    let first = first_misplaced front (shown_file file) rest none (not_placed other) in
    let counted = front_length files i below in
    let there = subst (λ (k : ℕ). IsMisplaced (front ++ shown_file file ∷ rest) k × ((j : ℕ) → j < k → ¬ IsMisplaced (front ++ shown_file file ∷ rest) j)) counted first in
    inr (subst (λ (f : BeginFault). RefusesFiles (given_in files) f) (sym is)
    (subst (λ (given : Files). IsMisplaced given i × ((j : ℕ) → j < i → ¬ IsMisplaced given j)) (sym (handed_parts files i file below here)) there))

-- it can be added
pub placed_at : (files : List Handed) (i : ℕ) (file : Handed) → i < length files → file ≡ get_or files i file → NoneMisplaced (given_in (take i files))
    → IsPlaced (light_tags (given_in (take i files))) (string_bytes file.0) → NoneMisplaced (given_in (take (i + 1) files))
placed_at files i file below here none placed =
    subst NoneMisplaced (sym (given_more files i file below here)) (none_misplaced (given_in (take i files)) (shown_file file) none placed)

pub tags_at : (files : List Handed) (i : ℕ) (file : Handed) (old new : Files) → i < length files → file ≡ get_or files i file → old ≡ light_tags (given_in (take i files))
    → new ≡ with_file old (string_bytes file.0) (emptied file.1.items) → new ≡ light_tags (given_in (take (i + 1) files))
tags_at files i file old new below here before added =
    added ∙ ap (λ (tags : Files). with_file tags (string_bytes file.0) (emptied file.1.items)) before
    ∙ sym (light_more (given_in (take i files)) (shown_file file)) ∙ ap light_tags (sym (given_more files i file below here))
