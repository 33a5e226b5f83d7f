-- Which tag files are written, by their names.
use Rattle.std.proofs.Common.{◌≡◌, ◌≢◌, ◌∙◌, ℕ, Bool, true, List, [], ◌∷◌, map, inl, inr, refl, sym, ap, subst}
use Rattle.std.specs.List.{filter, flat_map}
use Rattle.bag_rules.proofs.HasLemmas.{has_from_map, has_map, has_either, has_left, has_right}
use Rattle.bag_rules.proofs.Words.{Alg, AlgSet, cases_Bool, declaration_file, FetchList, Files, Has, has, Info, Kind, manifest_file, Md5, Payload, Sha1, Sha256, Sha512, Tag, text_file, written_declaration}
use Rattle.bag_tags.specs.FetchEntries.{written_entry}
use Rattle.bag_tags.specs.ManifestWriting.{written_manifest}
use Rattle.bag_writer.specs.WrittenBags.{algs_in, bagit_file, entry_of, fetch_files, info_file, listed_tags, manifest_of, pairs_by, tag_files}
use Rattle.bag_writer.specs.declared.spec.Hole.{Hole}
use Rattle.bag_writer.specs.declared.spec.Spec.{Spec}

-- LISTS

-- what a filter keeps is in the list and passes
pub has_filtered : {X : Type 0} (p : X → Bool) (xs : List X) (x : X) → Has (filter p xs) x → Has xs x × (p x ≡ true)
has_filtered p [] x h = absurd h
has_filtered {X} p (y ∷ xs) x h = elim (cases_Bool (p y)) [
  | inl passes ↦ elim (rw passes at h) [
    | inl e ↦ (inl e, subst (λ (z : X). p z ≡ true) e passes)
    | inr k ↦ (let rest = has_filtered p xs x k in (inr rest.0, rest.1))
  ]
  | inr other ↦ (let k = rw other at h in let rest = has_filtered p xs x k in (inr rest.0, rest.1))
]

pub has_filter : {X : Type 0} (p : X → Bool) (xs : List X) (x : X) → Has xs x → p x ≡ true → Has (filter p xs) x
has_filter p [] x h passes = absurd h
has_filter p (y ∷ xs) x (inl e) passes = rw (ap p e ∙ passes) (inl e)
has_filter p (y ∷ xs) x (inr h) passes = elim (cases_Bool (p y)) [
  | inl taken ↦ rw taken (inr (has_filter p xs x h passes))
  | inr other ↦ rw other (has_filter p xs x h passes)
]

-- ALGORITHMS

pub all_algs : (alg : Alg) → Has (Md5 ∷ Sha1 ∷ Sha256 ∷ Sha512 ∷ []) alg
all_algs Md5 = inl refl
all_algs Sha1 = inr (inl refl)
all_algs Sha256 = inr (inr (inl refl))
all_algs Sha512 = inr (inr (inr (inl refl)))

pub alg_has : (set : AlgSet) (alg : Alg) → Has (algs_in set) alg → has set alg ≡ true
alg_has set alg h = (has_filtered (has set) (Md5 ∷ Sha1 ∷ Sha256 ∷ Sha512 ∷ []) alg h).1

pub has_alg : (set : AlgSet) (alg : Alg) → has set alg ≡ true → Has (algs_in set) alg
has_alg set alg h = has_filter (has set) (Md5 ∷ Sha1 ∷ Sha256 ∷ Sha512 ∷ []) alg (all_algs alg) h

-- CASES

-- the files that a manifest of this kind lists
abbrev pub files_in : Spec → Files → Kind → Files
files_in spec payload Payload = payload
files_in spec payload Tag = listed_tags spec payload

-- what `fetch.txt` has
abbrev pub fetch_octets : Files → List Hole → List ℕ
fetch_octets payload holes = flat_map (λ each. written_entry (entry_of payload each)) holes

-- a tag file, by its name
pub data TagCase (spec : Spec) (payload : Files) (path octets : List ℕ) : Type 0 where
  the_info : path ≡ text_file Info → octets ≡ (info_file spec payload).1 → TagCase spec payload path octets
  the_declaration : path ≡ declaration_file → octets ≡ written_declaration → TagCase spec payload path octets
  the_fetch : path ≡ text_file FetchList → octets ≡ fetch_octets payload spec.holes.items → spec.holes.items ≢ [] → TagCase spec payload path octets
  a_manifest : (kind : Kind) (alg : Alg) → has spec.algs alg ≡ true → path ≡ manifest_file kind alg → octets ≡ written_manifest (pairs_by alg (files_in spec payload kind)) → TagCase spec payload path octets

abbrev Parts : List ℕ × List ℕ → List ℕ → List ℕ → Type 0
Parts file path octets = (path ≡ file.0) × (octets ≡ file.1)

parts : (file : List ℕ × List ℕ) (path octets : List ℕ) → file ≡ (path, octets) → Parts file path octets
parts file path octets e = (sym (ap (λ (f : List ℕ × List ℕ). f.0) e), sym (ap (λ (f : List ℕ × List ℕ). f.1) e))

joined : (file : List ℕ × List ℕ) (path octets : List ℕ) → path ≡ file.0 → octets ≡ file.1 → file ≡ (path, octets)
joined file path octets p q = sym (λ t. (p t, q t))

module _ (spec : Spec) (payload : Files) where
  -- a manifest of a kind
  manifest_case : (kind : Kind) (path octets : List ℕ) → Has (map (manifest_of kind (files_in spec payload kind)) (algs_in spec.algs)) (path, octets) → TagCase spec payload path octets
  manifest_case kind path octets h =
      let m = has_from_map (manifest_of kind (files_in spec payload kind)) (algs_in spec.algs) (path, octets) h in
      let p = parts (manifest_of kind (files_in spec payload kind) m.0) path octets m.2 in
      a_manifest kind m.0 (alg_has spec.algs m.0 m.1) p.0 p.1

  manifest_has : (kind : Kind) (alg : Alg) → has spec.algs alg ≡ true → Has (map (manifest_of kind (files_in spec payload kind)) (algs_in spec.algs)) (manifest_of kind (files_in spec payload kind) alg)
  manifest_has kind alg h = has_map (manifest_of kind (files_in spec payload kind)) (algs_in spec.algs) alg (has_alg spec.algs alg h)

  fetch_case : (holes : List Hole) (path octets : List ℕ) → Has (fetch_files payload holes) (path, octets) → (path ≡ text_file FetchList) × (octets ≡ fetch_octets payload holes) × (holes ≢ [])
  fetch_case [] path octets h = absurd h
  fetch_case (hole ∷ holes) path octets (inl e) = let p = parts (text_file FetchList, fetch_octets payload (hole ∷ holes)) path octets e in (p.0, p.1, λ none. cc)
  fetch_case (hole ∷ holes) path octets (inr h) = absurd h

  fetch_has : (holes : List Hole) → holes ≢ [] → Has (fetch_files payload holes) (text_file FetchList, fetch_octets payload holes)
  fetch_has [] some = absurd (some refl)
  fetch_has (hole ∷ holes) some = inl refl

  pub listed_case : (path octets : List ℕ) → Has (listed_tags spec payload) (path, octets) → TagCase spec payload path octets
  listed_case path octets (inl e) = let p = parts (info_file spec payload) path octets e in the_info p.0 p.1
  listed_case path octets (inr (inl e)) = let p = parts bagit_file path octets e in the_declaration p.0 p.1
  listed_case path octets (inr (inr h)) = elim (has_either (fetch_files payload spec.holes.items) (map (manifest_of Payload payload) (algs_in spec.algs)) (path, octets) h) [
    | inl k ↦ (let f = fetch_case spec.holes.items path octets k in the_fetch f.0 f.1 f.2)
    | inr k ↦ manifest_case Payload path octets k
  ]

  pub tag_case : (path octets : List ℕ) → Has (tag_files spec payload) (path, octets) → TagCase spec payload path octets
  tag_case path octets h = elim (has_either (listed_tags spec payload) (map (manifest_of Tag (listed_tags spec payload)) (algs_in spec.algs)) (path, octets) h) [
    | inl k ↦ listed_case path octets k
    | inr k ↦ manifest_case Tag path octets k
  ]

  -- and each is there
  pub listed_tag : (path octets : List ℕ) → Has (listed_tags spec payload) (path, octets) → Has (tag_files spec payload) (path, octets)
  listed_tag path octets h = has_left (listed_tags spec payload) (map (manifest_of Tag (listed_tags spec payload)) (algs_in spec.algs)) (path, octets) h

  pub has_info : Has (listed_tags spec payload) (info_file spec payload)
  has_info = inl refl

  pub has_declaration : Has (listed_tags spec payload) (declaration_file, written_declaration)
  has_declaration = inr (inl refl)

  pub has_fetch : spec.holes.items ≢ [] → Has (listed_tags spec payload) (text_file FetchList, fetch_octets payload spec.holes.items)
  has_fetch some = inr (inr (has_left (fetch_files payload spec.holes.items) (map (manifest_of Payload payload) (algs_in spec.algs)) (text_file FetchList, fetch_octets payload spec.holes.items) (fetch_has spec.holes.items some)))

  pub has_payload_manifest : (alg : Alg) → has spec.algs alg ≡ true → Has (listed_tags spec payload) (manifest_of Payload payload alg)
  has_payload_manifest alg h = inr (inr (has_right (fetch_files payload spec.holes.items) (map (manifest_of Payload payload) (algs_in spec.algs)) (manifest_of Payload payload alg) (manifest_has Payload alg h)))

  pub has_manifest : (kind : Kind) (alg : Alg) → has spec.algs alg ≡ true → Has (tag_files spec payload) (manifest_of kind (files_in spec payload kind) alg)
  has_manifest Payload alg h = listed_tag _ _ (has_payload_manifest alg h)
  has_manifest Tag alg h = has_right (listed_tags spec payload) (map (manifest_of Tag (listed_tags spec payload)) (algs_in spec.algs)) (manifest_of Tag (listed_tags spec payload) alg) (manifest_has Tag alg h)
