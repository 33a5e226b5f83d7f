-- The names of the tag files that are written: none is there twice, and none is a payload path.
use Rattle.std.proofs.Common.{◌≡◌, ◌∙◌, ◌++◌, ◌∷◌, [], ℕ, Bool, true, false, List, length, map, refl, sym, ap, subst, inl, inr, arith}
use Rattle.std.specs.List.{AllByRecursion}
use Rattle.std.specs.List.Sorted.{IsStrictlySortedBy}
use Rattle.std.proofs.lemmas.List.{map-append}
use Rattle.bag_digest.specs.declared.algorithm.AlgSet.{AlgSet}
use Rattle.bag_tags.specs.declared.listing.Kind.{Kind}
use Rattle.bag_tags.specs.declared.listing.Kind.TheVariants.{Payload, Tag}
use Rattle.bag_tags.specs.declared.name.LineFile.TheVariants.{Info, FetchList}
use Rattle.bag_tags.specs.Names.{manifest_file, text_file}
use Rattle.bag_rules.proofs.Words.{Alg, AreRising, Files, Less, Md5, Sha1, Sha256, Sha512, cases_Bool, declaration_file, has, is_payload, keys_of, nat_cmp, slice_cmp}
use Rattle.bag_writer.specs.declared.spec.Hole.{Hole}
use Rattle.bag_writer.specs.declared.spec.Spec.{Spec}
use Rattle.bag_writer.specs.WrittenBags.{algs_in, fetch_files, listed_tags, manifest_of, tag_files}

-- the elements of the list whose place is marked
abbrev pub chosen : {X : Type 0} → List Bool → List X → List X
chosen (true ∷ bs) (x ∷ xs) = x ∷ chosen bs xs
chosen (false ∷ bs) (x ∷ xs) = chosen bs xs
chosen _ _ = []

all_chosen : {X : Type 0} (P : X → Type 0) (bs : List Bool) (xs : List X) → AllByRecursion P xs → AllByRecursion P (chosen bs xs)
all_chosen P [] xs all = tt
all_chosen P (true ∷ bs) [] all = tt
all_chosen P (false ∷ bs) [] all = tt
all_chosen P (true ∷ bs) (x ∷ xs) all = (all.0, all_chosen P bs xs all.1)
all_chosen P (false ∷ bs) (x ∷ xs) all = all_chosen P bs xs all.1

rising_chosen : (bs : List Bool) (paths : List (List ℕ)) → AreRising paths → AreRising (chosen bs paths)
unfolding IsStrictlySortedBy
rising_chosen [] paths rising = tt
rising_chosen (true ∷ bs) [] rising = tt
rising_chosen (false ∷ bs) [] rising = tt
rising_chosen (true ∷ bs) (x ∷ paths) rising = (all_chosen (λ y. slice_cmp nat_cmp x y ≡ Less) bs paths rising.0, rising_chosen bs paths rising.1)
rising_chosen (false ∷ bs) (x ∷ paths) rising = rising_chosen bs paths rising.1

algs : List Alg
algs = Md5 ∷ Sha1 ∷ Sha256 ∷ Sha512 ∷ []

-- all names, and which are written
abbrev names : List (List ℕ)
names = text_file Info ∷ declaration_file ∷ text_file FetchList
    ∷ manifest_file Payload Md5 ∷ manifest_file Payload Sha1 ∷ manifest_file Payload Sha256 ∷ manifest_file Payload Sha512
    ∷ manifest_file Tag Md5 ∷ manifest_file Tag Sha1 ∷ manifest_file Tag Sha256 ∷ manifest_file Tag Sha512 ∷ []

abbrev pub has_some : List Hole → Bool
has_some [] = false
has_some (hole ∷ holes) = true

abbrev pub which_listed : Spec → List Bool
which_listed spec = true ∷ true ∷ has_some spec.holes.items
    ∷ has spec.algs Md5 ∷ has spec.algs Sha1 ∷ has spec.algs Sha256 ∷ has spec.algs Sha512 ∷ []

abbrev which : Spec → List Bool
which spec = true ∷ true ∷ has_some spec.holes.items
    ∷ has spec.algs Md5 ∷ has spec.algs Sha1 ∷ has spec.algs Sha256 ∷ has spec.algs Sha512
    ∷ has spec.algs Md5 ∷ has spec.algs Sha1 ∷ has spec.algs Sha256 ∷ has spec.algs Sha512 ∷ []

names_rise : AreRising names
unfolding IsStrictlySortedBy
names_rise = search

-- the names that tag manifests may list
abbrev pub listed_of : List (List ℕ)
listed_of = text_file Info ∷ declaration_file ∷ text_file FetchList ∷ manifest_file Payload Md5 ∷ manifest_file Payload Sha1 ∷ manifest_file Payload Sha256 ∷ manifest_file Payload Sha512 ∷ []

listed_names_rise : AreRising listed_of
unfolding IsStrictlySortedBy
listed_names_rise = search

names_plain : AllByRecursion (λ path. is_payload path ≡ false) names
names_plain = search

chosen_join : {X : Type 0} (cs : List Bool) (xs : List X) (bs : List Bool) (ys : List X) → length cs ≡ length xs → chosen cs xs ++ chosen bs ys ≡ chosen (cs ++ bs) (xs ++ ys)
chosen_join [] [] bs ys same = refl
chosen_join [] (x ∷ xs) bs ys same = absurd (omega (arith, same))
chosen_join (c ∷ cs) [] bs ys same = absurd (omega (arith, same))
chosen_join (true ∷ cs) (x ∷ xs) bs ys same = ap (λ rest. x ∷ rest) (chosen_join cs xs bs ys (omega (arith, same)))
chosen_join (false ∷ cs) (x ∷ xs) bs ys same = chosen_join cs xs bs ys (omega (arith, same))

-- the names of the manifests by these algorithms
manifest_names : (kind : Kind) (set : AlgSet) (files : Files) → keys_of (map (manifest_of kind files) (algs_in set)) ≡ chosen (has set Md5 ∷ has set Sha1 ∷ has set Sha256 ∷ has set Sha512 ∷ []) (manifest_file kind Md5 ∷ manifest_file kind Sha1 ∷ manifest_file kind Sha256 ∷ manifest_file kind Sha512 ∷ [])
manifest_names kind set files =
    elim (cases_Bool (has set Md5)) [
      | inl a ↦ elim (cases_Bool (has set Sha1)) [
        | inl b ↦ elim (cases_Bool (has set Sha256)) [
          | inl c ↦ elim (cases_Bool (has set Sha512)) [ inl d ↦ rw (a, b, c, d) refl | inr d ↦ rw (a, b, c, d) refl ]
          | inr c ↦ elim (cases_Bool (has set Sha512)) [ inl d ↦ rw (a, b, c, d) refl | inr d ↦ rw (a, b, c, d) refl ]
        ]
        | inr b ↦ elim (cases_Bool (has set Sha256)) [
          | inl c ↦ elim (cases_Bool (has set Sha512)) [ inl d ↦ rw (a, b, c, d) refl | inr d ↦ rw (a, b, c, d) refl ]
          | inr c ↦ elim (cases_Bool (has set Sha512)) [ inl d ↦ rw (a, b, c, d) refl | inr d ↦ rw (a, b, c, d) refl ]
        ]
      ]
      | inr a ↦ elim (cases_Bool (has set Sha1)) [
        | inl b ↦ elim (cases_Bool (has set Sha256)) [
          | inl c ↦ elim (cases_Bool (has set Sha512)) [ inl d ↦ rw (a, b, c, d) refl | inr d ↦ rw (a, b, c, d) refl ]
          | inr c ↦ elim (cases_Bool (has set Sha512)) [ inl d ↦ rw (a, b, c, d) refl | inr d ↦ rw (a, b, c, d) refl ]
        ]
        | inr b ↦ elim (cases_Bool (has set Sha256)) [
          | inl c ↦ elim (cases_Bool (has set Sha512)) [ inl d ↦ rw (a, b, c, d) refl | inr d ↦ rw (a, b, c, d) refl ]
          | inr c ↦ elim (cases_Bool (has set Sha512)) [ inl d ↦ rw (a, b, c, d) refl | inr d ↦ rw (a, b, c, d) refl ]
        ]
      ]
    ]

fetch_names : (payload : Files) (holes : List Hole) → keys_of (fetch_files payload holes) ≡ chosen (has_some holes ∷ []) (text_file FetchList ∷ [])
fetch_names payload [] = refl
fetch_names payload (hole ∷ holes) = refl

module _ (spec : Spec) (payload : Files) where
  -- by the algorithms
  abbrev by : List Bool
  by = has spec.algs Md5 ∷ has spec.algs Sha1 ∷ has spec.algs Sha256 ∷ has spec.algs Sha512 ∷ []

  abbrev manifests : Kind → List (List ℕ)
  manifests kind = manifest_file kind Md5 ∷ manifest_file kind Sha1 ∷ manifest_file kind Sha256 ∷ manifest_file kind Sha512 ∷ []

  pub listed_names : keys_of (listed_tags spec payload) ≡ chosen (which_listed spec) listed_of
  listed_names = ap (λ rest. text_file Info ∷ declaration_file ∷ rest) (
      map-append (λ (file : List ℕ × List ℕ). file.0) (fetch_files payload spec.holes.items) (map (manifest_of Payload payload) (algs_in spec.algs))
      ∙ (λ t. fetch_names payload spec.holes.items t ++ manifest_names Payload spec.algs payload t)
      ∙ chosen_join (has_some spec.holes.items ∷ []) (text_file FetchList ∷ []) by (manifests Payload) refl)

  tag_names : keys_of (tag_files spec payload) ≡ chosen (which spec) names
  tag_names =
      map-append (λ (file : List ℕ × List ℕ). file.0) (listed_tags spec payload) (map (manifest_of Tag (listed_tags spec payload)) (algs_in spec.algs))
      ∙ (λ t. listed_names t ++ manifest_names Tag spec.algs (listed_tags spec payload) t)
      ∙ chosen_join (true ∷ true ∷ has_some spec.holes.items ∷ by) (text_file Info ∷ declaration_file ∷ text_file FetchList ∷ manifests Payload) by (manifests Tag) refl

  -- the names of the tag files are in ascending order
  pub tags_rise : AreRising (keys_of (tag_files spec payload))
  tags_rise = subst AreRising (sym tag_names) (rising_chosen (which spec) names names_rise)

  pub listed_rise : AreRising (keys_of (listed_tags spec payload))
  listed_rise = subst AreRising (sym listed_names) (rising_chosen (true ∷ true ∷ has_some spec.holes.items ∷ by) (text_file Info ∷ declaration_file ∷ text_file FetchList ∷ manifests Payload) listed_names_rise)

  -- the names of the tag files are not payload paths
  pub tags_plain : AllByRecursion (λ path. is_payload path ≡ false) (keys_of (tag_files spec payload))
  tags_plain = subst (AllByRecursion (λ path. is_payload path ≡ false)) (sym tag_names) (all_chosen (λ path. is_payload path ≡ false) (which spec) names names_plain)
