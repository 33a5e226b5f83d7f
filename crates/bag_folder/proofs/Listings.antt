-- Paths that were sorted, whether one is a payload path, and what is below a folder with them.
use Rattle.std.proofs.Common.{◌≡◌, ◌↔◌, ℕ, List, [], ◌∷◌, Bool, true, false, ◌||◌, All, Contains, sym, subst, ◌∙◌, inl, inr, None, Option, Some, ap, refl, zero, suc}
use Rattle.std.specs.Prelude.{IsSomeAnd, nat_eq}
use Rattle.std.specs.Ordering.{nat_cmp}
use Rattle.std.specs.Cmp.Lexicographic.{slice_cmp, pointwise}
use Rattle.std.specs.List.{list_any, slice_get}
use Rattle.std.specs.List.Retain.{IsFiltered, DiffersFromLast}
use Rattle.std.specs.List.Sorted.{IsSorted, IsPermutation}
use Rattle.std.proofs.lemmas.Bool.{or_cases, or_left, or_right, false≢true}
use Rattle.std.proofs.lemmas.Cmp.{nat_list_cmp_total, nat_list_eq_equiv}
use Rattle.std.proofs.lemmas.List.Elements.{All-contains, All-contains_itself, All-nil, All-cons, All-weaker, Contains-append_left, Contains-append_right, Contains-push}
use Rattle.std.proofs.lemmas.List.Filters.{dedup_is}
use Rattle.std.proofs.lemmas.List.Kept.{IsStrictlySortedBy-dedup, Contains-dedup, Contains-from_dedup}
use Rattle.std.proofs.lemmas.List.Sorted.{Contains-permutation, IsPermutation-sym}
use Rattle.std.proofs.lemmas.Map.Text.{is_eq-slice_cmp}
use Rattle.std.proofs.lemmas.Slice.Eq.{bytes_eq-Decides}
use Rattle.bag_path.specs.Paths.{is_payload}
use Rattle.bag_rules.specs.Trees.{AreRising, Shown, octets_in, paths_in}
use Rattle.bag_folder.specs.Directories.{IsBelow, Listing}
use Rattle.bag_folder.specs.Folders.{FolderShown, IsListing, file_with, shown_by}

-- sorted paths are in strict order once repeats are dropped
pub rising_once : (sorted once : List (List ℕ)) → IsSorted (slice_cmp nat_cmp) sorted → IsFiltered (DiffersFromLast (pointwise nat_eq)) [] sorted once → AreRising once
rising_once sorted once order filtered =
    subst AreRising (sym (dedup_is (pointwise nat_eq) sorted once filtered))
    (IsStrictlySortedBy-dedup nat_list_cmp_total (λ x y. sym (is_eq-slice_cmp x y)) sorted order)

-- the set of paths is the same
pub kept_once : (paths sorted once : List (List ℕ)) → IsPermutation paths sorted → IsFiltered (DiffersFromLast (pointwise nat_eq)) [] sorted once → (path : List ℕ) → Contains once path ↔ Contains paths path
kept_once paths sorted once moved filtered path =
    let once_is = dedup_is (pointwise nat_eq) sorted once filtered in (
      λ found. Contains-permutation sorted paths path (IsPermutation-sym paths sorted moved) (Contains-from_dedup (pointwise nat_eq) sorted path (subst (λ xs. Contains xs path) once_is found)),
      λ found. subst (λ xs. Contains xs path) (sym once_is) (Contains-dedup nat_list_eq_equiv (λ x y h. (bytes_eq-Decides x y).0 h) sorted path (Contains-permutation paths sorted path moved found)),
    )

-- if a path passes, some path passes
any_passes : (test : List ℕ → Bool) (paths : List (List ℕ)) → All (λ path. test path ≡ true → list_any test paths ≡ true) paths
any_passes test [] = All-nil (λ path. test path ≡ true → false ≡ true)
any_passes test (first ∷ paths) =
    All-cons (λ path. test path ≡ true → (test first || list_any test paths) ≡ true) first paths
    (λ passes. or_left (test first) (list_any test paths) passes)
    (All-weaker (λ path. test path ≡ true → list_any test paths ≡ true) (λ path. test path ≡ true → (test first || list_any test paths) ≡ true) (λ path here passes. or_right (test first) (list_any test paths) (here passes)) paths (any_passes test paths))

-- a payload file has its directory, if one was found or some path is a payload path
has_its_dir : (found has_dir : Bool) (paths : List (List ℕ)) → has_dir ≡ (found || list_any is_payload paths) → All (λ path. is_payload path ≡ true → has_dir ≡ true) paths
has_its_dir found has_dir paths is =
    All-weaker (λ path. is_payload path ≡ true → list_any is_payload paths ≡ true) (λ path. is_payload path ≡ true → has_dir ≡ true) (λ path here payload. is ∙ or_right found (list_any is_payload paths) (here payload)) paths (any_passes is_payload paths)

-- what was found, in order, is a listing
pub listing_of : (found_dir has_dir : Bool) (found once : List (List ℕ))
    → has_dir ≡ (found_dir || list_any is_payload found) → AreRising once
    → ((path : List ℕ) → Contains once path ↔ Contains found path) → IsListing once has_dir
listing_of found_dir has_dir found once is rising kept =
    let HasItsDir : List ℕ → Type 0 = λ path. is_payload path ≡ true → has_dir ≡ true in
    record {
      rising = rising;
      payload = All-weaker (Contains once) HasItsDir
          (λ path here. All-contains HasItsDir found path
          (has_its_dir found_dir has_dir found is) ((kept path).0 here))
          once (All-contains_itself once);
    }

some_passes : (test : List ℕ → Bool) (paths : List (List ℕ)) → list_any test paths ≡ true → (path : List ℕ) × Contains paths path × (test path ≡ true)
some_passes test [] h = absurd (false≢true h)
some_passes test (first ∷ paths) h = elim (or_cases (test first) (list_any test paths) h) [
  | inl passes ↦ (first, Contains-append_left (first ∷ []) paths first (Contains-push [] first), passes)
  | inr later ↦ let found = some_passes test paths later in (found.0, Contains-append_right (first ∷ []) paths found.0 found.1, found.2)
]

-- the same paths in order, and the payload directory if a path is in it
pub below_in_order : (listing : Listing) (folder : List ℕ) (found once : List (List ℕ)) (found_dir has_dir : Bool) → IsBelow listing folder found found_dir
    → ((path : List ℕ) → Contains once path ↔ Contains found path) → has_dir ≡ (found_dir || list_any is_payload found) → IsBelow listing folder once has_dir
below_in_order listing folder found once found_dir has_dir below kept is = record {
  files = λ path. (λ here. (below.files path).0 ((kept path).0 here), λ there. (kept path).1 ((below.files path).1 there));
  listed = below.listed;
  no_link = below.no_link;
  nothing_special = below.nothing_special;
  payload = λ there. is ∙ or_left found_dir (list_any is_payload found) (below.payload there);
  no_payload = λ here. elim (or_cases found_dir (list_any is_payload found) (sym is ∙ here)) [
    | inl before ↦ elim (below.no_payload before) [ inl there ↦ inl there | inr file ↦ inr (file.0, (kept file.0).1 file.1, file.2) ]
    | inr some ↦ let file = some_passes is_payload found some in inr (file.0, (kept file.0).1 file.1, file.2)
  ];
}

-- WHAT IS SHOWN OF PATHS

module _ (octets : List ℕ → Option (List ℕ)) where
  pub paths_shown : (paths : List (List ℕ)) (has_dir : Bool)
      → paths_in (shown_by octets paths has_dir) ≡ paths
  unfolding file_with
  paths_shown [] has_dir = refl
  paths_shown (path ∷ paths) has_dir =
      ap (λ (rest : List (List ℕ)). path ∷ rest) (paths_shown paths has_dir)

  same_value : (a b : List ℕ) → Some a ≡ Some b → a ≡ b
  same_value a b h = cc

  none_is_not_some : (a : List ℕ) → None ≡ Some a → ⊥
  none_is_not_some a h = cc

  -- the octets that are shown at the place of a path are those of the path
  pub octets_shown : (paths : List (List ℕ)) (has_dir : Bool) (i : ℕ) (path : List ℕ)
      → slice_get paths i ≡ Some path → octets_in (shown_by octets paths has_dir) i ≡ octets path
  unfolding file_with
  octets_shown [] has_dir i path at = absurd (none_is_not_some path at)
  octets_shown (first ∷ paths) has_dir zero path at = ap octets (same_value first path at)
  octets_shown (first ∷ paths) has_dir (suc i) path at = octets_shown paths has_dir i path at

  -- the paths that a folder shows are the ones that it holds
  pub paths_seen : (tree : FolderShown) (paths : List (List ℕ)) (has_dir : Bool)
      → shown_by octets paths has_dir ≡ tree.shown → paths_in tree.shown ≡ paths
  paths_seen tree paths has_dir is = ap paths_in (sym is) ∙ paths_shown paths has_dir

  -- and so are the octets
  pub octets_seen : (tree : FolderShown) (paths : List (List ℕ)) (has_dir : Bool) (i : ℕ)
      (path : List ℕ) → shown_by octets paths has_dir ≡ tree.shown
      → slice_get paths i ≡ Some path → octets_in tree.shown i ≡ octets path
  octets_seen tree paths has_dir i path is at =
      ap (λ (shown : Shown). octets_in shown i) (sym is) ∙ octets_shown paths has_dir i path at

  -- what is shown is shown of the paths that are shown
  pub shown_again : (paths : List (List ℕ)) (has_dir : Bool)
      → let shown = shown_by octets paths has_dir in
      shown ≡ shown_by octets (paths_in shown) shown.has_payload_dir
  shown_again paths has_dir =
      ap (λ (others : List (List ℕ)). shown_by octets others has_dir)
      (sym (paths_shown paths has_dir))

-- what holds of the path that was read holds of the one at that place
pub found_at : (paths shown : List (List ℕ)) (i : ℕ) (path : List ℕ) → shown ≡ paths
    → slice_get paths i ≡ Some path → (P : List ℕ → Type 0) → P path
    → IsSomeAnd (slice_get shown i) P
found_at paths shown i path seen at P here =
    subst (λ (found : Option (List ℕ)). IsSomeAnd found P)
    (sym (ap (λ (xs : List (List ℕ)). slice_get xs i) seen ∙ at)) here
