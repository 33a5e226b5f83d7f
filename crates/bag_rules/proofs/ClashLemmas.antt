-- The first of some paths that is that of a folder, and clashes of a transfer.
use Rattle.std.proofs.Common.{◌≡◌, ◌↔◌, ℕ, ◌<◌, ◌++◌, true, false, List, [], Option, Some, None, Result, Ok, Err, IfOk, MatchOption, Contains, get_or, length, refl, sym, ap, subst, ◌∙◌, inl, inr}
use Rattle.std.proofs.lemmas.Cmp.{nat_list_cmp_total}
use Rattle.std.proofs.lemmas.List.{get_or_default}
use Rattle.std.proofs.lemmas.List.Elements.{Contains-append_cases, Contains-append_left, Contains-append_right}
use Rattle.std.proofs.lemmas.List.Sorted.{ranks_by, sorted_far}
use Rattle.std.specs.List.Sorted.{IsPermutation, IsSorted}
use Rattle.bag_rules.specs.Bags.{shown_of}
use Rattle.bag_rules.specs.Opening.{HasInside, IsClash, IsFirstPath, IsFolderAmong, IsPathOf}
use Rattle.bag_rules.specs.Transfers.{AreExpected, tag_bag}
use Rattle.bag_rules.proofs.Words.{cases_lt, Contains-permutation, Files, is_lt, IsPermutation-sym, IsThere, keys_of, nat_cmp, ordering_reverse, paths_in, slice_cmp}
use Rattle.bag_rules.proofs.TreeLemmas.{all_paths, is_there, shows}

-- the same paths in order
pub record AreInOrder (all paths : List (List ℕ)) : Type 0 where
  pub sorted : IsSorted (slice_cmp nat_cmp) paths
  pub moved : IsPermutation all paths

module _ (all paths : List (List ℕ)) (are : AreInOrder all paths) where
  -- such a path is at some place, and some path is inside
  folder_at : (path : List ℕ) → IsFolderAmong all path → (k : ℕ) × (k < length paths) × (get_or paths k [] ≡ path) × HasInside paths (get_or paths k [])
  folder_at path is =
      let at = Contains-permutation all paths path are.moved is.0 in
      let here : get_or paths at.0 [] ≡ path = get_or_default paths at.0 [] path at.1 ∙ at.2 in
      let other = is.1 in
      (at.0, at.1, here, subst (HasInside paths) (sym here) (other.0, Contains-permutation all paths other.0 are.moved other.1, other.2))

  -- if none has a path inside, none is that of a folder
  pub no_folder : ((k : ℕ) → k < length paths → ¬ HasInside paths (get_or paths k [])) → (path : List ℕ) → ¬ IsFolderAmong all path
  no_folder none path is = let at = folder_at path is in none at.0 at.1 at.3

  -- the first that has a path inside is the first that is
  pub first_is : (i : ℕ) (path : List ℕ) → i < length paths → path ≡ get_or paths i path → ((k : ℕ) → k < i → ¬ HasInside paths (get_or paths k [])) → HasInside paths path → IsFirstPath (IsFolderAmong all) path
  first_is i path within here none inside = record {
    has =
        let back = IsPermutation-sym all paths are.moved in
        (Contains-permutation paths all path back (i, within, sym here), (inside.0, Contains-permutation paths all inside.0 back inside.1, inside.2));
    first = λ other is above.
        let at = folder_at other is in
        elim (cases_lt at.0 i) [
          | inl below ↦ none at.0 below at.3
          | inr from ↦ (
              let upto = sorted_far (λ x y. is_lt (slice_cmp nat_cmp x y)) (ranks_by nat_list_cmp_total (λ x. x)) paths are.sorted i at.0 [] from at.1 in
              let placed : get_or paths i [] ≡ path = get_or_default paths i [] path within ∙ sym here in
              let not_below : is_lt (slice_cmp nat_cmp other path) ≡ false = sym (λ t. is_lt (slice_cmp nat_cmp (at.2 t) (placed t))) ∙ upto in
              let turned = nat_list_cmp_total.antisymm other path ∙ ap ordering_reverse above in
              absurd (let below : true ≡ false = sym (ap is_lt turned) ∙ not_below in cc)
              )
        ];
  }

is_tag_path : (tags : Files) (path : List ℕ) → Contains (keys_of tags) path ↔ IsThere (tag_bag tags) path
is_tag_path tags path =
    let same : paths_in (shown_of (tag_bag tags)) ≡ keys_of tags = all_paths tags in (
      λ found. is_there (tag_bag tags) refl path (subst (λ paths. Contains paths path) (sym same) found),
      λ there. subst (λ paths. Contains paths path) same (shows (tag_bag tags) refl path there),
    )

module _ (tags : Files) (expected : List (List ℕ)) (listed : AreExpected tags expected) where
  is_path_of : (path : List ℕ) → Contains (keys_of tags ++ expected) path → IsPathOf tags path
  is_path_of path found = elim (Contains-append_cases (keys_of tags) expected path found) [
    | inl tag ↦ inl ((is_tag_path tags path).0 tag)
    | inr later ↦ inr ((listed.exact path).0 later)
  ]

  path_among : (path : List ℕ) → IsPathOf tags path → Contains (keys_of tags ++ expected) path
  path_among path is = elim is [
    | inl tag ↦ Contains-append_left (keys_of tags) expected path ((is_tag_path tags path).1 tag)
    | inr later ↦ Contains-append_right (keys_of tags) expected path ((listed.exact path).1 later)
  ]

  clash_is : (path : List ℕ) → IsFolderAmong (keys_of tags ++ expected) path → IsClash tags path
  clash_is path is = let other = is.1 in (is_path_of path is.0, (other.0, is_path_of other.0 other.1, other.2))

  is_clash : (path : List ℕ) → IsClash tags path → IsFolderAmong (keys_of tags ++ expected) path
  is_clash path clash = let other = clash.1 in (path_among path clash.0, (other.0, path_among other.0 other.1, other.2))

  -- the first path that is that of a folder is the first that clashes
  first_clashes : (found : Option (List ℕ)) → MatchOption found ((path : List ℕ) → ¬ IsFolderAmong (keys_of tags ++ expected) path) (IsFirstPath (IsFolderAmong (keys_of tags ++ expected))) → MatchOption found ((path : List ℕ) → ¬ IsClash tags path) (IsFirstPath (IsClash tags))
  first_clashes None none = λ path clash. none path (is_clash path clash)
  first_clashes (Some path) is = record { has = clash_is path is.has; first = λ other clash. is.first other (is_clash other clash) }

  pub clash_told : {E : Type 0} (r : Result (Option (List ℕ)) E) (all : List (List ℕ)) → all ≡ keys_of tags ++ expected
      → IfOk r (λ found. MatchOption found ((path : List ℕ) → ¬ IsFolderAmong all path) (IsFirstPath (IsFolderAmong all)))
      → IfOk r (λ found. MatchOption found ((path : List ℕ) → ¬ IsClash tags path) (IsFirstPath (IsClash tags)))
  clash_told (Ok found) all same told = first_clashes found (subst (λ (paths : List (List ℕ)). MatchOption found ((path : List ℕ) → ¬ IsFolderAmong paths path) (IsFirstPath (IsFolderAmong paths))) same told)
  clash_told (Err fault) all same told = tt
