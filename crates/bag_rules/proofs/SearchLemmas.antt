-- What a binary search finds among items in the order of their paths.
use Rattle.std.proofs.Common.{◌≡◌, ◌≢◌, ◌<◌, ◌+◌, ◌∙◌, ◌↔◌, ℕ, List, Contains, Some, Result, Ok, Err, IsTrue, is_ok, get_or, length, map, slice_get, refl, sym, ap, subst, inl, inr, arith}
use Rattle.bag_rules.proofs.Words.{AreRising, cases_lt, Equal, exact_bytes, false≢true, get_or_from_slice_get, Greater, Has, HoldsAt, is_lt, IsBinarySearchResult, IsNonDecreasingBy, IsSearchInRange, Less, nat_cmp, nat_list_cmp_total, option_map, Ordering, ordering_index, ordering_reverse, searchable_from_sorted, slice_cmp, slice_get-map, slice_get_within, tied_itself}
use Rattle.bag_rules.proofs.EachLemmas.{stands_at}
use Rattle.bag_rules.proofs.HasLemmas.{contains_from_has, has_at, has_from_contains, has_from_map, has_map, place_of_has}
use Rattle.bag_rules.proofs.RisingPaths.{lesser}
use Rattle.bag_digest.proofs.ListLemmas.{stands}

module _ {X : Type 0} (path_of : X → List ℕ) (items : List X) (path : List ℕ) where
  -- what a search compares
  abbrev pub against : X → Ordering
  against x = slice_cmp nat_cmp (path_of x) path

  path_at : (k : ℕ) (d : X) → k < length items → slice_get (map path_of items) k ≡ Some (path_of (get_or items k d))
  path_at k d within = slice_get-map path_of items k ∙ ap (option_map path_of) (stands_at items k d within)

  -- the results of the comparison ascend along items in order
  answers_rise : AreRising (map path_of items) → IsNonDecreasingBy (λ x. ordering_index (against x)) items
  answers_rise rising = searchable_from_sorted nat_list_cmp_total path_of items path (λ k d _ next.
      let below : k + 1 < length items = omega (arith, next) in
      let less = lesser (map path_of items) rising k (k + 1) (path_of (get_or items k d)) (path_of (get_or items (k + 1) d)) (path_at k d (omega (arith, below))) (path_at (k + 1) d below) (omega arith) in
      ap is_lt (nat_list_cmp_total.antisymm (path_of (get_or items (k + 1) d)) (path_of (get_or items k d)) ∙ ap ordering_reverse less))

  pub found : (i : ℕ) → i < length items → HoldsAt (λ x. against x ≡ Equal) items i → (x : X) × (slice_get items i ≡ Some x) × (path_of x ≡ path)
  found i within equal =
      let here = stands items i within in
      (here.0, here.1, exact_bytes (path_of here.0) path (ap against (sym (get_or_from_slice_get items i here.0 here.0 here.1)) ∙ equal here.0))

  pub absent : AreRising (map path_of items) → (i : ℕ) → IsBinarySearchResult against items (Err i) → (x : X) → Has items x → path_of x ≢ path
  absent rising i parted x has same =
      let place = place_of_has items x has in
      let here : get_or items place.0 x ≡ x = get_or_from_slice_get items place.0 x x place.1 in
      let tied : against (get_or items place.0 x) ≡ Equal = ap against here ∙ ap (slice_cmp nat_cmp (path_of x)) (sym same) ∙ tied_itself nat_list_cmp_total (path_of x) in
      elim (cases_lt place.0 i) [
        | inl below ↦ (let less = (parted (answers_rise rising)).0 place.0 x (omega arith) below in let k : Less ≡ Equal = sym less ∙ tied in cc)
        | inr from ↦ (let more = (parted (answers_rise rising)).1 place.0 x (omega (arith, from)) (slice_get_within items place.0 x place.1) in let k : Greater ≡ Equal = sym more ∙ tied in cc)
      ]

  -- it is found exactly if an item has the path
  pub told : AreRising (map path_of items) → (r : Result ℕ ℕ) → IsSearchInRange r (length items) → IsBinarySearchResult against items r → IsTrue (is_ok r) ↔ Contains (map path_of items) path
  told rising (Ok i) within equal = (
    λ _. (let here = found i within equal in contains_from_has (map path_of items) path (subst (Has (map path_of items)) here.2 (has_map path_of items here.0 (has_at items i here.0 here.1)))),
    λ _. refl,
  )
  told rising (Err i) within parted = (
    λ no. absurd (false≢true no),
    λ contains. absurd (let one = has_from_map path_of items path (has_from_contains (map path_of items) path contains) in absent rising i parted one.0 one.1 one.2),
  )
