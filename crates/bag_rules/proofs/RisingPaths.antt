-- The places of paths in a list in ascending order.
use Rattle.std.proofs.Common.{◌≡◌, ℕ, ◌<◌, List, Some, slice_get, get_or, length, Contains, refl, sym, ap, ◌∙◌, arith, inl, inr}
use Rattle.bag_rules.proofs.Words.{AreRising, cases_order, Equal, get_or_from_slice_get, Greater, Less, Less-from_sorted, nat_cmp, nat_list_cmp_total, ordering_reverse, same_Some, slice_cmp, slice_get_read, slice_get_within, tied_itself}

-- what is in a list is at some place
pub place_of : {X : Type 0} (xs : List X) (x : X) → Contains xs x → (k : ℕ) × (slice_get xs k ≡ Some x)
place_of xs x found = (found.0, slice_get_read xs (length xs) found.0 x refl found.1 (sym found.2))

pub contains_at : {X : Type 0} (xs : List X) (i : ℕ) (x : X) → slice_get xs i ≡ Some x → Contains xs x
contains_at xs i x here = (i, slice_get_within xs i x here, get_or_from_slice_get xs i x x here)

module _ (paths : List (List ℕ)) (rising : AreRising paths) where
  -- the path at the lower place is less
  pub lesser : (i j : ℕ) (x y : List ℕ) → slice_get paths i ≡ Some x → slice_get paths j ≡ Some y → i < j → slice_cmp nat_cmp x y ≡ Less
  lesser i j x y p q below =
      let left : get_or paths i x ≡ x = get_or_from_slice_get paths i x x p in
      let right : get_or paths j x ≡ y = get_or_from_slice_get paths j y x q in
      sym (λ t. slice_cmp nat_cmp (left t) (right t)) ∙ Less-from_sorted _ paths i j x rising below (slice_get_within paths j y q)

  -- the lesser path is at the lower place
  pub lower : (i j : ℕ) (x y : List ℕ) → slice_get paths i ≡ Some x → slice_get paths j ≡ Some y → slice_cmp nat_cmp x y ≡ Less → i < j
  lower i j x y p q less = elim (cases_order i j) [
    | inl place ↦ (
        let same : x ≡ y = same_Some x y (sym p ∙ ap (slice_get paths) place ∙ q) in
        let tied : slice_cmp nat_cmp x y ≡ Equal = ap (slice_cmp nat_cmp x) (sym same) ∙ tied_itself nat_list_cmp_total x in
        absurd (cc)
        )
    | inr other ↦ elim other [
      | inl below ↦ below
      | inr past ↦ (let turned : slice_cmp nat_cmp x y ≡ Greater = nat_list_cmp_total.antisymm x y ∙ ap ordering_reverse (lesser j i y x q p past) in absurd (cc))
    ]
  ]

  -- the greater path is at the higher place
  pub higher : (i j : ℕ) (x y : List ℕ) → slice_get paths i ≡ Some x → slice_get paths j ≡ Some y → slice_cmp nat_cmp x y ≡ Greater → j < i
  higher i j x y p q greater = lower j i y x q p (nat_list_cmp_total.antisymm y x ∙ ap ordering_reverse greater)

  -- a path is at only one place
  pub one_place : (i j : ℕ) (path : List ℕ) → slice_get paths i ≡ Some path → slice_get paths j ≡ Some path → i ≡ j
  one_place i j path p q =
      let not_below : i < j → ⊥ = λ below. (let less = lesser i j path path p q below in let tied = tied_itself nat_list_cmp_total path in cc) in
      let not_above : j < i → ⊥ = λ above. (let less = lesser j i path path q p above in let tied = tied_itself nat_list_cmp_total path in cc) in
      omega (arith, not_below, not_above)
