-- Two sorted lists with the same members are the same.
use Rattle.std.proofs.Common.{◌≡◌, List, [], ◌∷◌, map, refl, sym, ap, subst, inl, inr, ◌∙◌}
use Rattle.bag_rules.proofs.Words.{AllByRecursion, Greater, Has, IsTotalOrder, Less, Ordering, ordering_reverse}
use Rattle.std.specs.List.Sorted.{IsStrictlySortedBy}

-- at most one of two is less than the other
abbrev pub IsAsymmetric : {X : Type 0} → (X → X → Ordering) → Type 0
IsAsymmetric {X} cmp = (x y : X) → cmp x y ≡ Less → cmp y x ≡ Less → ⊥

pub asymmetric : {X : Type 0} {cmp : X → X → Ordering} → IsTotalOrder cmp → IsAsymmetric cmp
asymmetric order x y less back = let turned : Less ≡ Greater = sym less ∙ order.antisymm x y ∙ ap ordering_reverse back in cc

-- lists that are sorted by a key
all_of_keys : {X K : Type 0} (key : X → K) (P : K → Type 0) (xs : List X) → AllByRecursion P (map key xs) → AllByRecursion (λ x. P (key x)) xs
all_of_keys key P [] h = tt
all_of_keys key P (x ∷ xs) h = (h.0, all_of_keys key P xs h.1)

pub sorted_by_key : {X K : Type 0} (key : X → K) (cmp : K → K → Ordering) (xs : List X) → IsStrictlySortedBy cmp (map key xs) → IsStrictlySortedBy (λ x y. cmp (key x) (key y)) xs
unfolding IsStrictlySortedBy
sorted_by_key key cmp [] h = tt
sorted_by_key key cmp (x ∷ xs) h = (all_of_keys key (λ k. cmp (key x) k ≡ Less) xs h.0, sorted_by_key key cmp xs h.1)

pub all_has : {X : Type 0} (P : X → Type 0) (xs : List X) (x : X) → AllByRecursion P xs → Has xs x → P x
all_has P [] x all has = absurd has
all_has P (first ∷ xs) x all (inl e) = subst P e all.0
all_has P (first ∷ xs) x all (inr has) = all_has P xs x all.1 has

module _ {X : Type 0} (cmp : X → X → Ordering) (asym : IsAsymmetric cmp) where
  -- the first of a sorted list is first in each
  first_same : (x y : X) (xs ys : List X) → IsStrictlySortedBy cmp (x ∷ xs) → IsStrictlySortedBy cmp (y ∷ ys) → Has (x ∷ xs) y → Has (y ∷ ys) x → x ≡ y
  unfolding IsStrictlySortedBy
  first_same x y xs ys p q (inl e) k = e
  first_same x y xs ys p q (inr h) (inl e) = sym e
  first_same x y xs ys p q (inr h) (inr k) = absurd (asym x y (all_has (λ z. cmp x z ≡ Less) xs y p.0 h) (all_has (λ z. cmp y z ≡ Less) ys x q.0 k))

  -- what is after the first isn't the first
  later : (x y z : X) (xs ys : List X) → IsStrictlySortedBy cmp (x ∷ xs) → x ≡ y → Has xs z → Has (y ∷ ys) z → Has ys z
  unfolding IsStrictlySortedBy
  later x y z xs ys p e has (inr k) = k
  later x y z xs ys p e has (inl f) = let less = subst (λ w. cmp w z ≡ Less) (e ∙ f) (all_has (λ w. cmp x w ≡ Less) xs z p.0 has) in absurd (asym z z less less)

  pub same_list : (xs ys : List X) → IsStrictlySortedBy cmp xs → IsStrictlySortedBy cmp ys → ((x : X) → Has xs x → Has ys x) → ((x : X) → Has ys x → Has xs x) → xs ≡ ys
  unfolding IsStrictlySortedBy
  same_list [] [] p q to from = refl
  same_list [] (y ∷ ys) p q to from = absurd (from y (inl refl))
  same_list (x ∷ xs) [] p q to from = absurd (to x (inl refl))
  same_list (x ∷ xs) (y ∷ ys) p q to from =
      let e = first_same x y xs ys p q (from y (inl refl)) (to x (inl refl)) in
      let rest = same_list xs ys p.1 q.1 (λ z has. later x y z xs ys p e has (to z (inr has))) (λ z has. later y x z ys xs q (sym e) has (from z (inr has))) in
      ap (λ w. w ∷ xs) e ∙ ap (λ ws. y ∷ ws) rest
