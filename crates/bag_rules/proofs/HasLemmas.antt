-- That something is in a list, by recursion and by index.
use native.Mathlib.Omega.{arith}
use Rattle.std.proofs.Common.{◌≡◌, ◌⊎◌, ◌↔◌, ℕ, List, [], ◌∷◌, ◌++◌, Some, map, slice_get, inl, inr, zero, suc, refl, ap, subst}
use Rattle.std.specs.List.{AllByRecursion, Contains}
use Rattle.std.proofs.lemmas.List.Elements.{Contains-append_left, Contains-push, Contains-push_cases}
use Rattle.bag_rules.proofs.Words.{Has}
use Rattle.bag_rules.proofs.RisingPaths.{contains_at, place_of}

pub has_from_contains : {X : Type 0} (xs : List X) (x : X) → Contains xs x → Has xs x
has_from_contains [] x (k, below, is) = grind arith
has_from_contains (first ∷ xs) x (zero, below, is) = inl is
has_from_contains (first ∷ xs) x (suc k, below, is) = inr (has_from_contains xs x (k, omega (arith, below), is))

pub contains_from_has : {X : Type 0} (xs : List X) (x : X) → Has xs x → Contains xs x
contains_from_has [] x h = elim h [ ]
contains_from_has (first ∷ xs) x (inl is) = (0, omega arith, is)
contains_from_has (first ∷ xs) x (inr has) =
    let place = contains_from_has xs x has in
    (suc place.0, omega (arith, place.1), place.2)

-- one more at the end
pub has_push : {X : Type 0} (xs : List X) (new x : X) → Has (xs ++ new ∷ []) x ↔ (Has xs x ⊎ (new ≡ x))
has_push xs new x = (
  λ h. elim (Contains-push_cases xs new x (contains_from_has (xs ++ new ∷ []) x h)) [ inl k ↦ inl (has_from_contains xs x k) | inr e ↦ inr e ],
  λ h. has_from_contains (xs ++ new ∷ []) x (elim h [ inl k ↦ Contains-append_left xs (new ∷ []) x (contains_from_has xs x k) | inr e ↦ subst (Contains (xs ++ new ∷ [])) e (Contains-push xs new) ]),
)

-- what is in one of two lists, or in both joined
pub has_left : {X : Type 0} (xs ys : List X) (x : X) → Has xs x → Has (xs ++ ys) x
has_left [] ys x h = absurd h
has_left (y ∷ xs) ys x (inl e) = inl e
has_left (y ∷ xs) ys x (inr h) = inr (has_left xs ys x h)

pub has_right : {X : Type 0} (xs ys : List X) (x : X) → Has ys x → Has (xs ++ ys) x
has_right [] ys x h = h
has_right (y ∷ xs) ys x h = inr (has_right xs ys x h)

pub has_either : {X : Type 0} (xs ys : List X) (x : X) → Has (xs ++ ys) x → Has xs x ⊎ Has ys x
has_either [] ys x h = inr h
has_either (y ∷ xs) ys x (inl e) = inl (inl e)
has_either (y ∷ xs) ys x (inr h) = elim (has_either xs ys x h) [ inl k ↦ inl (inr k) | inr k ↦ inr k ]

pub has_both : {X : Type 0} (xs ys : List X) (x : X) → Has (xs ++ ys) x ↔ (Has xs x ⊎ Has ys x)
has_both xs ys x = (has_either xs ys x, λ either. elim either [ inl h ↦ has_left xs ys x h | inr h ↦ has_right xs ys x h ])

-- what holds of each
pub all_of : {X : Type 0} (P : X → Type 0) (xs : List X) → ((x : X) → Has xs x → P x) → AllByRecursion P xs
all_of P [] each = tt
all_of P (x ∷ xs) each = (each x (inl refl), all_of P xs (λ y has. each y (inr has)))

pub all_last : {X : Type 0} (P : X → Type 0) (xs : List X) (x : X) → AllByRecursion P xs → P x → AllByRecursion P (xs ++ x ∷ [])
all_last P [] x all here = (here, tt)
all_last P (y ∷ xs) x all here = (all.0, all_last P xs x all.1 here)

-- what is made of each
pub has_map : {X Y : Type 0} (f : X → Y) (xs : List X) (x : X) → Has xs x → Has (map f xs) (f x)
has_map f [] x h = absurd h
has_map f (y ∷ xs) x h = elim h [ inl e ↦ inl (ap f e) | inr k ↦ inr (has_map f xs x k) ]

pub has_from_map : {X Y : Type 0} (f : X → Y) (xs : List X) (y : Y) → Has (map f xs) y → (x : X) × Has xs x × (f x ≡ y)
has_from_map f [] y h = absurd h
has_from_map f (x ∷ xs) y h = elim h [ inl e ↦ (x, inl refl, e) | inr k ↦ (let r = has_from_map f xs y k in (r.0, inr r.1, r.2)) ]

-- what stands at a place is in the list
pub has_at : {X : Type 0} (xs : List X) (i : ℕ) (x : X) → slice_get xs i ≡ Some x → Has xs x
has_at xs i x here = has_from_contains xs x (contains_at xs i x here)

pub place_of_has : {X : Type 0} (xs : List X) (x : X) → Has xs x → (i : ℕ) × (slice_get xs i ≡ Some x)
place_of_has xs x h = place_of xs x (contains_from_has xs x h)
