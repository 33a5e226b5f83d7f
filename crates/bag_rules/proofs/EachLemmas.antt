-- Faults that are added item by item.
use Rattle.std.proofs.Common.{arith, zero, suc, ◌≡◌, ◌<◌, ◌+◌, ℕ, List, [], ◌∷◌, ◌++◌, Some, length, take, slice_get, get_or, refl, sym, ap, ◌∙◌, inl, inr, subst}
use Rattle.bag_rules.proofs.Words.{Adds, Fault, get_or_from_slice_get, Has, slice_get_within, take-length, take_more}
use Rattle.bag_rules.specs.FilesInside.{OfSome}
use Rattle.bag_rules.proofs.HasLemmas.{has_push}
use Rattle.bag_rules.proofs.AddsLemmas.{adds_on}

-- the faults of one more item
pub each_more : {X : Type 0} (xs : List X) (i : ℕ) (x : X) (of : X → Fault → Type 0) (old mid new : List Fault) → i < length xs → x ≡ get_or xs i x → Adds old mid (OfSome (take i xs) of) → Adds mid new (of x) → Adds old new (OfSome (take (i + 1) xs) of)
each_more {X} xs i x of old mid new inside is a b =
    let more : take (i + 1) xs ≡ take i xs ++ x ∷ [] = take_more xs i x inside ∙ ap (λ (y : X). take i xs ++ y ∷ []) (sym is) in
    adds_on old mid new (OfSome (take i xs) of) (of x) (OfSome (take (i + 1) xs) of)
    (λ f h. elim ((has_push (take i xs) x h.0).0 (subst (λ ys. Has ys h.0) more h.1)) [
      | inl k ↦ inl (h.0, k, h.2)
      | inr e ↦ inr (subst (λ y. of y f) (sym e) h.2)
    ])
    (λ f h. (h.0, subst (λ ys. Has ys h.0) (sym more) ((has_push (take i xs) x h.0).1 (inl h.1)), h.2))
    (λ f h. (x, subst (λ ys. Has ys x) (sym more) ((has_push (take i xs) x x).1 (inr refl)), h))
    a b

-- the same, at a place
pub each_at : {X : Type 0} (xs : List X) (i : ℕ) (x : X) (of : X → Fault → Type 0) (old mid new : List Fault) → slice_get xs i ≡ Some x → Adds old mid (OfSome (take i xs) of) → Adds mid new (of x) → Adds old new (OfSome (take (i + 1) xs) of)
each_at xs i x of old mid new at a b = each_more xs i x of old mid new (slice_get_within xs i x at) (sym (get_or_from_slice_get xs i x x at)) a b

-- the faults of all items
pub each_all : {X : Type 0} (xs : List X) (i : ℕ) (of : X → Fault → Type 0) (old new : List Fault) → i ≡ length xs → Adds old new (OfSome (take i xs) of) → Adds old new (OfSome xs of)
each_all xs i of old new n a = subst (λ ys. Adds old new (OfSome ys of)) (ap (λ k. take k xs) n ∙ take-length xs) a

-- WHAT HOLDS OF EACH ITEM

pub holds_more : {X : Type 0} (xs : List X) (i : ℕ) (x : X) (P : X → Type 0) → slice_get xs i ≡ Some x → ((y : X) → Has (take i xs) y → P y) → P x → (y : X) → Has (take (i + 1) xs) y → P y
holds_more {X} xs i x P at before here y has =
    let more : take (i + 1) xs ≡ take i xs ++ x ∷ [] = take_more xs i x (slice_get_within xs i x at) ∙ ap (λ (z : X). take i xs ++ z ∷ []) (get_or_from_slice_get xs i x x at) in
    elim ((has_push (take i xs) x y).0 (subst (λ ys. Has ys y) more has)) [ inl k ↦ before y k | inr e ↦ subst P e here ]

pub holds_all : {X : Type 0} (xs : List X) (i : ℕ) (P : X → Type 0) → i ≡ length xs → ((y : X) → Has (take i xs) y → P y) → (y : X) → Has xs y → P y
holds_all xs i P n before y has = before y (subst (λ ys. Has ys y) (sym (ap (λ k. take k xs) n ∙ take-length xs)) has)

pub stands_at : {X : Type 0} (xs : List X) (i : ℕ) (d : X) → i < length xs → slice_get xs i ≡ Some (get_or xs i d)
stands_at [] i d h = absurd (omega (arith, h))
stands_at (x ∷ xs) zero d h = refl
stands_at (x ∷ xs) (suc i) d h = stands_at xs i d (omega (arith, h))
