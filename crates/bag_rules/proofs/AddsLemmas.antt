-- Faults that are added to others.
use Rattle.std.proofs.Common.{◌≡◌, ◌⊎◌, ◌==◌, ℕ, true, List, [], ◌∷◌, ◌++◌, sym, ◌∙◌, inl, inr, subst}
use Rattle.bag_rules.proofs.Words.{Adds, Bag, Fault, Has, HasFault, HasFaultOf, list_any, list_any-append, number_of, or_cases, or_left, or_right}
use Rattle.bag_rules.proofs.HasLemmas.{has_push}

pub adds_push : (old new : List Fault) (fault : Fault) → new ≡ old ++ fault ∷ [] → Adds old new (λ f. fault ≡ f)
adds_push old new fault e f = let r = has_push old fault f in (λ h. r.0 (subst (λ fs. Has fs f) e h), λ h. subst (λ fs. Has fs f) (sym e) (r.1 h))

-- the same faults, said in another way
pub adds_so : (old new : List Fault) (P Q : Fault → Type 0) → ((f : Fault) → P f → Q f) → ((f : Fault) → Q f → P f) → Adds old new P → Adds old new Q
adds_so old new P Q there back a f = (
  λ h. elim ((a f).0 h) [ inl k ↦ inl k | inr p ↦ inr (there f p) ],
  λ h. elim h [ inl k ↦ (a f).1 (inl k) | inr q ↦ (a f).1 (inr (back f q)) ],
)

pub adds_none : (faults : List Fault) (P : Fault → Type 0) → ((f : Fault) → P f → ⊥) → Adds faults faults P
adds_none faults P none f = (λ h. inl h, λ h. elim h [ inl k ↦ k | inr p ↦ absurd (none f p) ])

pub adds_same : (old new : List Fault) (P : Fault → Type 0) → new ≡ old → ((f : Fault) → P f → ⊥) → Adds old new P
adds_same old new P same none = subst (λ fs. Adds old fs P) (sym same) (adds_none old P none)

-- one more fault, which is the only one of which P is true
pub adds_one : (old new : List Fault) (fault : Fault) (P : Fault → Type 0) → new ≡ old ++ fault ∷ [] → P fault → ((f : Fault) → P f → fault ≡ f) → Adds old new P
adds_one old new fault P e here only = adds_so old new (λ f. fault ≡ f) P (λ f same. subst P same here) only (adds_push old new fault e)

-- faults that are added one after another
pub adds_on : (old mid new : List Fault) (P Q R : Fault → Type 0) → ((f : Fault) → R f → P f ⊎ Q f) → ((f : Fault) → P f → R f) → ((f : Fault) → Q f → R f) → Adds old mid P → Adds mid new Q → Adds old new R
adds_on old mid new P Q R split first second a b f = (
  λ h. elim ((b f).0 h) [
    | inl m ↦ elim ((a f).0 m) [ inl k ↦ inl k | inr p ↦ inr (first f p) ]
    | inr q ↦ inr (second f q)
  ],
  λ h. elim h [
    | inl k ↦ (b f).1 (inl ((a f).1 (inl k)))
    | inr r ↦ elim (split f r) [ inl p ↦ (b f).1 (inl ((a f).1 (inr p))) | inr q ↦ (b f).1 (inr q) ]
  ],
)

-- faults of some kinds, and then those of others
pub adds_kinds_by : (P : Fault → Type 0) (xs ys : List ℕ) (old mid new : List Fault) → Adds old mid (λ f. P f × (list_any (λ kind. kind == number_of f) xs ≡ true)) → Adds mid new (λ f. P f × (list_any (λ kind. kind == number_of f) ys ≡ true)) → Adds old new (λ f. P f × (list_any (λ kind. kind == number_of f) (xs ++ ys) ≡ true))
adds_kinds_by P xs ys old mid new a b = adds_on old mid new _ _ _
    (λ f h. elim (or_cases _ _ (sym (list_any-append (λ kind. kind == number_of f) xs ys) ∙ h.1)) [ inl k ↦ inl (h.0, k) | inr k ↦ inr (h.0, k) ])
    (λ f h. (h.0, list_any-append (λ kind. kind == number_of f) xs ys ∙ or_left _ _ h.1))
    (λ f h. (h.0, list_any-append (λ kind. kind == number_of f) xs ys ∙ or_right _ _ h.1))
    a b

-- the same kinds, in another order
pub adds_of : (bag : Bag) (xs ys : List ℕ) (old new : List Fault) → ((f : Fault) → list_any (λ kind. kind == number_of f) xs ≡ list_any (λ kind. kind == number_of f) ys) → Adds old new (HasFaultOf bag xs) → Adds old new (HasFaultOf bag ys)
adds_of bag xs ys old new same a = adds_so old new (HasFaultOf bag xs) (HasFaultOf bag ys) (λ f h. (h.0, sym (same f) ∙ h.1)) (λ f h. (h.0, same f ∙ h.1)) a

-- the faults that the bag has of some kinds, and then those of others
pub adds_kinds : (bag : Bag) (xs ys : List ℕ) (old mid new : List Fault) → Adds old mid (HasFaultOf bag xs) → Adds mid new (HasFaultOf bag ys) → Adds old new (HasFaultOf bag (xs ++ ys))
adds_kinds bag xs ys old mid new a b = adds_kinds_by (HasFault bag) xs ys old mid new a b
