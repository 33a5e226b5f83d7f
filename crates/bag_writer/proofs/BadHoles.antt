-- Holes that repeat an earlier one, and which hole is bad.
use Rattle.std.proofs.Common.{◌≡◌, ℕ, zero, suc, ◌+◌, ◌<◌, ◌⊎◌, true, false, List, [], ◌∷◌, Some, Contains, slice_get, take, refl, sym, ap, subst, ◌∙◌, arith, inl, inr, below_more, string_bytes}
use Rattle.std.proofs.lemmas.Bool.{false≢true, or_cases, or_left, or_right}
use Rattle.std.proofs.lemmas.Option.{same_Some}
use Rattle.std.proofs.lemmas.Slice.Eq.{bytes_eq-Decides}
use Rattle.std.specs.Str.{bytes_eq}
use Rattle.bag_tags.specs.FetchEntries.{IsUrl}
use Rattle.bag_writer.specs.Accepting.{IsBadAfter, IsFurtherHole}
use Rattle.bag_writer.specs.Steps.{is_hole}
use Rattle.bag_writer.specs.Writing.{IsBadHole, IsHoleBefore}
use Rattle.bag_writer.specs.declared.spec.Hole.{Hole}

at_is_hole : (holes : List Hole) (i j : ℕ) (other : Hole) → j < i → slice_get holes j ≡ Some other → is_hole (take i holes) other.path ≡ true
at_is_hole [] i j other below here = cc
at_is_hole (h ∷ holes) zero j other below here = absurd (omega (arith, below))
at_is_hole (h ∷ holes) (suc i) zero other below here =
    or_left (bytes_eq h.path other.path) (is_hole (take i holes) other.path) ((bytes_eq-Decides h.path other.path).1 (ap (λ (x : Hole). x.path) (same_Some h other here)))
at_is_hole (h ∷ holes) (suc i) (suc j) other below here =
    or_right (bytes_eq h.path other.path) (is_hole (take i holes) other.path) (at_is_hole holes i j other (omega (arith, below)) here)

pub before_is_hole : (holes : List Hole) (i : ℕ) (path : List ℕ) → IsHoleBefore holes i path → is_hole (take i holes) path ≡ true
before_is_hole holes i path before =
    subst (λ (p : List ℕ). is_hole (take i holes) p ≡ true) before.1.3 (at_is_hole holes i before.0 before.1.0 before.1.1 before.1.2)

pub is_hole_before : (holes : List Hole) (i : ℕ) (path : List ℕ) → is_hole (take i holes) path ≡ true → IsHoleBefore holes i path
is_hole_before [] zero path passed = cc
is_hole_before [] (suc i) path passed = cc
is_hole_before (h ∷ holes) zero path passed = cc
is_hole_before (h ∷ holes) (suc i) path passed =
    elim (or_cases (bytes_eq h.path path) (is_hole (take i holes) path) passed) [
      | inl e ↦ (zero, (h, omega arith, refl, (bytes_eq-Decides h.path path).0 e))
      | inr r ↦ let before = is_hole_before holes i path r in (suc before.0, (before.1.0, omega (arith, before.1.1), before.1.2, before.1.3))
    ]

-- a hole that may follow those before it isn't bad, and one that may not is
module _ (payload : List (List ℕ)) (holes : List Hole) (i : ℕ) (hole : Hole) (here : slice_get holes i ≡ Some hole) where
  not_bad_for : IsFurtherHole payload (take i holes) hole → (other : Hole) → hole ≡ other → ((¬ Contains payload other.path) ⊎ (¬ IsUrl (string_bytes other.url)) ⊎ IsHoleBefore holes i other.path) → ⊥
  not_bad_for fits other same (inl absent) = absent (subst (λ (h : Hole). Contains payload h.path) same fits.there)
  not_bad_for fits other same (inr (inl no_url)) = no_url (subst (λ (h : Hole). IsUrl (string_bytes h.url)) same fits.is_url)
  not_bad_for fits other same (inr (inr twice)) =
      let passed = before_is_hole holes i other.path twice in
      let no = subst (λ (h : Hole). is_hole (take i holes) h.path ≡ false) same fits.new in
      false≢true (sym no ∙ passed)

  pub not_bad : IsFurtherHole payload (take i holes) hole → ¬ IsBadHole payload holes i
  not_bad fits bad = not_bad_for fits bad.0 (same_Some hole bad.0 (sym here ∙ bad.1)) bad.2

  bad_for : IsBadAfter payload (take i holes) hole → (¬ Contains payload hole.path) ⊎ (¬ IsUrl (string_bytes hole.url)) ⊎ IsHoleBefore holes i hole.path
  bad_for (inl absent) = inl absent
  bad_for (inr (inl no_url)) = inr (inl no_url)
  bad_for (inr (inr twice)) = inr (inr (is_hole_before holes i hole.path twice))

  pub is_bad : IsBadAfter payload (take i holes) hole → IsBadHole payload holes i
  is_bad bad = (hole, here, bad_for bad)

-- one more hole, which is good
pub none_bad_more : (payload : List (List ℕ)) (holes : List Hole) (i : ℕ) → ((j : ℕ) → j < i → ¬ IsBadHole payload holes j) → ¬ IsBadHole payload holes i → (j : ℕ) → j < i + 1 → ¬ IsBadHole payload holes j
none_bad_more payload holes i before here = below_more (λ j. IsBadHole payload holes j → ⊥) i before here
