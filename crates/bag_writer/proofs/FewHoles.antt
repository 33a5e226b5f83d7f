-- There are at most as many holes as payload files, since no hole is there twice.
use Rattle.std.proofs.Common.{◌≡◌, ◌<◌, ◌≤◌, ℕ, suc, Bool, false, not, List, [], ◌∷◌, Some, length, slice_get, inl, inr, refl, ap, ◌∙◌, arith}
use Rattle.std.specs.List.{filter}
use Rattle.bag_rules.proofs.HasLemmas.{place_of_has}
use Rattle.bag_rules.proofs.Words.{bytes_eq, bytes_eq-Decides, cases_Bool, Has}
use Rattle.bag_writer.proofs.TagCases.{has_filter}
use Rattle.bag_writer.specs.Writing.{IsHoleBefore}
use Rattle.bag_writer.specs.declared.spec.Hole.{Hole}

abbrev differs : List ℕ → List ℕ → Bool
differs path other = not (bytes_eq path other)

-- a filter that leaves something out is shorter
pub at_most : {X : Type 0} (p : X → Bool) (xs : List X) → length (filter p xs) ≤ length xs
at_most p [] = omega arith
at_most p (x ∷ xs) = elim (cases_Bool (p x)) [
  | inl kept ↦ rw kept (omega (arith, at_most p xs))
  | inr out ↦ rw out (omega (arith, at_most p xs))
]

shorter : {X : Type 0} (p : X → Bool) (xs : List X) (x : X) → Has xs x → p x ≡ false → length (filter p xs) < length xs
shorter p [] x h out = absurd h
shorter p (y ∷ xs) x (inl e) out = rw (ap p e ∙ out) (omega (arith, at_most p xs))
shorter p (y ∷ xs) x (inr h) out = elim (cases_Bool (p y)) [
  | inl kept ↦ rw kept (omega (arith, shorter p xs x h out))
  | inr other ↦ rw other (omega (arith, at_most p xs))
]

-- no earlier hole has the path of another
abbrev pub NoneBefore : List Hole → Type 0
NoneBefore holes = (i : ℕ) (hole : Hole) → slice_get holes i ≡ Some hole → ¬ IsHoleBefore holes i hole.path

later : (first : Hole) (holes : List Hole) → NoneBefore (first ∷ holes) → NoneBefore holes
later first holes none i hole at (j, (other, below, there, same)) = none (suc i) hole at (suc j, (other, omega (arith, below), there, same))

apart : (first : Hole) (holes : List Hole) → NoneBefore (first ∷ holes) → (hole : Hole) → Has holes hole → bytes_eq first.path hole.path ≡ false
apart first holes none hole h = elim (cases_Bool (bytes_eq first.path hole.path)) [
  | inl same ↦ (
      let place = place_of_has holes hole h in
      absurd (none (suc place.0) hole place.1 (0, (first, omega arith, refl, (bytes_eq-Decides first.path hole.path).0 same)))
      )
  | inr other ↦ other
]

pub few_holes : (holes : List Hole) (paths : List (List ℕ)) → NoneBefore holes → ((hole : Hole) → Has holes hole → Has paths hole.path) → length holes ≤ length paths
few_holes [] paths none each = omega arith
few_holes (first ∷ holes) paths none each =
    let left = filter (differs first.path) paths in
    let rest = few_holes holes (filter (differs first.path) paths) (later first holes none) (λ hole h. has_filter (differs first.path) paths hole.path (each hole (inr h)) (ap not (apart first holes none hole h))) in
    let less = shorter (differs first.path) paths first.path (each first (inl refl)) (ap not ((bytes_eq-Decides first.path first.path).1 refl)) in
    omega (arith, rest, less)
