-- Which of the paths a filter keeps.
use Rattle.std.proofs.Common.{◌≡◌, ℕ, zero, suc, ◌+◌, ◌++◌, true, false, Bool, List, [], ◌∷◌, Some, Contains, append-nil, slice_get, take, sym, ap, subst, ◌∙◌, arith, inl, inr, cond}
use Rattle.std.proofs.lemmas.Bool.{cases_Bool, false≢true}
use Rattle.std.proofs.lemmas.List.Elements.{All-contains, All-contains_itself, All-filter, Contains-append_right, filter_more, filter_passes}
use Rattle.std.proofs.lemmas.Option.{get_or_from_slice_get, same_Some, slice_get_within}
use Rattle.std.specs.List.{filter}

module _ (p : List ℕ → Bool) where
  pub kept_passes : (paths : List (List ℕ)) (path : List ℕ) → Contains (filter p paths) path → p path ≡ true
  kept_passes paths path found = All-contains (λ (x : List ℕ). p x ≡ true) (filter p paths) path (filter_passes p paths) found

  pub kept_there_too : (paths : List (List ℕ)) (path : List ℕ) → Contains (filter p paths) path → Contains paths path
  kept_there_too paths path found = All-contains (Contains paths) (filter p paths) path (All-filter p (Contains paths) paths (All-contains_itself paths)) found

  pub passes_kept : (paths : List (List ℕ)) (i : ℕ) (path : List ℕ) → slice_get paths i ≡ Some path → p path ≡ true → Contains (filter p paths) path
  passes_kept [] i path here passed = cc
  passes_kept (q ∷ paths) zero path here passed =
      let same = same_Some q path here in
      subst (λ (b : Bool). Contains (cond b (q ∷ filter p paths) (filter p paths)) path) (sym (ap p same ∙ passed)) (zero, omega arith, same)
  passes_kept (q ∷ paths) (suc i) path here passed =
      let rest = passes_kept paths i path here passed in
      elim (cases_Bool (p q)) [
        | inl e ↦ subst (λ (b : Bool). Contains (cond b (q ∷ filter p paths) (filter p paths)) path) (sym e) (Contains-append_right (q ∷ []) (filter p paths) path rest)
        | inr e ↦ subst (λ (b : Bool). Contains (cond b (q ∷ filter p paths) (filter p paths)) path) (sym e) rest
      ]

  pub not_kept : (paths : List (List ℕ)) (path : List ℕ) → p path ≡ false → ¬ Contains (filter p paths) path
  not_kept paths path none found = false≢true (sym none ∙ kept_passes paths path found)

  pub not_there : (paths : List (List ℕ)) (path : List ℕ) → ¬ Contains paths path → ¬ Contains (filter p paths) path
  not_there paths path absent found = absent (kept_there_too paths path found)

  at_step : (paths : List (List ℕ)) (i : ℕ) (path : List ℕ) (b : Bool) → slice_get paths i ≡ Some path → p path ≡ b → filter p (take (i + 1) paths) ≡ filter p (take i paths) ++ cond b (path ∷ []) []
  at_step paths i path b here is =
      let same = get_or_from_slice_get paths i path path here in
      filter_more p paths i path (slice_get_within paths i path here)
      ∙ (λ t. filter p (take i paths) ++ cond ((ap p same ∙ is) t) (same t ∷ []) [])

  -- what the next path adds to what the filter keeps
  pub kept_step : (paths : List (List ℕ)) (i : ℕ) (path : List ℕ) → slice_get paths i ≡ Some path → p path ≡ true → filter p (take (i + 1) paths) ≡ filter p (take i paths) ++ path ∷ []
  kept_step paths i path here is = at_step paths i path true here is

  pub left_step : (paths : List (List ℕ)) (i : ℕ) (path : List ℕ) → slice_get paths i ≡ Some path → p path ≡ false → filter p (take (i + 1) paths) ≡ filter p (take i paths)
  left_step paths i path here is = at_step paths i path false here is ∙ append-nil (filter p (take i paths))
