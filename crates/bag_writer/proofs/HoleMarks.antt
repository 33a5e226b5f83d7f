-- The marks of holes: one more hole, and what a mark says.
use Rattle.std.proofs.Common.{◌≡◌, ℕ, zero, suc, ◌||◌, ◌++◌, true, false, Bool, List, [], ◌∷◌, Some, get_or, map, slice_get, length, take, refl, sym, ap, ◌∙◌, arith}
use Rattle.std.proofs.Math.ListN.{replicate, set}
use Rattle.std.proofs.lemmas.Bool.{false_from_ne_true, or_right}
use Rattle.std.proofs.lemmas.List.Folds.{list_any-append}
use Rattle.std.proofs.lemmas.Option.{get_or_from_slice_get, same_Some}
use Rattle.std.proofs.lemmas.Simd.{splat_is_map}
use Rattle.std.proofs.lemmas.Slice.Eq.{bytes_eq-Decides}
use Rattle.std.specs.Str.{bytes_eq}
use Rattle.bag_writer.specs.Steps.{is_hole}
use Rattle.bag_writer.specs.declared.spec.Hole.{Hole}
use Rattle.std.proofs.Math.Bool.{or-false}

module _ (before : List Hole) (hole : Hole) where
  one_more : (path : List ℕ) → is_hole (before ++ hole ∷ []) path ≡ (is_hole before path || bytes_eq hole.path path)
  one_more path =
      list_any-append (λ (h : Hole). bytes_eq h.path path) before (hole ∷ [])
      ∙ ap (λ b. is_hole before path || b) (or-false (bytes_eq hole.path path))

  marked_here : (path : List ℕ) → path ≡ hole.path → true ≡ is_hole (before ++ hole ∷ []) path
  marked_here path same = sym (one_more path ∙ or_right (is_hole before path) (bytes_eq hole.path path) ((bytes_eq-Decides hole.path path).1 (sym same)))

  kept_there : (path : List ℕ) → ¬ (path ≡ hole.path) → is_hole before path ≡ is_hole (before ++ hole ∷ []) path
  kept_there path other =
      let no = false_from_ne_true (bytes_eq hole.path path) (λ e. other (sym ((bytes_eq-Decides hole.path path).0 e))) in
      sym (one_more path ∙ ap (λ b. is_hole before path || b) no ∙ or-false (is_hole before path))

  kept : (paths : List (List ℕ)) → ((k : ℕ) → ¬ (slice_get paths k ≡ Some hole.path)) → map (is_hole before) paths ≡ map (is_hole (before ++ hole ∷ [])) paths
  kept [] none = refl
  kept (path ∷ paths) none = λ t. kept_there path (λ e. none zero (ap Some e)) t ∷ kept paths (λ k there. none (suc k) there) t

  -- the mark at the place of its path is the only one that one more hole sets
  pub marked : (paths : List (List ℕ)) (i : ℕ) → slice_get paths i ≡ Some hole.path → ((k : ℕ) → slice_get paths k ≡ Some hole.path → k ≡ i) → set (map (is_hole before) paths) i true ≡ map (is_hole (before ++ hole ∷ [])) paths
  marked [] i here only = cc
  marked (path ∷ paths) zero here only = λ t. marked_here path (same_Some path hole.path here) t ∷ kept paths (λ k there. absurd (omega (arith, only (suc k) there))) t
  marked (path ∷ paths) (suc i) here only = λ t. kept_there path (λ e. absurd (omega (arith, only zero (ap Some e)))) t ∷ marked paths i here (λ k there. omega (arith, only (suc k) there)) t

-- the mark of a place
mark_at : (holes : List Hole) (paths : List (List ℕ)) (i : ℕ) (path : List ℕ) → slice_get paths i ≡ Some path → slice_get (map (is_hole holes) paths) i ≡ Some (is_hole holes path)
mark_at holes [] i path here = cc
mark_at holes (p ∷ paths) zero path here = ap (λ q. Some (is_hole holes q)) (same_Some p path here)
mark_at holes (p ∷ paths) (suc i) path here = mark_at holes paths i path here

pub mark_is : (marks : List Bool) (holes : List Hole) (paths : List (List ℕ)) (i : ℕ) (path : List ℕ) (d : Bool) → marks ≡ map (is_hole holes) paths → slice_get paths i ≡ Some path → get_or marks i d ≡ is_hole holes path
mark_is marks holes paths i path d are here =
    ap (λ (m : List Bool). get_or m i d) are ∙ get_or_from_slice_get (map (is_hole holes) paths) i (is_hole holes path) d (mark_at holes paths i path here)

-- no holes, no marks
pub nothing_marked : (marks : List Bool) (n : ℕ) (holes : List Hole) (paths : List (List ℕ)) → marks ≡ replicate n false → n ≡ length paths → marks ≡ map (is_hole (take 0 holes)) paths
nothing_marked marks n holes paths are long = are ∙ splat_is_map paths n false (sym long)

-- marks that were written through a slice of all of them
pub written_back : (new rest : List Bool) (n : ℕ) → n ≡ length new → take n (new ++ rest) ≡ new
written_back [] rest zero long = refl
written_back [] rest (suc n) long = absurd (omega (arith, long))
written_back (mark ∷ new) rest zero long = absurd (omega (arith, long))
written_back (mark ∷ new) rest (suc n) long = ap (λ marks. mark ∷ marks) (written_back new rest n (omega (arith, long)))
