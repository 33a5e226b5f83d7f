-- Files by path in ascending order: what is there after a file was inserted at its place, and what a look-up finds.
use Rattle.std.proofs.Common.{◌≡◌, ℕ, zero, suc, ◌+◌, ◌<◌, ◌≤◌, true, false, Bool, List, [], ◌∷◌, Some, None, All, Contains, map, slice_get, length, take, drop, refl, sym, ap, subst, ◌∙◌, arith, nat_le, is_some, if◌then◌else◌}
use Rattle.std.proofs.lemmas.Bool.{cond_both}
use Rattle.std.proofs.lemmas.List.{drop-map, map-append, take-map}
use Rattle.std.proofs.lemmas.List.Edits.{get_or-insert_above, get_or-insert_below}
use Rattle.std.proofs.lemmas.List.Elements.{All-append, All-cons, All-drop, All-from_recursion, All-take, recursion_from_All}
use Rattle.std.proofs.lemmas.Map.Entries.{lookup_at_gap}
use Rattle.std.proofs.lemmas.Map.Views.{IsSome-lookup_from_Contains}
use Rattle.std.proofs.lemmas.Option.{slice_get-get_or}
use Rattle.bag_rules.proofs.Words.{AllByRecursion, AreRising, bytes_eq, Greater, insert, insert_entry, is_eq-slice_cmp, IsDistinct, IsDistinct-from_sorted, IsGapFor, keys_of, leb-false, leb-true, length-insert, Less, lookup, lookup_from_place, match_ordering, nat_cmp, nat_list_cmp_total, nat_list_eq_equiv, option_map, Ordering, ordering_reverse, slice_cmp, slice_get-map, values_of}
use Rattle.std.specs.List.Sorted.{IsStrictlySortedBy}
use Rattle.bag_rules.proofs.TreeLemmas.{found_file}

abbrev Files : Type 0
Files = List (List ℕ × List ℕ)

gap_tail : (path x : List ℕ) (paths : List (List ℕ)) (i : ℕ) → IsGapFor (x ∷ paths) path (suc i) → IsGapFor paths path i
gap_tail path x paths i gap = record {
  within = omega (arith, gap.within);
  less_before = λ j other below here. gap.less_before (suc j) other (omega arith) here;
  greater_from = λ j other above here. gap.greater_from (suc j) other (omega arith) here;
}

-- what is inserted into the gap is inserted at its place
module _ (path octets : List ℕ) where
  pub put_step : (file : List ℕ × List ℕ) (files : Files) (r : Ordering) → slice_cmp nat_cmp path file.0 ≡ r → insert_entry (slice_cmp nat_cmp) (file ∷ files) path octets ≡ match_ordering r ((path, octets) ∷ file ∷ files) ((file.0, octets) ∷ files) (file ∷ insert_entry (slice_cmp nat_cmp) files path octets)
  put_step file files r h = ap (λ o. match_ordering o ((path, octets) ∷ file ∷ files) ((file.0, octets) ∷ files) (file ∷ insert_entry (slice_cmp nat_cmp) files path octets)) h

  pub put_in_gap : (files : Files) (i : ℕ) → IsGapFor (keys_of files) path i → insert files i (path, octets) ≡ insert_entry (slice_cmp nat_cmp) files path octets
  put_in_gap [] zero gap = refl
  put_in_gap [] (suc i) gap = absurd (omega (arith, gap.within))
  put_in_gap (file ∷ files) zero gap = sym (put_step file files Less (gap.greater_from 0 file.0 (omega arith) refl))
  put_in_gap (file ∷ files) (suc i) gap = ap (λ rest. file ∷ rest) (put_in_gap files i (gap_tail path file.0 (keys_of files) i gap)) ∙ sym (put_step file files Greater (gap.less_before 0 file.0 (omega arith) refl))

pub All-insert : {X : Type 0} (P : X → Type 0) (xs : List X) (i : ℕ) (x : X) → All P xs → P x → All P (insert xs i x)
All-insert P xs i x all p = All-append P (take i xs) (x ∷ drop i xs) (All-take P i xs all) (All-cons P x (drop i xs) p (All-drop P i xs all))

pub all_after : (x y : List ℕ) (ys : List (List ℕ)) → slice_cmp nat_cmp x y ≡ Less → AllByRecursion (λ z. slice_cmp nat_cmp y z ≡ Less) ys → AllByRecursion (λ z. slice_cmp nat_cmp x z ≡ Less) ys
all_after x y [] h a = tt
all_after x y (z ∷ zs) h a = (nat_list_cmp_total.trans x y z h a.0, all_after x y zs h a.1)

-- the order stays
pub rising_put : (path : List ℕ) (paths : List (List ℕ)) (i : ℕ) → IsGapFor paths path i → AreRising paths → AreRising (insert paths i path)
unfolding IsStrictlySortedBy
rising_put path [] zero gap rising = (tt, tt)
rising_put path [] (suc i) gap rising = absurd (omega (arith, gap.within))
rising_put path (x ∷ paths) zero gap rising = let less = gap.greater_from 0 x (omega arith) refl in ((less, all_after path x paths less rising.0), rising)
rising_put path (x ∷ paths) (suc i) gap rising =
    let less : slice_cmp nat_cmp x path ≡ Less = nat_list_cmp_total.antisymm x path ∙ ap ordering_reverse (gap.less_before 0 x (omega arith) refl) in
    let after = All-insert (λ y. slice_cmp nat_cmp x y ≡ Less) paths i path (All-from_recursion (λ y. slice_cmp nat_cmp x y ≡ Less) paths rising.0) less in
    (recursion_from_All (λ y. slice_cmp nat_cmp x y ≡ Less) (insert paths i path) after, rising_put path paths i (gap_tail path x paths i gap) rising.1)

module _ (path : List ℕ) (files : Files) (i : ℕ) (rising : AreRising (keys_of files)) where
  key_at : (k : ℕ) (file : List ℕ × List ℕ) → slice_get files k ≡ Some file → slice_get (keys_of files) k ≡ Some file.0
  key_at k file here = slice_get-map (λ file. file.0) files k ∙ ap (option_map (λ file. file.0)) here

  -- a look-up finds nothing at a path that has a gap
  pub lookup_in_gap : IsGapFor (keys_of files) path i → lookup (bytes_eq path) files ≡ None
  lookup_in_gap gap = subst (λ (test : List ℕ → Bool). lookup test files ≡ None) (λ t x. is_eq-slice_cmp path x t)
      (lookup_at_gap nat_list_cmp_total path files i rising (λ j file below here. gap.less_before j file.0 below (key_at j file here)) (λ file here. gap.greater_from i file.0 (omega arith) (key_at i file here)))

  -- so it isn't there
  pub absent_in_gap : IsGapFor (keys_of files) path i → ¬ Contains (keys_of files) path
  absent_in_gap gap found =
      let none : true ≡ false = sym (IsSome-lookup_from_Contains nat_list_eq_equiv path files found) ∙ ap is_some (lookup_in_gap gap) in
      cc

  -- a look-up finds the octets at the place that has the path
  pub lookup_at : slice_get (keys_of files) i ≡ Some path → lookup (bytes_eq path) files ≡ slice_get (values_of files) i
  lookup_at here =
      let file = found_file (slice_get files i) path (sym (slice_get-map (λ file. file.0) files i) ∙ here) in
      let distinct : IsDistinct bytes_eq (keys_of files) = subst (λ eq. IsDistinct eq (keys_of files)) (λ t x y. is_eq-slice_cmp x y t) (IsDistinct-from_sorted (slice_cmp nat_cmp) (keys_of files) rising) in
      lookup_from_place nat_list_eq_equiv files i path file.0 distinct file.1
      ∙ sym (slice_get-map (λ file. file.1) files i ∙ ap (option_map (λ file. file.1)) file.1)

-- what is at a place after something was inserted before it or there
pub slice_get-insert_moved : {X : Type 0} (xs : List X) (i : ℕ) (x : X) (k : ℕ) → i ≤ length xs → k < length xs → slice_get (insert xs i x) (if nat_le i k then k + 1 else k) ≡ slice_get xs k
slice_get-insert_moved xs i x k upto within = cond_both (nat_le i k) (k + 1) k (λ at. slice_get (insert xs i x) at ≡ slice_get xs k)
    (λ from. slice_get-get_or (insert xs i x) (k + 1) x (omega (arith, length-insert xs i x upto, within)) ∙ ap Some (get_or-insert_above xs i x x k (leb-true i k from) upto) ∙ sym (slice_get-get_or xs k x within))
    (λ before. slice_get-get_or (insert xs i x) k x (omega (arith, length-insert xs i x upto, within)) ∙ ap Some (get_or-insert_below xs i x x k (leb-false i k before) upto) ∙ sym (slice_get-get_or xs k x within))

pub map-insert : {X Y : Type 0} (f : X → Y) (xs : List X) (i : ℕ) (x : X) → map f (insert xs i x) ≡ insert (map f xs) i (f x)
map-insert f xs i x = simp (map-append, take-map, drop-map)
