-- Lists whose elements go in pairs, place by place.
use Rattle.std.proofs.Common.{◌≡◌, ◌<◌, ◌≤◌, ◌++◌, ◌∷◌, [], ℕ, zero, suc, List, Some, None, arith, length, refl, slice_get, subst, take}
use Rattle.std.specs.List.{AllZip}

module _ {X Y : Type 0} (P : X → Y → Type 0) where
  -- one for each of the first elements
  pub pairs : (xs : List X) (n : ℕ) → n ≤ length xs → ((k : ℕ) (x : X) → k < n → slice_get xs k ≡ Some x → (y : Y) × P x y) → (ys : List Y) × AllZip P (take n xs) ys
  pairs xs zero inside each = ([], tt)
  pairs [] (suc n) inside each = absurd (omega (arith, inside))
  pairs (x ∷ xs) (suc n) inside each =
      let first = each 0 x (omega arith) refl in
      let rest = pairs xs n (omega (arith, inside)) (λ k y below at. each (suc k) y (omega (arith, below)) at) in
      (first.0 ∷ rest.0, (first.1, rest.1))

  pub zip_each : (xs : List X) (n : ℕ) (ys : List Y) → AllZip P (take n xs) ys → (k : ℕ) (x : X) (y : Y) → slice_get xs k ≡ Some x → slice_get ys k ≡ Some y → P x y
  zip_each xs zero [] zip k x y at there = absurd (let e : None ≡ Some y = there in cc)
  zip_each xs zero (z ∷ ys) zip k x y at there = absurd zip
  zip_each [] (suc n) ys zip k x y at there = absurd (let e : None ≡ Some x = at in cc)
  zip_each (w ∷ xs) (suc n) [] zip k x y at there = absurd zip
  zip_each (w ∷ xs) (suc n) (z ∷ ys) zip zero x y at there = (let a : w ≡ x = cc in let b : z ≡ y = cc in subst (λ u. P u y) a (subst (P w) b zip.0))
  zip_each (w ∷ xs) (suc n) (z ∷ ys) zip (suc k) x y at there = zip_each xs n ys zip.1 k x y at there

  pub zip_long : (xs : List X) (n : ℕ) (ys : List Y) → n ≤ length xs → AllZip P (take n xs) ys → length ys ≡ n
  zip_long xs zero [] inside zip = refl
  zip_long xs zero (y ∷ ys) inside zip = absurd zip
  zip_long [] (suc n) ys inside zip = absurd (omega (arith, inside))
  zip_long (x ∷ xs) (suc n) [] inside zip = absurd zip
  zip_long (x ∷ xs) (suc n) (y ∷ ys) inside zip = omega (arith, zip_long xs n ys (omega (arith, inside)) zip.1)

  pub zip_on : (xs : List X) (ys : List Y) (more : List X) (others : List Y) → AllZip P xs ys → AllZip P more others → AllZip P (xs ++ more) (ys ++ others)
  zip_on [] [] more others zip next = next
  zip_on [] (y ∷ ys) more others zip next = absurd zip
  zip_on (x ∷ xs) [] more others zip next = absurd zip
  zip_on (x ∷ xs) (y ∷ ys) more others zip next = (zip.0, zip_on xs ys more others zip.1 next)

  -- the same for other elements at the same places
  pub zip_moved : {Z : Type 0} (Q : Z → Y → Type 0) (xs : List X) (zs : List Z) (n : ℕ) (ys : List Y) → length zs ≡ length xs
      → ((k : ℕ) (x : X) (z : Z) → k < n → slice_get xs k ≡ Some x → slice_get zs k ≡ Some z → (y : Y) → P x y → Q z y) → AllZip P (take n xs) ys → AllZip Q (take n zs) ys
  zip_moved Q xs zs zero ys same moves zip = zip
  zip_moved Q [] [] (suc n) ys same moves zip = zip
  zip_moved Q [] (z ∷ zs) (suc n) ys same moves zip = absurd (omega (arith, same))
  zip_moved Q (x ∷ xs) [] (suc n) ys same moves zip = absurd (omega (arith, same))
  zip_moved Q (x ∷ xs) (z ∷ zs) (suc n) [] same moves zip = absurd zip
  zip_moved Q (x ∷ xs) (z ∷ zs) (suc n) (y ∷ ys) same moves zip = (
    moves 0 x z (omega arith) refl refl y zip.0,
    zip_moved Q xs zs n ys (omega (arith, same)) (λ k a b below at there. moves (suc k) a b (omega (arith, below)) at there) zip.1,
  )

  -- the other of a pair
  pub zip_at : (xs : List X) (ys : List Y) → AllZip P xs ys → (k : ℕ) (x : X) → slice_get xs k ≡ Some x → (y : Y) × (slice_get ys k ≡ Some y) × P x y
  zip_at [] ys zip k x at = absurd (let e : None ≡ Some x = at in cc)
  zip_at (w ∷ xs) [] zip k x at = absurd zip
  zip_at (w ∷ xs) (z ∷ ys) zip zero x at = (z, refl, (let e : w ≡ x = cc in subst (λ u. P u z) e zip.0))
  zip_at (w ∷ xs) (z ∷ ys) zip (suc k) x at = zip_at xs ys zip.1 k x at

  pub zip_count : (xs : List X) (ys : List Y) → AllZip P xs ys → length ys ≡ length xs
  zip_count [] [] zip = refl
  zip_count [] (y ∷ ys) zip = absurd zip
  zip_count (x ∷ xs) [] zip = absurd zip
  zip_count (x ∷ xs) (y ∷ ys) zip = omega (arith, zip_count xs ys zip.1)
