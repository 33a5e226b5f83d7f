-- Permutations of lists from which other lists are computed.
use Rattle.std.proofs.Common.{◌≡◌, ◌≢◌, ◌∙◌, ℤ, List, [], ◌∷◌, ap, map, refl, sym}
use Rattle.sqlite_keyed.proofs.ListLemmas.{along_permutation}
use Rattle.bag_sqlite.proofs.Words.{All-from_recursion, All-permutation, AllByRecursion, AreApart, IsPermutation, IsPermutation-cons, IsPermutation-middle, IsPermutation-refl, IsPermutation-trans, recursion_from_All}

-- the first two exchanged
turned : {X : Type 0} (x y : X) (xs : List X) → IsPermutation (x ∷ y ∷ xs) (y ∷ x ∷ xs)
turned x y xs = IsPermutation-middle (x ∷ []) y xs

pub all_permuted : {X : Type 0} (P : X → Type 0) (xs ys : List X) → IsPermutation xs ys → AllByRecursion P xs → AllByRecursion P ys
all_permuted P xs ys moves all = recursion_from_All P ys (All-permutation P xs ys moves (All-from_recursion P xs all))

-- WHAT IS COMPUTED FROM A PERMUTATION

module _ {X Y : Type 0} (f : X → Y) where
  -- a permutation of what was computed is computed from a permutation
  pub record IsLifted (xs : List X) (ys : List Y) : Type 0 where
    pub moved : List X
    pub same : IsPermutation xs moved
    pub is : map f moved ≡ ys

  abbrev Lifts : List Y → List Y → Type 0
  Lifts ls ms = (xs : List X) → map f xs ≡ ls → IsLifted xs ms

  stay : (ls : List Y) → Lifts ls ls
  stay ls xs is = record { moved = xs; same = IsPermutation-refl xs; is = is }

  behind : (a : Y) (ls ms : List Y) → Lifts ls ms → Lifts (a ∷ ls) (a ∷ ms)
  behind a ls ms lifts [] is = absurd cc
  behind a ls ms lifts (x ∷ xs) is =
      let first : f x ≡ a = cc in
      let rest : map f xs ≡ ls = cc in
      let it = lifts xs rest in
      record { moved = x ∷ it.moved; same = IsPermutation-cons x xs it.moved it.same; is = ap (λ l. f x ∷ l) it.is ∙ ap (λ y. y ∷ ms) first }

  turn : (a b : Y) (ls : List Y) → Lifts (a ∷ b ∷ ls) (b ∷ a ∷ ls)
  turn a b ls [] is = absurd cc
  turn a b ls (x ∷ []) is = absurd cc
  turn a b ls (x ∷ y ∷ xs) is =
      let first : f x ≡ a = cc in
      let second : f y ≡ b = cc in
      let rest : map f xs ≡ ls = cc in
      record { moved = y ∷ x ∷ xs; same = turned x y xs; is = λ i. second i ∷ first i ∷ rest i }

  chain : (ls ms ns : List Y) → Lifts ls ms → Lifts ms ns → Lifts ls ns
  chain ls ms ns p q xs is =
      let one = p xs is in
      let two = q one.moved one.is in
      record { moved = two.moved; same = IsPermutation-trans xs one.moved two.moved one.same two.same; is = two.is }

  pub lifted : (xs : List X) (ys : List Y) → IsPermutation (map f xs) ys → IsLifted xs ys
  lifted xs ys moves = along_permutation Lifts stay behind turn chain (map f xs) ys moves xs refl

-- NUMBERS THAT OCCUR ONCE

module _ {X : Type 0} (number : X → ℤ) where
  abbrev StaysApart : List X → List X → Type 0
  StaysApart xs ys = IsPermutation xs ys × (AreApart number xs → AreApart number ys)

  apart_same : (xs : List X) → StaysApart xs xs
  apart_same xs = (IsPermutation-refl xs, λ apart. apart)

  apart_behind : (x : X) (xs ys : List X) → StaysApart xs ys → StaysApart (x ∷ xs) (x ∷ ys)
  apart_behind x xs ys it = (IsPermutation-cons x xs ys it.0, λ apart. (all_permuted (λ y. number x ≢ number y) xs ys it.0 apart.0, it.1 apart.1))

  apart_turned : (x y : X) (xs : List X) → StaysApart (x ∷ y ∷ xs) (y ∷ x ∷ xs)
  apart_turned x y xs = (turned x y xs, λ apart. (((λ same. apart.0.0 (sym same)), apart.1.0), (apart.0.1, apart.1.1)))

  apart_chain : (xs ys zs : List X) → StaysApart xs ys → StaysApart ys zs → StaysApart xs zs
  apart_chain xs ys zs p q = (IsPermutation-trans xs ys zs p.0 q.0, λ apart. q.1 (p.1 apart))

  pub apart_permuted : (xs ys : List X) → IsPermutation xs ys → AreApart number xs → AreApart number ys
  apart_permuted xs ys moves = (along_permutation StaysApart apart_same apart_behind apart_turned apart_chain xs ys moves).1
