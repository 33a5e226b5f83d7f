-- One lane of what is made of vectors with four lanes.
use Rattle.std.proofs.Common.{Fits, w32, ◌^◌, ◌≡◌, ℕ, ◌<◌, zero, suc, ◌+◌, ◌*◌, ◌≤◌, List, [], ◌∷◌, ◌++◌, take, drop, length-append, length, slice_index, slice_index_or, slice_set, replicate, arith, refl, inl, inr, sym, ◌∙◌, ap}
use Rattle.std.proofs.lemmas.Bool.{cases_lt}
use Rattle.std.proofs.lemmas.List.{ext_get_or, flat_map_more, length-take-le, take_at, take_more, get_or-set_other, get_or-set_same, map-set, length-map, set-get_or}
use Rattle.std.proofs.lemmas.Simd.{Each1-get_or, get_or-zip2, get_or-replicate}
use Rattle.std.proofs.Math.ListN.{get_or-map}
use Rattle.std.specs.List.{flat_map}
use Rattle.bag_lanes.specs.Lanes.{lane}
use lib.Lanes.{Each1, zip2}

-- what holds at each of the four lanes
pub each_lane : (P : ℕ → Type 0) → P 0 → P 1 → P 2 → P 3 → (i : ℕ) → i < 4 → P i
each_lane P a b c d zero h = a
each_lane P a b c d (suc zero) h = b
each_lane P a b c d (suc (suc zero)) h = c
each_lane P a b c d (suc (suc (suc zero))) h = d
each_lane P a b c d (suc (suc (suc (suc i)))) h = absurd (omega arith)

-- an operation on each lane of two vectors
pub slice_index-zip2 : (f : ℕ → ℕ → ℕ) (xs ys : List ℕ) (i : ℕ) → length xs ≡ 4 → length ys ≡ 4 → i < 4
    → slice_index (zip2 f xs ys) i ≡ f (slice_index xs i) (slice_index ys i)
slice_index-zip2 f xs ys i p q h = get_or-zip2 f xs ys i 0 0 0 (omega arith) (omega arith)

-- an operation on each lane of a vector and the same number
pub slice_index-zip2_splat : (f : ℕ → ℕ → ℕ) (xs : List ℕ) (n i : ℕ) → length xs ≡ 4 → i < 4
    → slice_index (zip2 f xs (replicate 4 n)) i ≡ f (slice_index xs i) n
slice_index-zip2_splat f xs n i p h =
    slice_index-zip2 f xs (replicate 4 n) i p refl h ∙ ap (f (slice_index xs i)) (get_or-replicate 4 i n 0 h)

-- lane i of vector k
pub lane_at : (i k : ℕ) (vectors : List (List ℕ)) → slice_index (lane i vectors) k ≡ slice_index (slice_index_or vectors k []) i
lane_at i k vectors = get_or-map (λ v. slice_index v i) vectors k []

pub lane-set : (i k : ℕ) (vectors : List (List ℕ)) (v : List ℕ) → lane i (slice_set vectors k v) ≡ slice_set (lane i vectors) k (slice_index v i)
lane-set i k vectors v = map-set (λ w. slice_index w i) vectors k v

pub length-lane : (i : ℕ) (vectors : List (List ℕ)) → length (lane i vectors) ≡ length vectors
length-lane i vectors = length-map vectors (λ v. slice_index v i)

-- in lane i the first k words are those of f, and with vector v at place k so are the first k + 1
pub lane_more : (f : ℕ → ℕ) (i n : ℕ) (vectors : List (List ℕ)) (v : List ℕ) → n < length vectors
    → ((k : ℕ) → k < n → slice_index (lane i vectors) k ≡ f k) → slice_index v i ≡ f n
    → (k : ℕ) → k < n + 1 → slice_index (lane i (slice_set vectors n v)) k ≡ f k
lane_more f i n vectors v fits before here k h =
    rw (lane-set i n vectors v)
    (elim (cases_lt k n) [
      | inl low ↦ get_or-set_other (lane i vectors) n k (slice_index v i) 0 (omega arith) ∙ before k low
      | inr high ↦
          let e : n ≡ k = omega arith in
          rw (← e) (get_or-set_same (lane i vectors) n (slice_index v i) 0 (omega (arith, length-lane i vectors)) ∙ here)
    ])

-- another lane keeps its words where only this one is written
pub lane_same : (i n : ℕ) (vectors : List (List ℕ)) (v : List ℕ) → slice_index v i ≡ slice_index (slice_index_or vectors n []) i
    → lane i (slice_set vectors n v) ≡ lane i vectors
lane_same i n vectors v e =
    rw (lane-set i n vectors v, e, ← lane_at i n vectors) (set-get_or (lane i vectors) n 0)

-- lane i holds these words
pub lane_is : (i : ℕ) (vectors : List (List ℕ)) (words : List ℕ) → length vectors ≡ length words
    → ((k : ℕ) → k < length words → slice_index (lane i vectors) k ≡ slice_index words k) → lane i vectors ≡ words
lane_is i vectors words long same =
    ext_get_or 0 (lane i vectors) words (length-lane i vectors ∙ long) (λ k h. same k (omega (arith, length-lane i vectors)))

-- with the octets of one word more of lane i written after those of its first n words
pub lane_octets_more : (f : ℕ → List ℕ) (i n : ℕ) (vectors : List (List ℕ)) (old new part : List ℕ) → n < length vectors → 4 * n ≤ length old
    → take (4 * n) old ≡ flat_map f (take n (lane i vectors)) → part ≡ f (slice_index (slice_index_or vectors n []) i) → length part ≡ 4
    → new ≡ take (4 * n) old ++ part ++ drop (4 * n + length part) old → take (4 * (n + 1)) new ≡ flat_map f (take (n + 1) (lane i vectors))
lane_octets_more f i n vectors old new part within fits before here four written =
    let words : List ℕ = lane i vectors in
    let word : ℕ = slice_index words n in
    let front : List ℕ = take (4 * n) old ++ part in
    let size : length front ≡ 4 * (n + 1) = omega (arith, length-append (take (4 * n) old) part, length-take-le (4 * n) old fits) in
    let low : n < length words = omega (arith, length-lane i vectors) in
    let cut : take (4 * (n + 1)) new ≡ front = rw written (take_at front (drop (4 * n + length part) old) (4 * (n + 1)) size) in
    let same : part ≡ f word = here ∙ ap f (sym (lane_at i n vectors)) in
    let joined : front ≡ flat_map f (take n words ++ word ∷ []) = rw (before, same) (flat_map_more f [] (take n words) word) in
    cut ∙ joined ∙ ap (flat_map f) (sym (take_more words n 0 low))

-- each lane is a word
pub lane_fits : (xs : List ℕ) → length xs ≡ 4 → Each1 (Fits w32) xs → (i : ℕ) → i < 4 → slice_index xs i < 2 ^ 32
lane_fits xs count words i low = (Each1-get_or (Fits w32) xs i 0 (omega arith) words).fits
