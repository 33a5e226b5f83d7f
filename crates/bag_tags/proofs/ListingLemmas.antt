-- The index of a manifest finds its pairs.
use Rattle.std.proofs.Common.{◌≡◌, ℕ, suc, ◌+◌, ◌||◌, false, List, [], ◌∷◌, ◌++◌, Option, Some, None, if◌then◌else◌, IfSome, slice_get, length, refl, sym, ap, ◌∙◌, arith, inl, inr, is_some, cond}
use Rattle.std.specs.Option.{option_map}
use Rattle.std.specs.Str.{bytes_eq}
use Rattle.std.specs.BTreeMap.{BTreeMap, get, Updates}
use Rattle.std.specs.Ordering.{nat_cmp}
use Rattle.std.specs.Cmp.Lexicographic.{slice_cmp}
use Rattle.std.proofs.lemmas.Bool.{cases_Bool, or_parts, false_from_ne_true}
use Rattle.std.proofs.lemmas.Map.Text.{is_eq-slice_cmp}
use Rattle.std.proofs.lemmas.Slice.Eq.{bytes_eq-Decides}
use Rattle.bag_digest.specs.declared.algorithm.Alg.{Alg}
use Rattle.bag_digest.specs.declared.digest.Digest.{Digest}
use Rattle.bag_digest.specs.Hash.{alg_of}
use Rattle.bag_tags.specs.declared.listing.Kind.{Kind}
use Rattle.bag_tags.specs.declared.listing.Pair.{Pair}
use Rattle.bag_tags.specs.Listings.{lists_path, listed_digest, NoneTwice, IsInPlace}
use Rattle.bag_tags.specs.ManifestView.{place_from, IsIndexOf, FitEach}

-- if no pair has the path, no digest is listed for it
pub none_placed : (n : ℕ) (pairs : List Pair) (path : List ℕ) → place_from n pairs path ≡ None → listed_digest pairs path ≡ None
none_placed n [] path e = refl
none_placed n (p ∷ pairs) path e = elim (cases_Bool (bytes_eq p.path path)) [
  | inl h ↦ absurd (let k : (let o : Option ℕ = Some n in o) ≡ None = rw h at e in cc)
  | inr h ↦ rw h (none_placed (n + 1) pairs path (rw h at e))
]

-- the pair at the place that was found is the one that is listed
pub some_placed : (n k : ℕ) (pairs : List Pair) (path : List ℕ) → place_from n pairs path ≡ Some k → (j : ℕ) × (k ≡ n + j) × (option_map (λ (pair : Pair). pair.digest) (slice_get pairs j) ≡ listed_digest pairs path)
some_placed n k [] path e = cc
some_placed n k (p ∷ pairs) path e = elim (cases_Bool (bytes_eq p.path path)) [
  | inl h ↦ (0, (let s : (let o : Option ℕ = Some n in o) ≡ Some k = rw h at e in let t : n ≡ k = cc in omega (arith, t)), rw h refl)
  | inr h ↦ let r = some_placed (n + 1) k pairs path (rw h at e) in (suc r.0, omega (arith, r.1), rw h r.2)
]

-- what is found for a path is what is listed for it
pub found_is_listed : (places : BTreeMap (List ℕ) ℕ) (pairs : List Pair) (path : List ℕ) (k : ℕ) → IsIndexOf places pairs → get (slice_cmp nat_cmp) places path ≡ Some k → option_map (λ (pair : Pair). pair.digest) (slice_get pairs k) ≡ listed_digest pairs path
found_is_listed places pairs path k index found =
    let r = some_placed 0 k pairs path (sym (index path) ∙ found) in
    ap (λ i. option_map (λ (pair : Pair). pair.digest) (slice_get pairs i)) (let e : k ≡ r.0 = omega (arith, r.1) in e) ∙ r.2

pub none_is_listed : (places : BTreeMap (List ℕ) ℕ) (pairs : List Pair) (path : List ℕ) → IsIndexOf places pairs → get (slice_cmp nat_cmp) places path ≡ None → listed_digest pairs path ≡ None
none_is_listed places pairs path index none = none_placed 0 pairs path (sym (index path) ∙ none)

-- a path has a place exactly if it is listed
is_placed : (n : ℕ) (pairs : List Pair) (path : List ℕ) → is_some (place_from n pairs path) ≡ lists_path pairs path
is_placed n [] path = refl
is_placed n (p ∷ pairs) path = elim (cases_Bool (bytes_eq p.path path)) [ inl h ↦ rw h refl | inr h ↦ rw h (is_placed (n + 1) pairs path) ]

pub is_listed : (places : BTreeMap (List ℕ) ℕ) (pairs : List Pair) (path : List ℕ) → IsIndexOf places pairs → is_some (get (slice_cmp nat_cmp) places path) ≡ lists_path pairs path
is_listed places pairs path index = ap (λ (o : Option ℕ). is_some o) (index path) ∙ is_placed 0 pairs path

head_absent : (p : Pair) (pairs : List Pair) (path : List ℕ) → lists_path (p ∷ pairs) path ≡ false → (bytes_eq p.path path ≡ false) × (lists_path pairs path ≡ false)
head_absent p pairs path e = or_parts (bytes_eq p.path path) (lists_path pairs path) e

-- the places after adding a pair whose path wasn't listed
placed_more : (n : ℕ) (pairs : List Pair) (new : Pair) (path : List ℕ) → lists_path pairs new.path ≡ false → place_from n (pairs ++ new ∷ []) path ≡ (if bytes_eq new.path path then Some (n + length pairs) else place_from n pairs path)
placed_more n [] new path absent = ap (λ k. if bytes_eq new.path path then Some k else None) (let e : n ≡ n + 0 = omega arith in e)
placed_more n (p ∷ pairs) new path absent =
    let h = head_absent p pairs new.path absent in
    elim (cases_Bool (bytes_eq p.path path)) [
      | inl e ↦
          let other : bytes_eq new.path path ≡ false = false_from_ne_true (bytes_eq new.path path) (λ d.
          let k = (bytes_eq-Decides p.path new.path).1 ((bytes_eq-Decides p.path path).0 e ∙ sym ((bytes_eq-Decides new.path path).0 d)) in cc) in
          rw (e, other) refl
      | inr e ↦ rw e (placed_more (n + 1) pairs new path h.1 ∙ ap (λ k. if bytes_eq new.path path then Some k else place_from (n + 1) pairs path) (let q : n + 1 + length pairs ≡ n + length (p ∷ pairs) = omega arith in q))
    ]

-- the index with one more place
pub index_more : (places more : BTreeMap (List ℕ) ℕ) (pairs : List Pair) (new : Pair) → IsIndexOf places pairs → lists_path pairs new.path ≡ false → Updates (slice_cmp nat_cmp) places more new.path (Some (length pairs)) → IsIndexOf more (pairs ++ new ∷ [])
index_more places more pairs new index absent update path =
    update.0 path
    ∙ ap (λ b. cond b (Some (length pairs)) (get (slice_cmp nat_cmp) places path)) (is_eq-slice_cmp new.path path)
    ∙ ap (λ (o : Option ℕ). cond (bytes_eq new.path path) (Some (length pairs)) o) (index path)
    ∙ sym (placed_more 0 pairs new path absent ∙ ap (λ k. if bytes_eq new.path path then Some k else place_from 0 pairs path) (let e : 0 + length pairs ≡ length pairs = omega arith in e))

-- no path is listed twice after adding one that wasn't listed
lists_more : (pairs : List Pair) (new : Pair) (path : List ℕ) → lists_path (pairs ++ new ∷ []) path ≡ (lists_path pairs path || bytes_eq new.path path)
lists_more [] new path = elim (cases_Bool (bytes_eq new.path path)) [ inl e ↦ rw e refl | inr e ↦ rw e refl ]
lists_more (p ∷ pairs) new path = elim (cases_Bool (bytes_eq p.path path)) [ inl e ↦ rw e refl | inr e ↦ rw e (lists_more pairs new path) ]

pub unlike : (xs ys : List ℕ) → bytes_eq xs ys ≡ false → bytes_eq ys xs ≡ false
unlike xs ys e = false_from_ne_true (bytes_eq ys xs) (λ d. let k = (bytes_eq-Decides xs ys).1 (sym ((bytes_eq-Decides ys xs).0 d)) in cc)

pub none_twice_more : (pairs : List Pair) (new : Pair) → NoneTwice pairs → lists_path pairs new.path ≡ false → NoneTwice (pairs ++ new ∷ [])
none_twice_more [] new none absent = (refl, tt)
none_twice_more (p ∷ pairs) new none absent =
    let h = head_absent p pairs new.path absent in
    (lists_more pairs new p.path ∙ rw (none.0, unlike p.path new.path h.0) refl, none_twice_more pairs new none.1 h.1)

pub fit_more : (alg : Alg) (kind : Kind) (pairs : List Pair) (new : Pair) → FitEach alg kind pairs → alg_of new.digest ≡ alg → IsInPlace kind new.path → FitEach alg kind (pairs ++ new ∷ [])
fit_more alg kind [] new fit by place = ((by, place), tt)
fit_more alg kind (p ∷ pairs) new fit by place = (fit.0, fit_more alg kind pairs new fit.1 by place)

-- a digest that is listed is by the algorithm
pub listed_fits : (alg : Alg) (kind : Kind) (pairs : List Pair) (path : List ℕ) (o : Option Digest) → FitEach alg kind pairs → o ≡ listed_digest pairs path → IfSome o (λ digest. alg_of digest ≡ alg)
listed_fits alg kind pairs path None fit e = tt
listed_fits alg kind [] path (Some d) fit e = cc
listed_fits alg kind (p ∷ pairs) path (Some d) fit e = elim (cases_Bool (bytes_eq p.path path)) [
  | inl h ↦ let same : d ≡ p.digest = (let k : Some d ≡ Some p.digest = rw h at e in cc) in ap alg_of same ∙ fit.0.0
  | inr h ↦ listed_fits alg kind pairs path (Some d) fit.1 (rw h at e)
]
