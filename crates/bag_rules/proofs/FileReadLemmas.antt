-- The files of a bag, one after another.
use Rattle.std.proofs.Common.{◌≡◌, ◌<◌, ◌+◌, ℕ, zero, suc, List, [], ◌∷◌, ◌++◌, Some, length, slice_get, refl, sym, ap, ◌∙◌, inl, inr, subst, arith}
use Rattle.bag_rules.proofs.Words.{Adds, Bag, cases_lt, Fault, IsFaultIn, IsFileFault, slice_get_within, Requirements}
use Rattle.bag_rules.proofs.AddsLemmas.{adds_none, adds_on}
use Rattle.bag_rules.proofs.PlaceLemmas.{same_file}

-- THE FAULTS OF THE FIRST FILES

-- the faults of the first n files by the manifests
abbrev pub IsFaultBefore : ℕ → Bag → Requirements → Fault → Type 0
IsFaultBefore n bag wants fault = (i : ℕ) × ((path : List ℕ) × ((octets : List ℕ) × (i < n) × (slice_get bag.files i ≡ Some (path, octets)) × IsFaultIn wants path octets fault))

pub no_faults : (bag : Bag) (wants : Requirements) (faults : List Fault) → Adds faults faults (IsFaultBefore 0 bag wants)
no_faults bag wants faults = adds_none faults (IsFaultBefore 0 bag wants) (λ f h. absurd (omega (arith, h.1.1.1)))

-- the faults of one more file
pub file_faults_more : (bag : Bag) (wants : Requirements) (n : ℕ) (path octets : List ℕ) (old mid new : List Fault) → slice_get bag.files n ≡ Some (path, octets) → Adds old mid (IsFaultBefore n bag wants) → Adds mid new (IsFaultIn wants path octets) → Adds old new (IsFaultBefore (n + 1) bag wants)
file_faults_more bag wants n path octets old mid new here a b =
    adds_on old mid new (IsFaultBefore n bag wants) (IsFaultIn wants path octets) (IsFaultBefore (n + 1) bag wants)
    (λ f h. elim (cases_lt h.0 n) [
      | inl below ↦ inl (h.0, (h.1.0, (h.1.1.0, below, h.1.1.2, h.1.1.3)))
      | inr above ↦
          let e : h.0 ≡ n = omega (arith, h.1.1.1) in
          let same = same_file (slice_get bag.files n) h.1.0 h.1.1.0 path octets (ap (slice_get bag.files) (sym e) ∙ h.1.1.2) here in
          inr (subst (λ p. IsFaultIn wants p octets f) same.0 (subst (λ o. IsFaultIn wants h.1.0 o f) same.1 h.1.1.3))
    ])
    (λ f h. (h.0, (h.1.0, (h.1.1.0, omega (arith, h.1.1.1), h.1.1.2, h.1.1.3))))
    (λ f h. (n, (path, (octets, omega arith, here, h))))
    a b

-- the faults of all files
pub all_faults : (bag : Bag) (wants : Requirements) (f : Fault) → IsFaultBefore (length bag.files) bag wants f → IsFileFault bag wants f
all_faults bag wants f h = (h.0, (h.1.0, (h.1.1.0, h.1.1.2, h.1.1.3)))

pub all_faults_back : (bag : Bag) (wants : Requirements) (f : Fault) → IsFileFault bag wants f → IsFaultBefore (length bag.files) bag wants f
all_faults_back bag wants f h = (h.0, (h.1.0, (h.1.1.0, slice_get_within bag.files h.0 (h.1.0, h.1.1.0) h.1.1.1, h.1.1.1, h.1.1.2)))

-- THE END OF A LIST

pub push_before : {X : Type 0} (xs : List X) (new : X) (i : ℕ) → i < length xs → slice_get (xs ++ new ∷ []) i ≡ slice_get xs i
push_before [] new i h = absurd (omega (arith, h))
push_before (x ∷ xs) new zero h = refl
push_before (x ∷ xs) new (suc i) h = push_before xs new i (omega (arith, h))

pub push_at : {X : Type 0} (xs : List X) (new : X) → slice_get (xs ++ new ∷ []) (length xs) ≡ Some new
push_at [] new = refl
push_at (x ∷ xs) new = push_at xs new
