-- The first n files of a bag, and one more.
use Rattle.std.proofs.Common.{◌≡◌, ◌≢◌, ◌⊎◌, ◌↔◌, ◌<◌, ◌+◌, ℕ, zero, suc, List, [], ◌∷◌, Option, Some, None, slice_get, take, sym, ap, ◌∙◌, inl, inr, subst, arith}
use Rattle.bag_rules.proofs.Words.{AreRising, Bag, cases_lt, front, HoldsFile, IsBagOf, LineFile, paths_in, Shown, some_pair_parts, text_file}
use Rattle.bag_rules.specs.Bags.{paths_of}
use Rattle.bag_rules.proofs.RisingPaths.{one_place}
use Rattle.bag_rules.proofs.TreeLemmas.{one_file, path_at}

abbrev File : Type 0
File = List ℕ × List ℕ

-- the bag has the tag file, and this holds of its text
abbrev pub Says : Bag → LineFile → (List ℕ → Type 0) → Type 0
Says bag file P = (octets : List ℕ) × HoldsFile bag (text_file file) octets × P octets

-- the first n files are where they were
pub in_front : {X : Type 0} (xs : List X) (n i : ℕ) (x : X) → slice_get (take n xs) i ≡ Some x → (i < n) × (slice_get xs i ≡ Some x)
in_front [] zero i x e = absurd (let k : None ≡ Some x = e in cc)
in_front [] (suc n) i x e = absurd (let k : None ≡ Some x = e in cc)
in_front (y ∷ xs) zero i x e = absurd (let k : None ≡ Some x = e in cc)
in_front (y ∷ xs) (suc n) zero x e = (omega arith, e)
in_front (y ∷ xs) (suc n) (suc i) x e = let r = in_front xs n i x e in (omega (arith, r.0), r.1)

pub to_front : {X : Type 0} (xs : List X) (n i : ℕ) (x : X) → i < n → slice_get xs i ≡ Some x → slice_get (take n xs) i ≡ Some x
to_front xs zero i x h e = absurd (omega (arith, h))
to_front [] (suc n) i x h e = e
to_front (y ∷ xs) (suc n) zero x h e = e
to_front (y ∷ xs) (suc n) (suc i) x h e = to_front xs n i x (omega (arith, h)) e

module _ (bag : Bag) (n : ℕ) where
  -- the first n files are before place n
  pub held_before : (path octets : List ℕ) → HoldsFile (front n bag) path octets → (i : ℕ) × (i < n) × (slice_get bag.files i ≡ Some (path, octets))
  held_before path octets h = let r = in_front bag.files n h.0 (path, octets) h.1 in (h.0, r.0, r.1)

  pub holds_before : (path octets : List ℕ) (i : ℕ) → i < n → slice_get bag.files i ≡ Some (path, octets) → HoldsFile (front n bag) path octets
  holds_before path octets i h e = (i, to_front bag.files n i (path, octets) h e)

-- a bag whose paths ascend has each path once, and so has the bag of a tree
pub once_in : (bag : Bag) → AreRising (paths_of bag) → (n : ℕ) (path octets : List ℕ) → slice_get bag.files n ≡ Some (path, octets) → (i : ℕ) (other : List ℕ) → slice_get bag.files i ≡ Some (path, other) → i ≡ n
once_in bag rising n path octets there i other e = one_file bag i n path other octets rising e there

pub once_at : {shown : Shown} (bag : Bag) → IsBagOf shown bag → AreRising (paths_in shown) → (n : ℕ) (path octets : List ℕ) → slice_get bag.files n ≡ Some (path, octets) → (i : ℕ) (other : List ℕ) → slice_get bag.files i ≡ Some (path, other) → i ≡ n
once_at {shown} bag is rising n path octets there i other e = one_place (paths_in shown) rising i n path (path_at bag is i path other e) (path_at bag is n path octets there)

-- one more file, whose path no file before it has
module _ (bag : Bag) (n : ℕ) (path octets : List ℕ) (there : slice_get bag.files n ≡ Some (path, octets)) (once : (i : ℕ) (other : List ℕ) → slice_get bag.files i ≡ Some (path, other) → i ≡ n) where
  pub held_more : (p o : List ℕ) → HoldsFile (front n bag) p o → HoldsFile (front (n + 1) bag) p o
  held_more p o h = let r = held_before bag n p o h in holds_before bag (n + 1) p o r.0 (omega (arith, r.1)) r.2

  pub held_here : HoldsFile (front (n + 1) bag) path octets
  held_here = holds_before bag (n + 1) path octets n (omega arith) there

  pub not_held : (o : List ℕ) → HoldsFile (front n bag) path o → ⊥
  not_held o h = let r = held_before bag n path o h in omega (arith, r.1, once r.0 o r.2)

  pub held_split : (p o : List ℕ) → HoldsFile (front (n + 1) bag) p o → HoldsFile (front n bag) p o ⊎ ((path ≡ p) × (octets ≡ o))
  held_split p o h =
      let r = held_before bag (n + 1) p o h in
      elim (cases_lt r.0 n) [
        | inl below ↦ inl (holds_before bag n p o r.0 below r.2)
        | inr above ↦ inr (some_pair_parts path p octets o (sym there ∙ ap (slice_get bag.files) (let e : n ≡ r.0 = omega (arith, r.1, above) in e) ∙ r.2))
      ]

  -- what holds of a tag file's text, with this file
  pub says_more : (file : LineFile) (P : List ℕ → Type 0) → Says (front n bag) file P → Says (front (n + 1) bag) file P
  says_more file P s = (s.0, held_more (text_file file) s.0 s.1, s.2)

  pub says_here : (file : LineFile) (P : List ℕ → Type 0) → path ≡ text_file file → P octets → Says (front (n + 1) bag) file P
  says_here file P is says = (octets, subst (λ p. HoldsFile (front (n + 1) bag) p octets) is held_here, says)

  pub says_split : (file : LineFile) (P : List ℕ → Type 0) → Says (front (n + 1) bag) file P → Says (front n bag) file P ⊎ ((path ≡ text_file file) × P octets)
  says_split file P s = elim (held_split (text_file file) s.0 s.1) [
    | inl h ↦ inl (s.0, h, s.2)
    | inr h ↦ inr (h.0, subst P (sym h.1) s.2)
  ]

  pub not_said : (file : LineFile) (P : List ℕ → Type 0) → path ≡ text_file file → Says (front n bag) file P → ⊥
  not_said file P is s = not_held s.0 (subst (λ p. HoldsFile (front n bag) p s.0) (sym is) s.1)

  -- a value stays if the file is another
  pub value_stays : {V : Type 0} (file : LineFile) (P : V → List ℕ → Type 0) (old new : Option V) → path ≢ text_file file → new ≡ old
      → ((v : V) → (old ≡ Some v) ↔ Says (front n bag) file (P v)) → (v : V) → (new ≡ Some v) ↔ Says (front (n + 1) bag) file (P v)
  value_stays file P old new other same tells v = (
    λ e. says_more file (P v) ((tells v).0 (sym same ∙ e)),
    λ s. same ∙ (tells v).1 (elim (says_split file (P v) s) [ inl h ↦ h | inr h ↦ absurd (other h.0) ]),
  )

  -- a value that this file gives
  pub value_given : {V : Type 0} (file : LineFile) (P : V → List ℕ → Type 0) (new : Option V) → path ≡ text_file file
      → ((v : V) → (new ≡ Some v) ↔ P v octets) → (v : V) → (new ≡ Some v) ↔ Says (front (n + 1) bag) file (P v)
  value_given file P new is tells v = (
    λ e. says_here file (P v) is ((tells v).0 e),
    λ s. (tells v).1 (elim (says_split file (P v) s) [ inl h ↦ absurd (not_said file (P v) is h) | inr h ↦ h.1 ]),
  )
