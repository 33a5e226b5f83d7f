-- Copies that are ended, one after another.
use Rattle.std.proofs.Common.{◌≡◌, ◌≢◌, ◌∙◌, ◌+◌, ◌<◌, ◌∷◌, [], ℕ, List, Option, Some, ap, arith, drop, inl, inr, slice_get, subst, sym, take}
use Rattle.std.proofs.lemmas.Bool.{cases_lt}
use Rattle.std.proofs.lemmas.Option.{same_Some}
use Rattle.bag_rules.specs.Files.{Files}
use Rattle.bag_writer.specs.Pending.{AreUnfailedTo, HoldEach}
use Rattle.bag_writer.specs.Sinks.{IsFree, Stored}
use Rattle.bag_writer.specs.Steps.{AreWhole}
use Rattle.bag_writer.specs.TagWriting.{AreFree}
use Rattle.bag_writer.specs.declared.copying.Copying.{Copying}
use Rattle.bag_writer.proofs.PayloadLists.{File}
use Rattle.bag_writer.proofs.StepLemmas.{whole_on}
use Rattle.bag_digest.proofs.ListLemmas.{stands, rest_from, next_taken}

-- FREE PATHS

pub next_free : (known new : Option Stored) (files : Files) (k : ℕ) (file : File) → slice_get files k ≡ Some file → AreFree known (drop k files)
    → IsFree known file.0 × (AreWhole (file ∷ []) known new → AreFree new (drop (k + 1) files))
next_free known new files k file at free =
    let both : AreFree known (file ∷ drop (k + 1) files) = subst (AreFree known) (rest_from files k file at) free in
    (both.0, λ whole. subst (λ s. AreFree s (drop (k + 1) files)) (sym whole) both.1)

pub whole_next : (old mid new : Option Stored) (files : Files) (k : ℕ) (file : File) → slice_get files k ≡ Some file → AreWhole (take k files) old mid → AreWhole (file ∷ []) mid new → AreWhole (take (k + 1) files) old new
whole_next old mid new files k file at before one =
    subst (λ list. AreWhole list old new) (sym (next_taken files k file at)) (whole_on (take k files) (file ∷ []) old mid new before one)

-- the file that a copy holds
module _ {F G : Type 0} (holds : G → List ℕ → List ℕ → Type 0) (end : ℕ) (copies : List (Copying F G)) (files : Files) (hold : HoldEach holds end copies files) where
  pub file_there : (k : ℕ) → k < end → (file : File) × (slice_get files k ≡ Some file)
  file_there k below = stands files k (let many = hold.count in omega (arith, below, many))

-- one copy more was ended
pub unfailed_next : {F G : Type 0} (copy_failures : G → ℕ) (k : ℕ) (xs ys : List (Copying F G)) (new : Copying F G) → slice_get ys k ≡ Some new → ((j : ℕ) → j ≢ k → slice_get ys j ≡ slice_get xs j) → copy_failures new.target ≡ 0
    → AreUnfailedTo copy_failures k xs → AreUnfailedTo copy_failures (k + 1) ys
unfailed_next {F} {G} copy_failures k xs ys new is others zero before j each below at = elim (cases_lt j k) [
  | inl low ↦ before j each low (sym (others j (λ e. omega (arith, e, low))) ∙ at)
  | inr high ↦
      let e : j ≡ k = omega (arith, below, high) in
      let own : new ≡ each = same_Some new each (sym is ∙ ap (slice_get ys) (sym e) ∙ at) in
      ap (λ (c : Copying F G). copy_failures c.target) (sym own) ∙ zero
]

pub unfailed_before : {F G : Type 0} (copy_failures : G → ℕ) (k : ℕ) (xs ys : List (Copying F G)) → ((j : ℕ) → j ≢ k → slice_get ys j ≡ slice_get xs j) → AreUnfailedTo copy_failures k xs → AreUnfailedTo copy_failures k ys
unfailed_before copy_failures k xs ys others before j each below at = before j each below (sym (others j (λ e. omega (arith, e, below))) ∙ at)

-- what was read stays where copies are ended
abbrev pub StaysRead : {F G : Type 0} → (G → ℕ) → List (Copying F G) → List (Copying F G) → Type 0
StaysRead {F} {G} copy_place xs ys = (k : ℕ) (a b : Copying F G) → slice_get xs k ≡ Some a → slice_get ys k ≡ Some b
    → (b.source ≡ a.source) × (b.piece ≡ a.piece) × (b.found ≡ a.found) × (copy_place b.target ≡ copy_place a.target)

pub read_set : {F G : Type 0} (copy_place : G → ℕ) (first xs ys : List (Copying F G)) (k : ℕ) (old new : Copying F G) → slice_get xs k ≡ Some old → slice_get ys k ≡ Some new → ((j : ℕ) → j ≢ k → slice_get ys j ≡ slice_get xs j)
    → new.source ≡ old.source → new.piece ≡ old.piece → new.found ≡ old.found → copy_place new.target ≡ copy_place old.target → StaysRead copy_place first xs → StaysRead copy_place first ys
read_set {F} {G} copy_place first xs ys k old new was is others source piece found place stays j a b at now = elim (cases_lt j k) [
  | inl low ↦ stays j a b at (sym (others j (λ e. omega (arith, e, low))) ∙ now)
  | inr high ↦ elim (cases_lt k j) [
    | inl past ↦ stays j a b at (sym (others j (λ e. omega (arith, e, past))) ∙ now)
    | inr other ↦
        let e : j ≡ k = omega (arith, high, other) in
        let own : new ≡ b = same_Some new b (sym is ∙ ap (slice_get ys) (sym e) ∙ now) in
        let before = stays j a old at (ap (slice_get xs) e ∙ was) in (
          ap (λ (c : Copying F G). c.source) (sym own) ∙ source ∙ before.0,
          ap (λ (c : Copying F G). c.piece) (sym own) ∙ piece ∙ before.1,
          ap (λ (c : Copying F G). c.found) (sym own) ∙ found ∙ before.2,
          ap (λ (c : Copying F G). copy_place c.target) (sym own) ∙ place ∙ before.3,
        )
  ]
]

pub read_same : {F G : Type 0} (copy_place : G → ℕ) (xs : List (Copying F G)) → StaysRead copy_place xs xs
read_same {F} {G} copy_place xs k a b at now =
    let own : b ≡ a = same_Some b a (sym now ∙ at) in
    (ap (λ (c : Copying F G). c.source) own, ap (λ (c : Copying F G). c.piece) own, ap (λ (c : Copying F G). c.found) own, ap (λ (c : Copying F G). copy_place c.target) own)
