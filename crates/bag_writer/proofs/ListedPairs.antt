-- What a manifest of some files lists.
use Rattle.std.proofs.Common.{◌≡◌, ◌∙◌, ℕ, true, false, List, [], ◌∷◌, Some, None, inl, inr, refl, sym, ap}
use Rattle.std.specs.List.Sorted.{IsStrictlySortedBy}
use Rattle.bag_digest.proofs.WholeDigests.{digest_by, digest_spelled}
use Rattle.bag_path.specs.Paths.{IsPath}
use Rattle.bag_rules.proofs.Words.{Alg, AllByRecursion, AreRising, bytes_eq, bytes_eq-Decides, cases_Bool, Digest, Equal, false≢true, Files, Has, hash, keys_of, Kind, Less, listed_digest, lists_path, ManifestText, nat_cmp, nat_list_cmp_total, same_Some, slice_cmp, tied_itself, V1}
use Rattle.bag_tags.proofs.ManifestWritingLemmas.{manifest_reads}
use Rattle.bag_tags.specs.Listings.{IsInPlace, NoneTwice}
use Rattle.bag_tags.specs.ManifestView.{FitEach}
use Rattle.bag_tags.specs.ManifestWriting.{CanBeWritten, written_manifest}
use Rattle.bag_writer.specs.WrittenBags.{pairs_by}

-- THE PATHS

abbrev File : Type 0
File = List ℕ × List ℕ

pub has_listed : (alg : Alg) (files : Files) (path octets : List ℕ) → Has files (path, octets) → lists_path (pairs_by alg files) path ≡ true
has_listed alg [] path octets h = absurd h
has_listed alg (file ∷ files) path octets (inl e) = rw ((bytes_eq-Decides file.0 path).1 (ap (λ (f : File). f.0) e)) refl
has_listed alg (file ∷ files) path octets (inr h) = elim (cases_Bool (bytes_eq file.0 path)) [
  | inl same ↦ rw same refl
  | inr other ↦ rw other (has_listed alg files path octets h)
]

pub listed_has : (alg : Alg) (files : Files) (path : List ℕ) → lists_path (pairs_by alg files) path ≡ true → (octets : List ℕ) × Has files (path, octets)
listed_has alg [] path h = absurd (false≢true h)
listed_has alg (file ∷ files) path h = elim (cases_Bool (bytes_eq file.0 path)) [
  | inl same ↦ (file.1, inl (ap (λ p. (p, file.1)) ((bytes_eq-Decides file.0 path).0 same)))
  | inr other ↦ (let rest = listed_has alg files path (rw other at h) in (rest.0, inr rest.1))
]

-- THE DIGESTS

pub digest_has : (alg : Alg) (files : Files) (path : List ℕ) (digest : Digest) → listed_digest (pairs_by alg files) path ≡ Some digest → (octets : List ℕ) × Has files (path, octets) × (hash alg octets ≡ digest)
digest_has alg [] path digest h = absurd (let k : None ≡ Some digest = h in cc)
digest_has alg (file ∷ files) path digest h = elim (cases_Bool (bytes_eq file.0 path)) [
  | inl same ↦ (file.1, inl (ap (λ p. (p, file.1)) ((bytes_eq-Decides file.0 path).0 same)), same_Some (hash alg file.1) digest (rw same at h))
  | inr other ↦ (let rest = digest_has alg files path digest (rw other at h) in (rest.0, inr rest.1, rest.2))
]

-- THE TEXT

-- a lesser path isn't the same
pub lesser_differs : (x y : List ℕ) → slice_cmp nat_cmp x y ≡ Less → bytes_eq y x ≡ false
lesser_differs x y less = elim (cases_Bool (bytes_eq y x)) [
  | inl same ↦ absurd (
      let tied : slice_cmp nat_cmp x y ≡ Equal = ap (slice_cmp nat_cmp x) ((bytes_eq-Decides y x).0 same) ∙ tied_itself nat_list_cmp_total x in
      let k : Less ≡ Equal = sym less ∙ tied in
      cc
      )
  | inr other ↦ other
]

none_after : (alg : Alg) (path : List ℕ) (files : Files) → AllByRecursion (λ other. slice_cmp nat_cmp path other ≡ Less) (keys_of files) → lists_path (pairs_by alg files) path ≡ false
none_after alg path [] all = refl
none_after alg path (file ∷ files) all = rw (lesser_differs path file.0 all.0) (none_after alg path files all.1)

none_twice : (alg : Alg) (files : Files) → AreRising (keys_of files) → NoneTwice (pairs_by alg files)
unfolding IsStrictlySortedBy
none_twice alg [] rising = tt
none_twice alg (file ∷ files) rising = (none_after alg file.0 files rising.0, none_twice alg files rising.1)

-- these may be listed in a manifest of this kind
abbrev pub MayBeListed : Kind → List ℕ → Type 0
MayBeListed kind path = IsPath path × IsInPlace kind path

pub can_be_written : (alg : Alg) (kind : Kind) (files : Files) → AllByRecursion (MayBeListed kind) (keys_of files) → AllByRecursion CanBeWritten (pairs_by alg files)
can_be_written alg kind [] all = tt
can_be_written alg kind (file ∷ files) all = ((all.0.0, digest_spelled alg file.1), can_be_written alg kind files all.1)

fit_each : (alg : Alg) (kind : Kind) (files : Files) → AllByRecursion (MayBeListed kind) (keys_of files) → FitEach alg kind (pairs_by alg files)
fit_each alg kind [] all = tt
fit_each alg kind (file ∷ files) all = ((digest_by alg file.1, all.0.1), fit_each alg kind files all.1)

pub manifest_text : (alg : Alg) (kind : Kind) (files : Files) → AllByRecursion (MayBeListed kind) (keys_of files) → AreRising (keys_of files) → ManifestText V1 alg kind (written_manifest (pairs_by alg files)) (pairs_by alg files)
manifest_text alg kind files all rising = manifest_reads (written_manifest (pairs_by alg files)) alg kind (pairs_by alg files) refl (can_be_written alg kind files all) (fit_each alg kind files all) (none_twice alg files rising)
