-- Lists that are made element by element.
use Rattle.std.proofs.Common.{zero, suc, ◌≡◌, ◌∙◌, ℕ, List, Bool, true, false, if◌then◌else◌, [], ◌∷◌, ◌++◌, Option, Some, None, Vec, ap, length, map, refl, slice_get, arith, subst, sym}
use Rattle.std.specs.Borrow.{Bor}
use Rattle.std.specs.Option.{option_map}
use Rattle.std.specs.declared.alloc.Global.{Global}
use Rattle.std.proofs.lemmas.Option.{same_Some, slice_get-map}
use Rattle.md5.specs.Md5.{md5}
use Rattle.sha1.specs.Sha1.{sha1}
use Rattle.sha2.specs.Sha256.{sha256}
use Rattle.sha2.specs.Sha512.{sha512}
use Rattle.bag_digest.specs.declared.algorithm.Alg.TheVariants.{Md5, Sha1, Sha256, Sha512}
use Rattle.bag_digest.specs.declared.algorithm.AlgSet.{AlgSet}
use Rattle.bag_digest.specs.declared.digest.Digest.{Digest}
use Rattle.bag_digest.specs.declared.digest.Digest.TheVariants as digest
use Rattle.bag_digest.specs.declared.multi.Digests.{Digests}
use Rattle.bag_digest.specs.Algorithm.{has}
use Rattle.bag_digest.specs.Each.{AreSlicesOf, digest_if}
use Rattle.bag_digest.specs.Hash.{AreDigests}

-- what holds of each element and its place holds of one element more
pub at_last : {X : Type 0} (xs : List X) (last : X) (P : ℕ → X → Type 0) → ((n : ℕ) (x : X) → slice_get xs n ≡ Some x → P n x) → P (length xs) last
    → (n : ℕ) (x : X) → slice_get (xs ++ last ∷ []) n ≡ Some x → P n x
at_last [] last P each here zero x is = subst (P 0) (same_Some last x is) here
at_last {X} [] last P each here (suc n) x is = absurd (let e : ◌≡◌ {A = Option X} None (Some x) = is in cc)
at_last (first ∷ xs) last P each here zero x is = each 0 x is
at_last (first ∷ xs) last P each here (suc n) x is = at_last xs last (λ m. P (suc m)) (λ m y at. each (suc m) y at) (subst (λ m. P m last) (omega arith) here) n x is

-- SEVERAL MESSAGES

-- the octets of a message
pub slice_at : (messages : List (Vec ℕ Global)) (slices : List (Bor (List ℕ))) (i : ℕ) (message : Vec ℕ Global) → AreSlicesOf messages slices → slice_get messages i ≡ Some message
    → (slice : Bor (List ℕ)) × (slice_get slices i ≡ Some slice) × (slice.now ≡ message.items)
slice_at messages slices i message are there =
    let mapped : slice_get (map (λ (s : Bor (List ℕ)). s.now) slices) i ≡ Some message.items =
    ap (λ xs. slice_get xs i) are ∙ slice_get-map (λ (m : Vec ℕ Global). m.items) messages i ∙ ap (option_map (λ (m : Vec ℕ Global). m.items)) there in
    from_map (slice_get slices i) message.items (sym (slice_get-map (λ (s : Bor (List ℕ)). s.now) slices i) ∙ mapped) where
      from_map : (o : Option (Bor (List ℕ))) (octets : List ℕ) → option_map (λ (s : Bor (List ℕ)). s.now) o ≡ Some octets → (slice : Bor (List ℕ)) × (o ≡ Some slice) × (slice.now ≡ octets)
      from_map None octets e = cc
      from_map (Some slice) octets e = (slice, refl, same_Some slice.now octets e)

mapped : (wanted : Bool) (f : List ℕ → Digest) (octets : List ℕ) → option_map f (if wanted then Some octets else None) ≡ (if wanted then Some (f octets) else None)
mapped true f octets = refl
mapped false f octets = refl

-- the digests by all four algorithms
pub all_digests : (set : AlgSet) (digests : Digests) (octets : List ℕ) → digests.md5 ≡ digest_if md5 (has set Md5) octets → digests.sha1 ≡ digest_if sha1 (has set Sha1) octets
    → digests.sha256 ≡ digest_if sha256 (has set Sha256) octets → digests.sha512 ≡ digest_if sha512 (has set Sha512) octets → AreDigests digests set octets
all_digests set digests octets a b c d Md5 = ap (option_map (λ x. digest.Md5 x)) a ∙ mapped (has set Md5) (λ x. digest.Md5 x) (md5 octets)
all_digests set digests octets a b c d Sha1 = ap (option_map (λ x. digest.Sha1 x)) b ∙ mapped (has set Sha1) (λ x. digest.Sha1 x) (sha1 octets)
all_digests set digests octets a b c d Sha256 = ap (option_map (λ x. digest.Sha256 x)) c ∙ mapped (has set Sha256) (λ x. digest.Sha256 x) (sha256 octets)
all_digests set digests octets a b c d Sha512 = ap (option_map (λ x. digest.Sha512 x)) d ∙ mapped (has set Sha512) (λ x. digest.Sha512 x) (sha512 octets)
