-- A bag of version 0.97 with two payload manifests, of which the first lists nothing.
use Rattle.std.proofs.Common.{◌≡◌, ◌⊎◌, ℕ, false, List, [], codes, refl, sym, ap, subst, inl, inr}
use Rattle.bag_rules.proofs.Words.{Alg, Bag, bytes_eq, Has, HoldsFile, Lists, manifest_file, manifest_name, ManifestText, Md5, nothing_listed, one_list_of_pairs, other_text, Pair, Payload, Sha1, Sha256, Sha512, text_of, V097}
use Rattle.bag_path.specs.Lines.{lines_of}
use Rattle.bag_rules.specs.ExampleBags.{bag_of_0_97}
use Rattle.bag_rules.proofs.HasLemmas.{has_at}
use Rattle.bag_rules.proofs.OneManifest.{payload_file}

-- an empty text lists nothing
pub lists_nothing : (alg : Alg) → ManifestText V097 alg Payload [] []
unfolding lines_of
lists_nothing alg = text_of _ (nothing_listed alg Payload) [] (nothing_listed alg Payload) refl

module _ (manifest : List ℕ) where
  abbrev bag : Bag
  bag = bag_of_0_97 manifest

  abbrev File : Type 0
  File = List ℕ × List ℕ

  -- what isn't the declaration or the payload file is one of the manifests
  of_name : (name octets : List ℕ) → Has bag.files (name, octets) → bytes_eq (codes "bagit.txt") name ≡ false → bytes_eq payload_file name ≡ false → bytes_eq (codes "fetch.txt") name ≡ false → ((codes "manifest-md5.txt" ≡ name) × ([] ≡ octets)) ⊎ ((codes "manifest-sha256.txt" ≡ name) × (manifest ≡ octets))
  of_name name octets (inl e) a b d = absurd (other_text (codes "bagit.txt") name a (ap (λ (f : File). f.0) e))
  of_name name octets (inr (inl e)) a b d = absurd (other_text payload_file name b (ap (λ (f : File). f.0) e))
  of_name name octets (inr (inr (inl e))) a b d = absurd (other_text (codes "fetch.txt") name d (ap (λ (f : File). f.0) e))
  of_name name octets (inr (inr (inr (inl e)))) a b d = inl (ap (λ (f : File). f.0) e, ap (λ (f : File). f.1) e)
  of_name name octets (inr (inr (inr (inr (inl e))))) a b d = inr (ap (λ (f : File). f.0) e, ap (λ (f : File). f.1) e)
  of_name name octets (inr (inr (inr (inr (inr none))))) a b d = absurd none

  of_alg : (alg : Alg) (octets : List ℕ) → HoldsFile bag (manifest_file Payload alg) octets → ((alg ≡ Md5) × ([] ≡ octets)) ⊎ ((alg ≡ Sha256) × (manifest ≡ octets))
  of_alg Md5 octets h = elim (of_name _ octets (has_at bag.files h.0 (manifest_file Payload Md5, octets) h.1) refl refl refl) [ inl e ↦ inl (refl, e.1) | inr e ↦ absurd (other_text (codes "manifest-sha256.txt") (manifest_file Payload Md5) refl e.0) ]
  of_alg Sha1 octets h = elim (of_name _ octets (has_at bag.files h.0 (manifest_file Payload Sha1, octets) h.1) refl refl refl) [ inl e ↦ absurd (other_text (codes "manifest-md5.txt") (manifest_file Payload Sha1) refl e.0) | inr e ↦ absurd (other_text (codes "manifest-sha256.txt") (manifest_file Payload Sha1) refl e.0) ]
  of_alg Sha256 octets h = elim (of_name _ octets (has_at bag.files h.0 (manifest_file Payload Sha256, octets) h.1) refl refl refl) [ inl e ↦ absurd (other_text (codes "manifest-md5.txt") (manifest_file Payload Sha256) refl e.0) | inr e ↦ inr (refl, e.1) ]
  of_alg Sha512 octets h = elim (of_name _ octets (has_at bag.files h.0 (manifest_file Payload Sha512, octets) h.1) refl refl refl) [ inl e ↦ absurd (other_text (codes "manifest-md5.txt") (manifest_file Payload Sha512) refl e.0) | inr e ↦ absurd (other_text (codes "manifest-sha256.txt") (manifest_file Payload Sha512) refl e.0) ]

  pub first_lists : Lists bag (manifest_name Payload Md5) []
  first_lists = record { octets = []; there = (3, refl); text = lists_nothing Md5 }

-- both manifests list nothing
pub none_lists : (alg : Alg) (pairs : List Pair) → Lists (bag_of_0_97 []) (manifest_name Payload alg) pairs → pairs ≡ []
none_lists alg pairs lists = one_list_of_pairs V097 alg Payload [] pairs [] (subst (λ o. ManifestText V097 alg Payload o pairs) (elim (of_alg [] alg lists.octets lists.there) [ inl e ↦ sym e.1 | inr e ↦ sym e.1 ]) lists.text) (lists_nothing alg)
