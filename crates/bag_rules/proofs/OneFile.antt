-- Bags with one payload manifest and one payload file, or none.
use Rattle.std.proofs.Common.{◌≡◌, ◌<◌, ℕ, Bool, true, false, List, [], ◌∷◌, codes, refl, sym, ap, subst, inl, inr, arith}
use Rattle.std.specs.List.Sorted.{IsStrictlySortedBy}
use Rattle.bag_rules.proofs.Words.{adds_pair, AddsPair, AreRising, ascii_path, Bag, bytes_eq, bytes_eq-Decides, Digest, digits_of_abc, false≢true, Fault, HasFault, IsInScope, IsJudged, IsThere, leads_on, Listing, lists_path, ManifestText, nothing_listed, or_cases, other_text, Pair, pair, Payload, Sha256, sha256_of_abc, SpellsDigest, text_of, tier_of, V1, with_pair, word_of, written_declaration}
use Rattle.bag_path.specs.Lines.{lines_of}
use Rattle.bag_path.specs.declared.version.Version.{Version}
use Rattle.bag_path.specs.Paths.{path_fault}
use Rattle.bag_path.specs.SpellingReading.{octets_spelled_after}
use Rattle.bag_digest.specs.declared.digest.Digest.TheVariants as digest
use Rattle.bag_tags.specs.WordsReading.{until}
use Rattle.bag_rules.specs.Bags.{paths_of}
use Rattle.bag_rules.specs.ExampleBags.{manifest_of_abc}
use Rattle.bag_rules.proofs.HasLemmas.{has_at}
use Rattle.bag_rules.proofs.OneManifest.{HasOneManifest, payload_file}
use Rattle.bag_rules.proofs.OneVerdictLemmas.{lone}
use Rattle.bag_rules.proofs.VerdictLemmas.{judged_by_one}

-- VERDICTS

pub judged_none : (bag : Bag) → ((fault : Fault) → ¬ HasFault bag fault) → IsInScope bag → IsJudged bag []
unfolding IsStrictlySortedBy
judged_none bag none scope = record { in_order = tt; exact = λ fault. (λ h. absurd h, λ h. none fault h.0); in_scope = λ below. scope }

-- the one fault that the bag has
pub judged_one : (bag : Bag) (fault : Fault) → HasFault bag fault → ((other : Fault) → HasFault bag other → fault ≡ other) → IsInScope bag → IsJudged bag (fault ∷ [])
judged_one bag fault broken only scope =
    judged_by_one bag fault (fault ∷ []) broken (λ other less b. omega (arith, subst (λ f. tier_of f < tier_of fault) (sym (only other b)) less)) (λ other tier. only other)
    (λ below. scope) (lone fault) (λ other. (λ h. h, λ h. h))

-- MANIFESTS

abbrev pub of_abc : Digest
of_abc = digest.Sha256 sha256_of_abc

abbrev pub listed : List Pair
listed = pair payload_file of_abc ∷ []

abbrev text : List ℕ
text = codes "ba7816bf8f01cfea414140de5dae2223b00361a396177a9cb410ff61f20015ad  data/a.txt"

abbrev nothing : Listing
nothing = nothing_listed Sha256 Payload

gives_digest : SpellsDigest Sha256 (word_of text) of_abc
unfolding until
gives_digest = digits_of_abc

adds : (version : Version) → AddsPair version nothing 1 text (with_pair nothing (pair payload_file of_abc))
unfolding until octets_spelled_after path_fault
adds version = adds_pair nothing text of_abc refl gives_digest payload_file refl (ascii_path payload_file refl refl) 1 refl refl

pub lists_one : (version : Version) → ManifestText version Sha256 Payload manifest_of_abc listed
unfolding lines_of
lists_one version = text_of (AddsPair version) nothing manifest_of_abc (with_pair nothing (pair payload_file of_abc)) (with_pair nothing (pair payload_file of_abc), leads_on (AddsPair version) _ _ _ refl refl (adds version), refl)

pub one_listed : (path : List ℕ) → lists_path listed path ≡ true → path ≡ payload_file
one_listed path e = elim (or_cases (bytes_eq payload_file path) false e) [ inl same ↦ sym ((bytes_eq-Decides payload_file path).0 same) | inr none ↦ absurd (false≢true none) ]

pub lists_none : ManifestText V1 Sha256 Payload [] []
unfolding lines_of
lists_none = text_of (AddsPair V1) nothing [] nothing refl

pub none_listed : (path : List ℕ) → lists_path [] path ≡ true → path ≡ payload_file
none_listed path e = absurd (false≢true e)

-- BAGS

abbrev pub with_file : List ℕ → List ℕ → Bag
with_file manifest content = record { files = (codes "bagit.txt", written_declaration) ∷ (payload_file, content) ∷ (codes "manifest-sha256.txt", manifest) ∷ []; has_payload_dir = true }

abbrev pub without_file : List ℕ → Bool → Bag
without_file manifest has_payload_dir = record { files = (codes "bagit.txt", written_declaration) ∷ (codes "manifest-sha256.txt", manifest) ∷ []; has_payload_dir = has_payload_dir }

module _ (manifest : List ℕ) (pairs : List Pair) (lists : ManifestText V1 Sha256 Payload manifest pairs) (only : (path : List ℕ) → lists_path pairs path ≡ true → path ≡ payload_file) where
  pub has_file : (content : List ℕ) → HasOneManifest (with_file manifest content) manifest content pairs
  has_file content = record {
    held = λ path octets h. has_at (with_file manifest content).files h.0 (path, octets) h.1;
    declared = (0, refl);
    version_is = refl;
    there = (2, refl);
    text = lists;
    listed = only;
  }

  pub has_no_file : (has_payload_dir : Bool) → HasOneManifest (without_file manifest has_payload_dir) manifest [] pairs
  has_no_file has_payload_dir = record {
    held = λ path octets h. elim (has_at (without_file manifest has_payload_dir).files h.0 (path, octets) h.1) [ inl e ↦ inl e | inr e ↦ inr (inr e) ];
    declared = (0, refl);
    version_is = refl;
    there = (1, refl);
    text = lists;
    listed = only;
  }

pub no_file : (manifest : List ℕ) (has_payload_dir : Bool) → ¬ IsThere (without_file manifest has_payload_dir) payload_file
no_file manifest has_payload_dir h = elim (has_at (without_file manifest has_payload_dir).files h.1.0 (payload_file, h.0) h.1.1) [
  | inl e ↦ other_text (codes "bagit.txt") payload_file refl (ap (λ (file : List ℕ × List ℕ). file.0) e)
  | inr r ↦ elim r [ inl e ↦ other_text (codes "manifest-sha256.txt") payload_file refl (ap (λ (file : List ℕ × List ℕ). file.0) e) | inr none ↦ none ]
]

pub rising_with : (manifest content : List ℕ) → AreRising (paths_of (with_file manifest content))
unfolding IsStrictlySortedBy
rising_with manifest content = ((refl, (refl, tt)), ((refl, tt), (tt, tt)))

pub rising_without : (manifest : List ℕ) (has_payload_dir : Bool) → AreRising (paths_of (without_file manifest has_payload_dir))
unfolding IsStrictlySortedBy
rising_without manifest has_payload_dir = ((refl, tt), (tt, tt))

-- the payload manifest is empty, and there is no payload file
pub least : (has_payload_dir : Bool) → HasOneManifest (without_file [] has_payload_dir) [] [] []
least = has_no_file [] [] lists_none none_listed
