-- A complete bag has no fault but wrong digests, and a bag with no other fault is complete.
use Rattle.std.proofs.Common.{◌≡◌, ◌⊎◌, ◌↔◌, ◌<◌, ◌≤◌, ℕ, List, [], ◌∷◌, length, zero, suc, refl, sym, ap, subst, inl, inr, arith}
use Rattle.bag_rules.proofs.Words.{Alg, AreRising, both_ways, decided_at_most, decided_true, false_from_ne_true, BadDeclaration, BadLine, Bag, bytes_eq, bytes_eq-Decides, cases_lt, Conforms, Decided, decided_as, decided_by, decided_equal, Digest, elements_or_fault, entries_or_fault, Fault, FetchLength, FetchList, FetchNotListed, FetchText, file_of, Has, HasFault, hash, HoldsFile, Info, InfoText, IsComplete, IsFaultyText, IsJudged, IsThere, IsValid, line_fault, LineFault, LineFile, Lists, Manifest, manifest_file, ManifestName, ManifestNotListed, ManifestText, MetadataElement, Missing, NoDeclaration, NoManifest, no_elements, no_entries, no_pairs, NoneBelow, NoneUpTo, NoPayloadDir, number_of, octet_count, oxum_one, oxum_or_none, OxumForm, OxumText, OxumTwice, OxumWrong, Pair, pairs_or_fault, Payload, payload_of, SaysOxum, text_file, tier_of, Unlisted, V097, V1, WrongDigest}
use Rattle.bag_digest.specs.declared.digest.Digest.TheVariants as digest_of
use Rattle.bag_path.specs.declared.version.Version.{Version}
use Rattle.bag_rules.specs.Bags.{IsDeclared, paths_of, version_of}
use Rattle.bag_rules.specs.Listed.{IsListed, IsUnlisted}
use Rattle.bag_rules.proofs.FirstManifest.{decided_alg, decided_there, listed_unless}
use Rattle.bag_rules.proofs.SameListLemmas.{all_has}
use Rattle.bag_rules.proofs.TreeLemmas.{one_octets}
use Rattle.bag_rules.proofs.VerdictLemmas.{declared_none, number_by_tier}

-- DECISIONS

pub decided_octets : (a b : List ℕ) → Decided (a ≡ b)
decided_octets a b = decided_by (a ≡ b) (bytes_eq a b) (bytes_eq-Decides a b)

pub decided_digest : (a b : Digest) → Decided (a ≡ b)
decided_digest (digest_of.Md5 a) (digest_of.Md5 b) = decided_as (a ≡ b) _ (λ e. ap digest_of.Md5 e) (λ e. cc) (decided_octets a b)
decided_digest (digest_of.Sha1 a) (digest_of.Sha1 b) = decided_as (a ≡ b) _ (λ e. ap digest_of.Sha1 e) (λ e. cc) (decided_octets a b)
decided_digest (digest_of.Sha256 a) (digest_of.Sha256 b) = decided_as (a ≡ b) _ (λ e. ap digest_of.Sha256 e) (λ e. cc) (decided_octets a b)
decided_digest (digest_of.Sha512 a) (digest_of.Sha512 b) = decided_as (a ≡ b) _ (λ e. ap digest_of.Sha512 e) (λ e. cc) (decided_octets a b)
decided_digest _ _ = inr (λ e. cc)

-- FROM COMPLETE TO NO FAULT

-- for a path that is listed as required nothing is reported
listed_or_not : (version : Version) (bag : Bag) (alg : Alg) (path : List ℕ) → IsListed version bag path → IsUnlisted version bag alg path → ⊥
listed_or_not V1 bag alg path listed unlisted = both_ways _ unlisted.2 (listed alg unlisted.0 unlisted.1)
listed_or_not V097 bag alg path listed unlisted = unlisted.1 listed

-- a text that can be read has no faulty line
reads_well : (bag : Bag) (file : LineFile) (octets : List ℕ) (fault : LineFault) → AreRising (paths_of bag) → Conforms bag → HoldsFile bag (text_file file) octets → ¬ IsFaultyText (version_of bag) file octets fault
reads_well bag Info octets fault rising conforms holds bad =
    let read = conforms.info_reads (octets, holds) in
    no_elements (version_of bag) octets read.0 fault (subst (λ o. InfoText (version_of bag) o read.0) (one_octets bag (text_file Info) read.1.octets octets rising read.1.there holds) read.1.text) bad
reads_well bag FetchList octets fault rising conforms holds bad =
    let read = conforms.fetch_reads (octets, holds) in
    no_entries (version_of bag) octets read.0 fault (subst (λ o. FetchText (version_of bag) o read.0) (one_octets bag (text_file FetchList) read.1.octets octets rising read.1.there holds) read.1.text) bad
reads_well bag (Manifest name) octets fault rising conforms holds bad =
    let read = conforms.manifests_read name (octets, holds) in
    no_pairs (version_of bag) name.alg name.kind octets read.0 fault
    (subst (λ o. ManifestText (version_of bag) name.alg name.kind o read.0) (one_octets bag (file_of name) read.1.octets octets rising read.1.there holds) read.1.text) bad

pub complete_none : (bag : Bag) → AreRising (paths_of bag) → IsComplete bag → (fault : Fault) → number_of fault ≤ 13 → ¬ HasFault bag fault
complete_none bag rising complete NoDeclaration upto broken = declared_none bag complete.conforms.declared.declaration rising complete.conforms.declared.declares NoDeclaration (omega arith) broken
complete_none bag rising complete (BadDeclaration cause) upto broken = declared_none bag complete.conforms.declared.declaration rising complete.conforms.declared.declares (BadDeclaration cause) (omega arith) broken
complete_none bag rising complete NoPayloadDir upto broken = both_ways bag.has_payload_dir broken complete.conforms.has_payload_dir
complete_none bag rising complete NoManifest upto broken = broken complete.conforms.has_manifest.0 complete.conforms.has_manifest.1
complete_none bag rising complete (BadLine file line cause) upto broken = reads_well bag file broken.0 (line_fault line cause) rising complete.conforms broken.1 broken.2
complete_none bag rising complete (ManifestNotListed tag_manifest manifest) upto broken = both_ways _ broken.3 (complete.conforms.manifests_listed tag_manifest manifest broken.0 broken.1 broken.2)
complete_none bag rising complete OxumForm upto broken = broken.2 _ _ (complete.conforms.oxum_right broken.0 broken.1)
complete_none bag rising complete OxumTwice upto broken = let one = complete.conforms.one_oxum broken.0 broken.1 in let two = broken.2 in omega (arith, one, two)
complete_none bag rising complete (Missing manifest path) upto broken = broken.3 (complete.each_there manifest broken.0 path broken.1 broken.2)
complete_none bag rising complete (Unlisted manifest path) upto broken = listed_or_not (version_of bag) bag manifest path (complete.each_listed path broken.1 broken.2) broken.0
complete_none bag rising complete (FetchNotListed manifest path) upto (unlisted, (line, has, named)) =
    listed_or_not (version_of bag) bag manifest path (subst (λ p. IsListed (version_of bag) bag p) named (complete.conforms.fetch_listed line has)) unlisted
complete_none bag rising complete (FetchLength number path) upto (line, has, numbered, named, (given, gives, (octets, holds, other))) =
    other (complete.conforms.fetch_lengths line octets has (subst (λ p. HoldsFile bag p octets) (sym named) holds) given gives)
complete_none bag rising complete OxumWrong upto broken =
    let same = oxum_one _ _ _ _ _ broken.2.1.1 (complete.conforms.oxum_right broken.0 broken.1) in
    elim broken.2.1.2 [ inl other ↦ other same.0 | inr other ↦ other same.1 ]
complete_none bag rising complete (WrongDigest manifest path) upto broken = absurd (omega (arith, upto))

pub valid_none : (bag : Bag) → AreRising (paths_of bag) → IsValid bag → (fault : Fault) → ¬ HasFault bag fault
valid_none bag rising valid (WrongDigest manifest path) broken =
    broken.2.2.2 (valid.verified manifest broken.0 path broken.2.0 broken.2.2.0 broken.1 broken.2.1 broken.2.2.1)
valid_none bag rising valid fault broken = complete_none bag rising valid.complete fault (omega arith) broken

-- FROM NO FAULT TO COMPLETE

-- a bag that has no fault up to the 13th kind is complete
module _ (bag : Bag) (rising : AreRising (paths_of bag)) (none : (fault : Fault) → number_of fault ≤ 13 → ¬ HasFault bag fault) where
  -- what is decided is true if without it the bag has a fault
  unless : {P : Type 0} → Decided P → (fault : Fault) → number_of fault ≤ 13 → (¬ P → HasFault bag fault) → P
  unless (inl holds) fault upto broken = holds
  unless (inr not) fault upto broken = absurd (none fault upto (broken not))

  reads : {V : Type 0} {says : V → Type 0} (file : LineFile) (there : IsThere bag (text_file file)) → ((value : V) × says value) ⊎ ((fault : LineFault) × IsFaultyText (version_of bag) file there.0 fault) → (value : V) × says value
  reads file there (inl read) = read
  reads file there (inr bad) = absurd (none (BadLine file bad.0.line bad.0.cause) (omega arith) (there.0, there.1, bad.1))

  oxum_right : (element : MetadataElement) → SaysOxum bag element → OxumText element.value (octet_count (payload_of bag.files)) (length (payload_of bag.files))
  oxum_right element says = elim (oxum_or_none element.value) [
    | inr none_read ↦ absurd (none OxumForm (omega arith) (element, says, none_read))
    | inl (octets, streams, text) ↦
        let same : octets ≡ octet_count (payload_of bag.files) = unless (decided_equal octets _) OxumWrong (omega arith) (λ other. (element, says, (octets, (streams, text, inl other)))) in
        let alike : streams ≡ length (payload_of bag.files) = unless (decided_equal streams _) OxumWrong (omega arith) (λ other. (element, says, (octets, (streams, text, inr other)))) in
        subst (λ s. OxumText element.value (octet_count (payload_of bag.files)) s) alike (subst (λ o. OxumText element.value o streams) same text)
  ]

  -- manifests that are there can be read
  manifests_read : (name : ManifestName) → IsThere bag (file_of name) → (pairs : List Pair) × Lists bag name pairs
  manifests_read name there = let read = reads (Manifest name) there (pairs_or_fault (version_of bag) name.alg name.kind there.0) in (read.0, record { octets = there.0; there = there.1; text = read.1 })

  has_manifest : (alg : Alg) × IsThere bag (manifest_file Payload alg)
  has_manifest = unless (decided_alg _ (λ alg. decided_there bag (manifest_file Payload alg))) NoManifest (omega arith) (λ no alg there. no (alg, there))

  -- a path is listed if no manifest is reported for it
  listed : (path : List ℕ) → ((alg : Alg) → ¬ IsUnlisted (version_of bag) bag alg path) → IsListed (version_of bag) bag path
  listed = listed_unless bag rising manifests_read has_manifest (version_of bag)

  pub none_complete : IsDeclared bag → IsComplete bag
  none_complete declared = record {
    conforms = record {
      declared = declared;
      has_payload_dir = unless (decided_true _) NoPayloadDir (omega arith) (λ no. false_from_ne_true _ no);
      has_manifest = has_manifest;
      manifests_read = manifests_read;
      info_reads = λ there. (let read = reads Info there (elements_or_fault (version_of bag) there.0) in (read.0, record { octets = there.0; there = there.1; text = read.1 }));
      fetch_reads = λ there. (let read = reads FetchList there (entries_or_fault (version_of bag) there.0) in (read.0, record { octets = there.0; there = there.1; text = read.1 }));
      manifests_listed = λ tag_manifest manifest pairs lists there.
          unless (decided_true _) (ManifestNotListed tag_manifest manifest) (omega arith) (λ no. (pairs, lists, there, false_from_ne_true _ no));
      one_oxum = λ elements says. unless (decided_at_most _ 1) OxumTwice (omega arith) (λ more. (elements, says, omega (arith, more)));
      oxum_right = oxum_right;
      fetch_listed = λ line has. listed line.entry.path (λ alg unlisted. none (FetchNotListed alg line.entry.path) (omega arith) (unlisted, (line, has, refl)));
      fetch_lengths = λ line octets has holds given gives.
          unless (decided_equal _ given) (FetchLength line.line line.entry.path) (omega arith) (λ other. (line, has, refl, refl, (given, gives, (octets, holds, other))));
    };
    each_there = λ name pairs path lists listed. unless (decided_there bag path) (Missing name path) (omega arith) (λ absent. (pairs, lists, listed, absent));
    each_listed = λ path there payload. listed path (λ alg unlisted. none (Unlisted alg path) (omega arith) (unlisted, there, payload));
  }

-- FROM THE VERDICT

each_above : (n : ℕ) (faults : List Fault) → ((fault : Fault) → Has faults fault → n < number_of fault) → NoneUpTo n faults
each_above n [] each = tt
each_above n (first ∷ faults) each = (each first (inl refl), each_above n faults (λ fault has. each fault (inr has)))

module _ (bag : Bag) (faults : List Fault) (judged : IsJudged bag faults) where
  module _ (only : NoneUpTo 13 faults) where
    -- no fault of a lower tier, so none of this tier
    none_upto : (tier : ℕ) (fault : Fault) → tier_of fault ≤ tier → number_of fault ≤ 13 → ¬ HasFault bag fault
    none_upto zero fault at_most upto broken = absurd (omega (arith, at_most, (number_by_tier fault).1))
    none_upto (suc tier) fault at_most upto broken =
        let lower : NoneBelow (tier_of fault) bag = λ other less. none_upto tier other (omega (arith, less, at_most)) (let by_tier = number_by_tier other in omega (arith, by_tier.0 (omega (arith, less, (number_by_tier fault).2)))) in
        omega (arith, upto, all_has (λ f. 13 < number_of f) faults fault only ((judged.exact fault).1 (broken, lower)))

    only_digests : (fault : Fault) → number_of fault ≤ 13 → ¬ HasFault bag fault
    only_digests fault = none_upto 3 fault (number_by_tier fault).2

    below_3 : NoneBelow 3 bag
    below_3 fault below = only_digests fault (omega (arith, (number_by_tier fault).0 below))

    pub complete_of : AreRising (paths_of bag) → IsComplete bag
    complete_of rising = none_complete bag rising only_digests (judged.in_scope (λ fault below. below_3 fault (omega (arith, below)))).declared

  pub none_broken : ((fault : Fault) → ¬ HasFault bag fault) → faults ≡ []
  none_broken none = empty faults (λ fault has. none fault ((judged.exact fault).0 has).0)
    where
      empty : (fs : List Fault) → ((fault : Fault) → ¬ Has fs fault) → fs ≡ []
      empty [] h = refl
      empty (f ∷ fs) h = absurd (h f (inl refl))

  pub complete_exactly : AreRising (paths_of bag) → IsComplete bag ↔ NoneUpTo 13 faults
  complete_exactly rising = (
    λ complete. each_above 13 faults (λ fault has. elim (cases_lt 13 (number_of fault)) [
      | inl above ↦ above
      | inr upto ↦ absurd (complete_none bag rising complete fault upto ((judged.exact fault).0 has).0)
    ]),
    λ only. complete_of only rising,
  )

  valid_of : AreRising (paths_of bag) → faults ≡ [] → IsValid bag
  valid_of rising e =
      let only : NoneUpTo 13 faults = subst (λ fs. NoneUpTo 13 fs) (sym e) tt in
      record {
        complete = complete_of only rising;
        verified = λ name pairs path digest octets lists is holds. elim (decided_digest (hash name.alg octets) digest) [
          | inl same ↦ same
          | inr other ↦ absurd (subst (λ fs. Has fs (WrongDigest name path)) e ((judged.exact (WrongDigest name path)).1 ((pairs, lists, (digest, is, (octets, holds, other))), below_3 only)))
        ];
      }

  pub valid_exactly : AreRising (paths_of bag) → IsValid bag ↔ (faults ≡ [])
  valid_exactly rising = (λ valid. none_broken (valid_none bag rising valid), valid_of rising)
