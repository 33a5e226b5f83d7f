-- What can be wrong with bags that have a declaration, a payload manifest by SHA-256 that lists no file except possibly
-- `data/a.txt`, and no other payload file.
use Rattle.std.proofs.Common.{◌≡◌, ◌≢◌, ◌⊎◌, ℕ, true, false, List, [], ◌∷◌, Some, codes, nat_eq, get_or, refl, sym, ap, ◌∙◌, subst, inl, inr}
use Rattle.bag_rules.proofs.Words.{Alg, BadDeclaration, BadLine, Bag, bytes_eq, current, differ_at, Digest, excludes, Fault, FetchLength, FetchList, FetchNotListed, file_of, Has, HasFault, hash, HoldsFile, Info, is_payload, IsDeclaration, IsInScope, IsThere, IsUnknownManifest, Kind, line_fault, LineCause, listed_digest, Lists, lists_path, Manifest, manifest_file, manifest_name, ManifestFault, ManifestName, ManifestNotListed, ManifestText, Missing, NoDeclaration, NoManifest, no_pairs, NoPayloadDir, one_file, one_list_of_pairs, other_text, OxumForm, OxumTwice, OxumWrong, Pair, Payload, payload_known, payload_manifest, Sha256, Tag, tag_manifest, Unlisted, V1, written_declaration, written_declares, WrongDigest}
use Rattle.bag_rules.specs.Bags.{version_of}
use Rattle.bag_rules.specs.Listed.{IsUnlisted}
use Rattle.bag_rules.proofs.ListedLemmas.{some_listed}

abbrev pub payload_file : List ℕ
payload_file = codes "data/a.txt"

abbrev pub by_sha256 : ManifestName
by_sha256 = manifest_name Payload Sha256

-- the files that may be there
abbrev pub IsFile : List ℕ → List ℕ → List ℕ → List ℕ → Type 0
IsFile manifest content path octets = Has {X = List ℕ × List ℕ} ((codes "bagit.txt", written_declaration) ∷ (payload_file, content) ∷ (codes "manifest-sha256.txt", manifest) ∷ []) (path, octets)

-- what holds of each of them holds of one that is there
by_file : (manifest content : List ℕ) (P : List ℕ → List ℕ → Type 0) → P (codes "bagit.txt") written_declaration → P payload_file content → P (codes "manifest-sha256.txt") manifest → (path octets : List ℕ) → IsFile manifest content path octets → P path octets
by_file manifest content P a b c path octets (inl e) = subst (λ (file : List ℕ × List ℕ). P file.0 file.1) e a
by_file manifest content P a b c path octets (inr (inl e)) = subst (λ (file : List ℕ × List ℕ). P file.0 file.1) e b
by_file manifest content P a b c path octets (inr (inr (inl e))) = subst (λ (file : List ℕ × List ℕ). P file.0 file.1) e c
by_file manifest content P a b c path octets (inr (inr (inr none))) = absurd none

pub record HasOneManifest (bag : Bag) (manifest content : List ℕ) (pairs : List Pair) : Type 0 where
  pub held : (path octets : List ℕ) → HoldsFile bag path octets → IsFile manifest content path octets
  pub declared : HoldsFile bag (codes "bagit.txt") written_declaration
  pub version_is : version_of bag ≡ V1
  pub there : HoldsFile bag (codes "manifest-sha256.txt") manifest
  pub text : ManifestText V1 Sha256 Payload manifest pairs
  pub listed : (path : List ℕ) → lists_path pairs path ≡ true → path ≡ payload_file

-- everything that can be wrong has P
pub record CanBe (bag : Bag) (content : List ℕ) (pairs : List Pair) (P : Fault → Type 0) : Type 0 where
  pub no_dir : bag.has_payload_dir ≡ false → P NoPayloadDir
  pub missing : lists_path pairs payload_file ≡ true → ¬ IsThere bag payload_file → P (Missing by_sha256 payload_file)
  pub unlisted : lists_path pairs payload_file ≡ false → IsThere bag payload_file → P (Unlisted Sha256 payload_file)
  pub wrong : (digest : Digest) → listed_digest pairs payload_file ≡ Some digest → IsThere bag payload_file → hash Sha256 content ≢ digest → P (WrongDigest by_sha256 payload_file)

-- the name of a manifest begins with `m` or `t`
word_apart : (path word : List ℕ) → nat_eq 109 (get_or path 0 0) ≡ false → nat_eq 116 (get_or path 0 0) ≡ false → (path ≡ payload_manifest word) ⊎ (path ≡ tag_manifest word) → ⊥
word_apart path word m t (inl e) = differ_at 0 (payload_manifest word) path m (sym e)
word_apart path word m t (inr e) = differ_at 0 (tag_manifest word) path t (sym e)

manifest_apart : (kind : Kind) (alg : Alg) (path : List ℕ) → nat_eq 109 (get_or path 0 0) ≡ false → nat_eq 116 (get_or path 0 0) ≡ false → manifest_file kind alg ≢ path
manifest_apart Payload alg path m t e = differ_at 0 (manifest_file Payload alg) path m e
manifest_apart Tag alg path m t e = differ_at 0 (manifest_file Tag alg) path t e

named : (kind : Kind) (alg : Alg) → manifest_file kind alg ≡ codes "manifest-sha256.txt" → manifest_name kind alg ≡ by_sha256
named kind alg e = let same : Manifest (manifest_name kind alg) ≡ Manifest by_sha256 = one_file (codes "manifest-sha256.txt") (Manifest (manifest_name kind alg)) (Manifest by_sha256) (sym e) refl in cc

module _ (bag : Bag) (manifest content : List ℕ) (pairs : List Pair) (h : HasOneManifest bag manifest content pairs) where
  no_other : (path octets : List ℕ) → bytes_eq (codes "bagit.txt") path ≡ false → bytes_eq payload_file path ≡ false → bytes_eq (codes "manifest-sha256.txt") path ≡ false → ¬ HoldsFile bag path octets
  no_other path octets a b c held = by_file manifest content (λ p o. p ≢ path) (other_text (codes "bagit.txt") path a) (other_text payload_file path b) (other_text (codes "manifest-sha256.txt") path c) path octets (h.held path octets held) refl

  no_info : (octets : List ℕ) → ¬ HoldsFile bag (codes "bag-info.txt") octets
  no_info octets = no_other (codes "bag-info.txt") octets refl refl refl

  no_fetch : (octets : List ℕ) → ¬ HoldsFile bag (codes "fetch.txt") octets
  no_fetch octets = no_other (codes "fetch.txt") octets refl refl refl

  declares_well : (octets : List ℕ) → HoldsFile bag (codes "bagit.txt") octets → IsDeclaration octets current
  declares_well octets held = by_file manifest content (λ p o. p ≡ codes "bagit.txt" → IsDeclaration o current) (λ e. written_declares)
      (λ e. absurd (other_text payload_file (codes "bagit.txt") refl e)) (λ e. absurd (other_text (codes "manifest-sha256.txt") (codes "bagit.txt") refl e))
      (codes "bagit.txt") octets (h.held (codes "bagit.txt") octets held) refl

  -- a manifest that is there is the one
  the_one : (name : ManifestName) (octets : List ℕ) → HoldsFile bag (file_of name) octets → (name ≡ by_sha256) × (octets ≡ manifest)
  the_one name octets held = by_file manifest content (λ p o. file_of name ≡ p → (name ≡ by_sha256) × (o ≡ manifest))
      (λ e. absurd (manifest_apart name.kind name.alg (codes "bagit.txt") refl refl e)) (λ e. absurd (manifest_apart name.kind name.alg payload_file refl refl e))
      (λ e. (named name.kind name.alg e, refl))
      (file_of name) octets (h.held (file_of name) octets held) refl

  lists_these : (name : ManifestName) (others : List Pair) → Lists bag name others → (name ≡ by_sha256) × (others ≡ pairs)
  lists_these name others l =
      let one = the_one name l.octets l.there in
      (one.0, one_list_of_pairs V1 Sha256 Payload manifest others pairs (rw (one.0, one.1) at (subst (λ v. ManifestText v name.alg name.kind l.octets others) h.version_is l.text)) h.text)

  no_bad_line : (name : ManifestName) (octets : List ℕ) (line : ℕ) (cause : LineCause) → HoldsFile bag (file_of name) octets → ¬ ManifestFault (version_of bag) name.alg name.kind octets (line_fault line cause)
  no_bad_line name octets line cause held fault =
      let one = the_one name octets held in
      no_pairs V1 Sha256 Payload manifest pairs (line_fault line cause) h.text (rw (one.0, one.1) at (subst (λ v. ManifestFault v name.alg name.kind octets (line_fault line cause)) h.version_is fault))

  -- a payload file that is there is the one
  payload_only : (path octets : List ℕ) → HoldsFile bag path octets → is_payload path ≡ true → (path ≡ payload_file) × (octets ≡ content)
  payload_only path octets held = by_file manifest content (λ p o. is_payload p ≡ true → (p ≡ payload_file) × (o ≡ content)) (λ e. absurd (let k : false ≡ true = e in cc)) (λ e. (refl, refl)) (λ e. absurd (let k : false ≡ true = e in cc)) path octets (h.held path octets held)

  pub left_fault : (P : Fault → Type 0) → CanBe bag content pairs P → (fault : Fault) → HasFault bag fault → P fault
  left_fault P can NoDeclaration b = absurd (b (written_declaration, h.declared))
  left_fault P can (BadDeclaration cause) b = absurd (excludes b.0 current cause (declares_well b.0 b.1) b.2)
  left_fault P can NoPayloadDir b = can.no_dir b
  left_fault P can NoManifest b = absurd (b Sha256 (manifest, h.there))
  left_fault P can (BadLine Info line cause) b = absurd (no_info b.0 b.1)
  left_fault P can (BadLine FetchList line cause) b = absurd (no_fetch b.0 b.1)
  left_fault P can (BadLine (Manifest name) line cause) b = absurd (no_bad_line name b.0 line cause b.1 b.2)
  left_fault P can (ManifestNotListed alg known) b = absurd (let e : Tag ≡ Payload = ap (λ (n : ManifestName). n.kind) (lists_these (manifest_name Tag alg) b.0 b.1).0 in cc)
  left_fault P can OxumForm b = absurd (no_info b.1.says.octets b.1.says.there)
  left_fault P can OxumTwice b = absurd (no_info b.1.octets b.1.there)
  left_fault P can (Missing name path) b =
      let one = lists_these name b.0 b.1 in
      let here = h.listed path (rw one.1 at b.2) in
      rw (one.0, here) (can.missing (rw (one.1, here) at b.2) (rw here at b.3))
  left_fault P can (Unlisted alg path) b =
      let unlisted = subst (λ v. IsUnlisted v bag alg path) h.version_is b.0 in
      let one = lists_these (manifest_name Payload alg) unlisted.0 unlisted.1 in
      let by : alg ≡ Sha256 = ap (λ (n : ManifestName). n.alg) one.0 in
      let here = (payload_only path b.1.0 b.1.1 b.2).0 in
      rw (by, here) (can.unlisted (rw (one.1, here) at unlisted.2) (rw here at b.1))
  left_fault P can (FetchNotListed alg path) b = absurd (no_fetch b.1.1.lists.octets b.1.1.lists.there)
  left_fault P can (FetchLength line path) b = absurd (no_fetch b.1.lists.octets b.1.lists.there)
  left_fault P can OxumWrong b = absurd (no_info b.1.says.octets b.1.says.there)
  left_fault P can (WrongDigest name path) b =
      let one = lists_these name b.0 b.1 in
      let found : listed_digest pairs path ≡ Some b.2.0 = subst (λ ps. listed_digest ps path ≡ Some b.2.0) one.1 b.2.1 in
      let here : path ≡ payload_file = h.listed path (some_listed pairs path b.2.0 found) in
      let octets = b.2.2.0 in
      let same : octets ≡ content = (payload_only path octets b.2.2.1 (ap is_payload here)).1 in
      let other : hash Sha256 octets ≢ b.2.0 = subst (λ (n : ManifestName). hash n.alg octets ≢ b.2.0) one.0 b.2.2.2 in
      let there : IsThere bag path = (octets, b.2.2.1) in
      rw (one.0, here) (can.wrong b.2.0 (rw here at found) (rw here at there) (λ e. other (ap (hash Sha256) same ∙ e)))

  pub lists : Lists bag by_sha256 pairs
  lists = record { octets = manifest; there = h.there; text = subst (λ v. ManifestText v Sha256 Payload manifest pairs) (sym h.version_is) h.text }

  pub scope : IsInScope bag
  scope = record {
    declared = record { declaration = current; declares = (written_declaration, h.declared, written_declares); version_is = ap Some (sym h.version_is); in_utf8 = refl };
    known = λ path word there. by_file manifest content (λ p o. ¬ IsUnknownManifest p word)
        (λ u. word_apart (codes "bagit.txt") word refl refl u.form) (λ u. word_apart payload_file word refl refl u.form) (λ u. payload_known (codes "manifest-sha256.txt") Sha256 word u refl)
        path there.0 (h.held path there.0 there.1);
  }
