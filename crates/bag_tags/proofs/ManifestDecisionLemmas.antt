-- A line of a manifest adds a pair or is refused, and reading is exact.
use Rattle.std.proofs.Common.{◌≡◌, ◌⊎◌, ◌==◌, ℕ, false, List, codes, length, Result, Ok, Err, refl, sym, ◌∙◌, inl, inr, rules, true, ap, subst}
use Rattle.std.specs.Str.{IsUtf8, IsAscii}
use Rattle.std.proofs.lemmas.Bool.{cases_Bool}
use Rattle.hex.specs.Hex.{decode_sized}
use Rattle.hex.specs.declared.error.FromHexError.{FromHexError}
use Rattle.bag_path.specs.declared.version.Version.{Version}
use Rattle.bag_path.specs.Paths.{is_payload}
use Rattle.bag_digest.specs.declared.algorithm.Alg.{Alg}
use Rattle.bag_digest.specs.declared.algorithm.Alg.TheVariants.{Md5, Sha1, Sha256, Sha512}
use Rattle.bag_digest.specs.declared.digest.Digest.{Digest}
use Rattle.bag_digest.specs.Algorithm.{size_of}
use Rattle.bag_digest.specs.Spelling.{SpellsDigest}
use Rattle.bag_tags.specs.declared.tag_fault.LineCause.{LineCause}
use Rattle.bag_tags.specs.declared.tag_fault.LineCause.TheVariants.{NoSeparator, BadDigest, BadPath, WrongPlace, Twice}
use Rattle.bag_tags.specs.declared.listing.Kind.{Kind}
use Rattle.bag_tags.specs.declared.listing.Kind.TheVariants.{Payload, Tag}
use Rattle.bag_tags.specs.Names.{NamesTagManifest}
use Rattle.bag_tags.specs.Words.{is_blank, without, IsCut}
use Rattle.bag_tags.specs.WordsReading.{until, is_not_blank}
use Rattle.bag_tags.specs.Listings.{Listing, with_pair, pair, IsInPlace, lists_path}
use Rattle.bag_tags.specs.Manifests.{plain_path, HasChecksum, Gives, AddsPair, RefusesLine, SpellsNoPath, HasBadPath}
use Rattle.bag_tags.specs.TagLines.{AreExact}
use Rattle.bag_tags.proofs.DecisionLemmas.{Decided, decided_both, decided_not, decided_true, decided_false}
use Rattle.bag_tags.proofs.FetchLineLemmas.{cut_utf8}
use Rattle.bag_tags.proofs.ManifestLemmas.{adds_one, same_word, no_cut, checksum_one, gives_one}
use Rattle.bag_tags.proofs.NameLemmas.{decided_tag_manifest}
use Rattle.bag_tags.proofs.PathDecisionLemmas.{path_or_fault, one_path_fault, no_path}
use Rattle.bag_tags.proofs.TextCutLemmas.{without_utf8, IsAscii-from_each}
use Rattle.bag_tags.proofs.WordsLemmas.{word_of, after_word, after_blanks, cut_at, none_passes}
use Rattle.bag_path.specs.declared.path.PathFault.{PathFault}
use Rattle.bag_path.specs.Spellings.{Spells}
use Rattle.bag_tags.proofs.CauseLemmas.{Fate, AtMostOne, Is, Unless, on, for, one_is, one_unless, same_cause, on_or_for}
use Rattle.bag_digest.specs.declared.digest.Digest.TheVariants as digest

-- ONE CAUSE AT MOST
module _ (version : Version) (before : Listing) (text : List ℕ) where
  -- what a line has to have, in this order
  abbrev SomeCut : Type 0
  SomeCut = (word blanks rest : List ℕ) × IsCut text word blanks rest

  abbrev SomeChecksum : Type 0
  SomeChecksum = (digest : Digest) × ((path_text : List ℕ) × HasChecksum before.alg text digest path_text)

  abbrev SomePath : Type 0
  SomePath = (path : List ℕ) × ((digest : Digest) × Gives version before.alg text path digest)

  abbrev InPlace : Type 0
  InPlace = (path : List ℕ) × ((digest : Digest) × Gives version before.alg text path digest × IsInPlace before.kind path)

  abbrev NotListed : Type 0
  NotListed = (path : List ℕ) × ((digest : Digest) × Gives version before.alg text path digest × (lists_path before.pairs path ≡ false))

  -- the fate of the text of a path
  abbrev OfPath : Fate → Type 0
  OfPath fate = (fault : PathFault) × (fate ≡ for (BadPath fault)) × HasBadPath version before.alg text fault

  -- the fate of a line, by the first of these that it lacks
  abbrev AfterPath : Fate → Type 0
  AfterPath = Unless InPlace (Is (for WrongPlace)) (Unless NotListed (Is (for Twice)) (Is on))

  abbrev AfterChecksum : Fate → Type 0
  AfterChecksum = Unless SomePath OfPath AfterPath

  abbrev HasFate : Fate → Type 0
  HasFate = Unless SomeCut (Is (for NoSeparator)) (Unless SomeChecksum (Is (for BadDigest)) AfterChecksum)

  one_of_path : AtMostOne OfPath
  one_of_path c d h k =
      let a = h.2 in
      let b = k.2 in
      let same = (checksum_one before.alg text a.digest b.digest a.path_text b.path_text a.checksum b.checksum).1 in
      h.1 ∙ ap (λ f. for (BadPath f)) (one_path_fault version (plain_path b.path_text) h.0 k.0 (subst (λ t. SpellsNoPath h.0 version (plain_path t)) same a.no_path) b.no_path) ∙ sym k.1

  one_fate : AtMostOne HasFate
  one_fate =
      one_unless SomeCut (Is (for NoSeparator)) _ (one_is _)
      (one_unless SomeChecksum (Is (for BadDigest)) _ (one_is _)
      (one_unless SomePath OfPath _ one_of_path
      (one_unless InPlace (Is (for WrongPlace)) _ (one_is _)
      (one_unless NotListed (Is (for Twice)) (Is on) (one_is _) (one_is _)))))

  -- a line that has a checksum, and one that gives a path
  with_checksum : (fate : Fate) (digest : Digest) (path_text : List ℕ) → HasChecksum before.alg text digest path_text → AfterChecksum fate → HasFate fate
  with_checksum fate digest path_text h later = inr ((h.checksum, h.blanks, path_text, h.cut), inr ((digest, (path_text, h)), later))

  with_path : (fate : Fate) (path : List ℕ) (digest : Digest) → Gives version before.alg text path digest → AfterPath fate → HasFate fate
  with_path fate path digest h later = with_checksum fate digest h.path_text h.checksum (inr ((path, (digest, h)), later))

  -- a line with a bad path gives none
  no_path_given : (fault : PathFault) → HasBadPath version before.alg text fault → SomePath → ⊥
  no_path_given fault r h =
      let g = h.1.1 in
      let same = (checksum_one before.alg text h.1.0 r.digest g.path_text r.path_text g.checksum r.checksum).1 in
      no_path version (plain_path r.path_text) h.0 fault (subst (λ t. Spells version h.0 (plain_path t)) same g.spells) g.is_path r.no_path

  no_digest_given : (word blanks rest : List ℕ) → IsCut text word blanks rest → ((digest : Digest) → ¬ SpellsDigest before.alg word digest) → SomeChecksum → ⊥
  no_digest_given word blanks rest cut none h =
      let c = h.1.1 in
      none h.0 (subst (λ t. SpellsDigest before.alg t h.0) (same_word text c.checksum c.blanks h.1.0 word blanks rest c.cut cut).0 c.spells_digest)

  same_path : (p q : List ℕ) (d e : Digest) → Gives version before.alg text p d → Gives version before.alg text q e → p ≡ q
  same_path p q d e h k = (gives_one version before.alg text p q d e h k).0

  refused_fate : (cause : LineCause) → RefusesLine version before text cause → HasFate (for cause)
  refused_fate NoSeparator r = inl (λ h. no_cut text h.0 h.1 h.2 h.3 r, refl)
  refused_fate BadDigest r = inr ((r.checksum, r.blanks, r.path_text, r.cut), inl (no_digest_given r.checksum r.blanks r.path_text r.cut r.no_digest, refl))
  refused_fate (BadPath fault) r = with_checksum _ r.digest r.path_text r.checksum (inl (no_path_given fault r, (fault, refl, r)))
  refused_fate WrongPlace r = with_path _ r.path r.digest r.gives (inl (λ h. r.elsewhere (subst (IsInPlace before.kind) (same_path h.0 r.path h.1.0 r.digest h.1.1 r.gives) h.1.2), refl))
  refused_fate Twice r = with_path _ r.path r.digest r.gives (inr ((r.path, (r.digest, r.gives, r.in_place)), inl (λ h. let b : true ≡ false = sym r.listed ∙ ap (lists_path before.pairs) (same_path r.path h.0 r.digest h.1.0 r.gives h.1.1) ∙ h.1.2 in cc, refl)))
  refused_fate cause r = absurd r

  added_fate : (number : ℕ) (next : Listing) → AddsPair version before number text next → HasFate on
  added_fate number next a = with_path on a.path a.digest a.gives (inr ((a.path, (a.digest, a.gives, a.admitted.in_place)), inr ((a.path, (a.digest, a.gives, a.admitted.not_listed)), refl)))

  pub one_cause : (cause other : LineCause) → RefusesLine version before text cause → RefusesLine version before text other → cause ≡ other
  one_cause cause other r s = same_cause cause other (one_fate (for cause) (for other) (refused_fate cause r) (refused_fate other s))

  pub not_both : (number : ℕ) (next : Listing) (cause : LineCause) → AddsPair version before number text next → RefusesLine version before text cause → ⊥
  not_both number next cause a r = on_or_for cause (one_fate on (for cause) (added_fate number next a) (refused_fate cause r))

-- ONE PAIR, OR A CAUSE

-- the digest of octets by an algorithm
abbrev digest_by : Alg → List ℕ → Digest
digest_by Md5 octets = digest.Md5 octets
digest_by Sha1 octets = digest.Sha1 octets
digest_by Sha256 octets = digest.Sha256 octets
digest_by Sha512 octets = digest.Sha512 octets

digest_spelled : (alg : Alg) (text octets : List ℕ) → decode_sized text (size_of alg) ≡ Ok octets → SpellsDigest alg text (digest_by alg octets)
digest_spelled Md5 text octets e = record { by_alg = refl; digits = e }
digest_spelled alg text octets e = record { by_alg = refl; digits = e }

digest_of : (alg : Alg) (text : List ℕ) (read : Result (List ℕ) FromHexError) → decode_sized text (size_of alg) ≡ read → ((digest : Digest) × SpellsDigest alg text digest) ⊎ ((digest : Digest) → ¬ SpellsDigest alg text digest)
digest_of alg text (Ok octets) e = inl (digest_by alg octets, digest_spelled alg text octets e)
digest_of alg text (Err fault) e = inr (λ d h. let k = sym e ∙ h.digits in cc)

pub digest_or_none : (alg : Alg) (text : List ℕ) → ((digest : Digest) × SpellsDigest alg text digest) ⊎ ((digest : Digest) → ¬ SpellsDigest alg text digest)
digest_or_none alg text = digest_of alg text (decode_sized text (size_of alg)) refl

decided_place : (kind : Kind) (path : List ℕ) → Decided (IsInPlace kind path)
decided_place Payload path = decided_true (is_payload path)
decided_place Tag path = decided_both (is_payload path ≡ false) (¬ NamesTagManifest path) (decided_false (is_payload path)) (decided_not (NamesTagManifest path) (decided_tag_manifest path))

plain_utf8 : (text : List ℕ) → IsUtf8 text → IsUtf8 (plain_path text)
plain_utf8 text u =
    let star : IsAscii (codes "*") = IsAscii-from_each (codes "*") (search rules) in
    let dot : IsAscii (codes "./") = IsAscii-from_each (codes "./") (search rules) in
    without_utf8 (codes "./") (without (codes "*") text) dot (without_utf8 (codes "*") text star u)

module _ (version : Version) (before : Listing) (number : ℕ) (text : List ℕ) where
  abbrev PairOrCause : Type 0
  PairOrCause = ((next : Listing) × AddsPair version before number text next) ⊎ ((cause : LineCause) × RefusesLine version before text cause)

  -- a line that gives something
  of_path : (path : List ℕ) (digest : Digest) → Gives version before.alg text path digest → PairOrCause
  of_path path digest gives = elim (decided_place before.kind path) [
    | inr wrong ↦ inr (WrongPlace, record { path = path; digest = digest; gives = gives; elsewhere = wrong })
    | inl in_place ↦ elim (cases_Bool (lists_path before.pairs path)) [
      | inl listed ↦ inr (Twice, record { path = path; digest = digest; gives = gives; in_place = in_place; listed = listed })
      | inr not_listed ↦ inl (
        with_pair before (pair path digest),
        record {
          path = path;
          digest = digest;
          gives = gives;
          admitted = record { by_alg = gives.checksum.spells_digest.by_alg; in_place = in_place; not_listed = not_listed };
          added = refl;
        },
      )
    ]
  ]

  -- a line that has a checksum
  of_checksum : (digest : Digest) (path_text : List ℕ) → IsUtf8 text → HasChecksum before.alg text digest path_text → PairOrCause
  of_checksum digest path_text utf8 checksum = elim (path_or_fault version (plain_path path_text) (plain_utf8 path_text (cut_utf8 text checksum.checksum checksum.blanks path_text checksum.cut utf8).1)) [
    | inl p ↦ of_path p.0 digest (record { path_text = path_text; checksum = checksum; spells = p.1; is_path = p.2 })
    | inr f ↦ inr (BadPath f.0, record { digest = digest; path_text = path_text; checksum = checksum; no_path = f.1 })
  ]

  -- a line with a blank
  of_cut : IsUtf8 text → (length (after_word text) == 0) ≡ false → PairOrCause
  of_cut utf8 some =
      let word = word_of text in
      let blanks = (until is_not_blank (after_word text)).0 in
      let path_text = after_blanks (after_word text) in
      let cut = cut_at text some in
      elim (digest_or_none before.alg word) [
        | inl d ↦ of_checksum d.0 path_text utf8 (record { checksum = word; blanks = blanks; cut = cut; spells_digest = d.1 })
        | inr none ↦ inr (BadDigest, record { checksum = word; blanks = blanks; path_text = path_text; cut = cut; no_digest = none })
      ]

  pair_or_cause : IsUtf8 text → PairOrCause
  pair_or_cause utf8 = elim (cases_Bool (length (after_word text) == 0)) [
    | inl none ↦ inr (NoSeparator, none_passes is_blank text none)
    | inr some ↦ of_cut utf8 some
  ]

pub manifest_exact : (version : Version) → AreExact (AddsPair version) (RefusesLine version)
manifest_exact version = record {
  one_value = adds_one version;
  one_cause = one_cause version;
  not_both = λ before number text. not_both version before text number;
  one_of_both = pair_or_cause version;
}
