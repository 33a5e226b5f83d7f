-- The text of a manifest lists pairs by the algorithm and of the kind with which it is read.
use Rattle.std.proofs.Common.{◌≡◌, ◌⊎◌, ℕ, List, [], ◌∷◌, ap, ◌∙◌, subst, inl, inr}
use Rattle.bag_path.specs.declared.version.Version.{Version}
use Rattle.bag_digest.specs.declared.algorithm.Alg.{Alg}
use Rattle.bag_tags.specs.declared.tag_fault.LineFault.{LineFault}
use Rattle.bag_tags.specs.declared.listing.Kind.{Kind}
use Rattle.bag_tags.specs.declared.listing.Pair.{Pair}
use Rattle.bag_tags.specs.TagLines.{TagLine, LeadsOn, Lead, IsTextOf, tag_lines}
use Rattle.bag_tags.specs.Listings.{Listing, nothing_listed}
use Rattle.bag_tags.specs.Manifests.{AddsPair, RefusesLine, ManifestText, ManifestFault}
use Rattle.bag_tags.proofs.ManifestDecisionLemmas.{manifest_exact}
use Rattle.bag_tags.proofs.TagLinesLemmas.{value_or_fault}

abbrev pub listing : Alg → Kind → List Pair → Listing
listing alg kind pairs = record { alg = alg; kind = kind; pairs = pairs }

-- a line changes neither the algorithm nor the kind
abbrev IsKept : Listing → Listing → Type 0
IsKept start value = (value.alg ≡ start.alg) × (value.kind ≡ start.kind)

kept : (start value : Listing) → value ≡ start → IsKept start value
kept start value e = (ap (λ (l : Listing). l.alg) e, ap (λ (l : Listing). l.kind) e)

keeps_line : (version : Version) (start value : Listing) (line : TagLine) → LeadsOn (AddsPair version) start line value → IsKept start value
keeps_line version start value line h = elim h [
  | inl e ↦ kept start value e.1
  | inr e ↦ let a = e.2.added in (ap (λ (l : Listing). l.alg) a, ap (λ (l : Listing). l.kind) a)
]

keeps : (version : Version) (lines : List TagLine) (start value : Listing) → Lead (LeadsOn (AddsPair version)) start lines value → IsKept start value
keeps version [] start value h = kept start value h
keeps version (line ∷ lines) start value h =
    let a = keeps_line version start h.0 line h.1 in
    let r = keeps version lines h.0 value h.2 in
    (r.0 ∙ a.0, r.1 ∙ a.1)

pub manifest_listed : (version : Version) (alg : Alg) (kind : Kind) (octets : List ℕ) (value : Listing) → IsTextOf (AddsPair version) (nothing_listed alg kind) octets value → (value.alg ≡ alg) × (value.kind ≡ kind) × ManifestText version alg kind octets value.pairs
manifest_listed version alg kind octets value t =
    let k = keeps version (tag_lines t.lines) (nothing_listed alg kind) value t.lead in
    let same : value ≡ listing alg kind value.pairs = ap (λ a. listing a value.kind value.pairs) k.0 ∙ ap (λ d. listing alg d value.pairs) k.1 in
    (k.0, k.1, subst (IsTextOf (AddsPair version) (nothing_listed alg kind) octets) same t)

pub pairs_or_fault : (version : Version) (alg : Alg) (kind : Kind) (octets : List ℕ) → ((pairs : List Pair) × ManifestText version alg kind octets pairs) ⊎ ((fault : LineFault) × ManifestFault version alg kind octets fault)
pairs_or_fault version alg kind octets = elim (value_or_fault (AddsPair version) (RefusesLine version) (manifest_exact version) (nothing_listed alg kind) octets) [
  | inl h ↦ inl (h.0.pairs, (manifest_listed version alg kind octets h.0 h.1).2)
  | inr f ↦ inr f
]
