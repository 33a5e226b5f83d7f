-- What reading the text of a tag file does to the texts.
use Rattle.std.proofs.Common.{◌≡◌, ◌⊎◌, ◌↔◌, ℕ, List, Option, Some, None, Result, sym, ap, ◌∙◌, inl, inr, subst}
use Rattle.bag_path.specs.declared.version.Version.{Version}
use Rattle.bag_tags.specs.declared.tag_feed.TagValue.{TagValue}
use Rattle.bag_tags.specs.declared.tag_feed.TagValue.TheVariants as value
use Rattle.bag_tags.specs.Feeds.{IsTextFor}
use Rattle.bag_rules.specs.ReadingInside.{fetch_in, info_in, IsReadOf, listings_now, manifest_in, PutsValue}
use Rattle.bag_rules.proofs.Words.{Fault, FetchLine, FetchList, FetchText, GivesListing, Has, Info, InfoText, LineFile, Listing, Manifest, ManifestName, ManifestText, MetadataElement, name_in, ReadsText, TagFault, TagTexts, ValueOf}
use Rattle.bag_rules.proofs.HasLemmas.{has_push}
use Rattle.bag_rules.proofs.LineFaults.{value_tells}

-- WHAT A VALUE SAYS

info_some : (v : Option TagValue) (elements : List MetadataElement) → (info_in v ≡ Some elements) ↔ (v ≡ Some (value.Info elements))
info_some None elements = (λ e. cc, λ e. cc)
info_some (Some (value.Info m)) elements = (λ e. (let k : m ≡ elements = cc in ap (λ es. Some (value.Info es)) k), λ e. (let k : m ≡ elements = cc in ap Some k))
info_some (Some (value.Fetch m)) elements = (λ e. cc, λ e. cc)
info_some (Some (value.Manifest m)) elements = (λ e. cc, λ e. cc)

fetch_some : (v : Option TagValue) (lines : List FetchLine) → (fetch_in v ≡ Some lines) ↔ (v ≡ Some (value.Fetch lines))
fetch_some None lines = (λ e. cc, λ e. cc)
fetch_some (Some (value.Info m)) lines = (λ e. cc, λ e. cc)
fetch_some (Some (value.Fetch m)) lines = (λ e. (let k : m ≡ lines = cc in ap (λ ls. Some (value.Fetch ls)) k), λ e. (let k : m ≡ lines = cc in ap Some k))
fetch_some (Some (value.Manifest m)) lines = (λ e. cc, λ e. cc)

manifest_some : (v : Option TagValue) (listing : Listing) → (manifest_in v ≡ Some listing) ↔ (v ≡ Some (value.Manifest listing))
manifest_some None listing = (λ e. cc, λ e. cc)
manifest_some (Some (value.Info m)) listing = (λ e. cc, λ e. cc)
manifest_some (Some (value.Fetch m)) listing = (λ e. cc, λ e. cc)
manifest_some (Some (value.Manifest m)) listing = (λ e. (let k : m ≡ listing = cc in ap (λ l. Some (value.Manifest l)) k), λ e. (let k : m ≡ listing = cc in ap Some k))

-- the text of a manifest gives the listing that has its name
gives : (version : Version) (name : ManifestName) (octets : List ℕ) (listing : Listing) → IsTextFor version (Manifest name) octets (value.Manifest listing) ↔ GivesListing version name octets listing
gives version name octets listing = (
  λ t.
      let same : name_in listing ≡ name = ap (λ k. (let n : ManifestName = record { kind = k; alg = listing.alg } in n)) t.1 ∙ ap (λ a. (let n : ManifestName = record { kind = name.kind; alg = a } in n)) t.0 in
      (same, subst (λ (n : ManifestName). text n) (sym same) t.2),
  λ g. (ap (λ (n : ManifestName). n.alg) g.0, ap (λ (n : ManifestName). n.kind) g.0, subst (λ (n : ManifestName). text n) g.0 g.1),
)
  where
    text : ManifestName → Type 0
    text n = ManifestText version n.alg n.kind octets listing.pairs

-- THE TEXTS

pub through : {P Q R : Type 0} → P ↔ Q → Q ↔ R → P ↔ R
through a b = (λ p. b.0 (a.0 p), λ r. a.1 (b.1 r))

listings_told : (found : Option Listing) (says : Listing → Type 0) → ((x : Listing) → (found ≡ Some x) ↔ says x) → (listings : List Listing) (x : Listing) → Has (listings_now found listings) x ↔ (Has listings x ⊎ says x)
listings_told (Some listing) says told listings x =
    let push = has_push listings listing x in (
      λ h. elim (push.0 h) [ inl k ↦ inl k | inr e ↦ inr ((told x).0 (ap Some e)) ],
      λ h. elim h [ inl k ↦ push.1 (inl k) | inr g ↦ push.1 (inr (let e = (told x).1 g in cc)) ],
    )
listings_told None says told listings x = (λ h. inl h, λ h. elim h [ inl k ↦ k | inr g ↦ absurd (let e = (told x).1 g in cc) ])

pub text_read : (version : Version) (file : LineFile) (octets : List ℕ) (read : Result TagValue TagFault) (before after : List Fault) (v : Option TagValue) (old new : TagTexts) → IsReadOf version file octets read → ValueOf read file before after v → PutsValue file v old new → ReadsText version file octets old new
text_read version Info octets read before after v old new reads of puts = (
  λ elements. subst (λ i. (i ≡ Some elements) ↔ InfoText version octets elements) (sym puts.0) (through (info_some v elements) (value_tells version Info octets read reads before after v of (value.Info elements))),
  puts.1,
  puts.2,
)
text_read version FetchList octets read before after v old new reads of puts = (
  λ lines. subst (λ i. (i ≡ Some lines) ↔ FetchText version octets lines) (sym puts.0) (through (fetch_some v lines) (value_tells version FetchList octets read reads before after v of (value.Fetch lines))),
  puts.1,
  puts.2,
)
text_read version (Manifest name) octets read before after v old new reads of puts = (
  λ listing. subst (λ items. Has items listing ↔ (Has old.manifests.items listing ⊎ GivesListing version name octets listing)) (sym puts.0) (listings_told (manifest_in v) (GivesListing version name octets)
      (λ x. through (through (manifest_some v x) (value_tells version (Manifest name) octets read reads before after v of (value.Manifest x))) (gives version name octets x))
      old.manifests.items listing),
  puts.1,
  puts.2,
)
