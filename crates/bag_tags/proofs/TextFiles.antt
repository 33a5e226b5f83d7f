-- The tag files that are read line by line, by their paths.
use Rattle.std.proofs.Common.{◌≡◌, ◌≢◌, ◌⊎◌, ℕ, true, false, List, Option, Some, None, refl, sym, ap, ◌∙◌, inl, inr}
use Rattle.std.specs.Str.{bytes_eq}
use Rattle.std.proofs.lemmas.Bool.{cases_Bool}
use Rattle.std.proofs.lemmas.Slice.Eq.{bytes_eq-Decides}
use Rattle.bag_digest.specs.declared.algorithm.Alg.{Alg}
use Rattle.bag_digest.specs.declared.algorithm.Alg.TheVariants.{Md5, Sha1, Sha256, Sha512}
use Rattle.bag_tags.specs.declared.listing.Kind.{Kind}
use Rattle.bag_tags.specs.declared.listing.Kind.TheVariants.{Payload, Tag}
use Rattle.bag_tags.specs.declared.name.TagName.{TagName}
use Rattle.bag_tags.specs.declared.name.TagName.TheVariants as tag
use Rattle.bag_tags.specs.Names.{Names, known_manifest, text_file, manifest_file, manifest_name}
use Rattle.bag_tags.proofs.NameLemmas.{one_name}
use Rattle.bag_tags.specs.declared.name.LineFile.{LineFile}
use Rattle.bag_tags.specs.declared.name.ManifestName.{ManifestName}
use Rattle.bag_tags.specs.declared.name.LineFile.TheVariants.{Info, FetchList, Manifest}

abbrev manifest_named : Kind → Alg → TagName
manifest_named Payload alg = tag.PayloadManifest alg
manifest_named Tag alg = tag.TagManifest alg

abbrev no_manifest_name : Option ManifestName
no_manifest_name = None

-- what the path of one of these files names
abbrev named : LineFile → TagName
named Info = tag.Info
named FetchList = tag.FetchList
named (Manifest name) = manifest_named name.kind name.alg

abbrev file_named : TagName → LineFile
file_named tag.FetchList = FetchList
file_named (tag.PayloadManifest alg) = Manifest (manifest_name Payload alg)
file_named (tag.TagManifest alg) = Manifest (manifest_name Tag alg)
file_named _ = Info

manifest_back : (kind : Kind) (alg : Alg) → file_named (manifest_named kind alg) ≡ Manifest (manifest_name kind alg)
manifest_back Payload alg = refl
manifest_back Tag alg = refl

back : (file : LineFile) → file_named (named file) ≡ file
back Info = refl
back FetchList = refl
back (Manifest name) = manifest_back name.kind name.alg

names_manifest : (path : List ℕ) (kind : Kind) (alg : Alg) → path ≡ manifest_file kind alg → Names path (manifest_named kind alg)
names_manifest path Payload alg e = e
names_manifest path Tag alg e = e

names : (path : List ℕ) (file : LineFile) → path ≡ text_file file → Names path (named file)
names path Info e = e
names path FetchList e = e
names path (Manifest name) e = names_manifest path name.kind name.alg e

-- a path is that of at most one of these files
pub one_file : (path : List ℕ) (a b : LineFile) → path ≡ text_file a → path ≡ text_file b → a ≡ b
one_file path a b p q = sym (back a) ∙ ap file_named (one_name path (named a) (named b) (names path a p) (names path b q)) ∙ back b

known_named : (kind : Kind) (alg : Alg) → known_manifest (manifest_named kind alg) ≡ Some (manifest_name kind alg)
known_named Payload alg = refl
known_named Tag alg = refl

-- a path that names another thing is that of none of these files
pub no_file : (path : List ℕ) (name : TagName) → Names path name → name ≢ tag.Info → name ≢ tag.FetchList → known_manifest name ≡ None → (file : LineFile) → path ≢ text_file file
no_file path name h info fetch none Info e = info (one_name path name tag.Info h e)
no_file path name h info fetch none FetchList e = fetch (one_name path name tag.FetchList h e)
no_file path name h info fetch none (Manifest m) e =
    let same = one_name path name (named (Manifest m)) h (names path (Manifest m) e) in
    let k : Some m ≡ no_manifest_name = sym (known_named m.kind m.alg) ∙ sym (ap known_manifest same) ∙ none in cc

octets_same : (xs ys : List ℕ) → (xs ≡ ys) ⊎ (xs ≢ ys)
octets_same xs ys = elim (cases_Bool (bytes_eq xs ys)) [
  | inl e ↦ inl ((bytes_eq-Decides xs ys).0 e)
  | inr e ↦ inr (λ same. let b : true ≡ false = sym ((bytes_eq-Decides xs ys).1 same) ∙ e in cc)
]

pub each_alg : (P : Alg → Type 0) → P Md5 → P Sha1 → P Sha256 → P Sha512 → (alg : Alg) → P alg
each_alg P a b c d Md5 = a
each_alg P a b c d Sha1 = b
each_alg P a b c d Sha256 = c
each_alg P a b c d Sha512 = d

either_alg : (P : Alg → Type 0) → ((alg : Alg) → P alg ⊎ (P alg → ⊥)) → ((alg : Alg) × P alg) ⊎ ((alg : Alg) → P alg → ⊥)
either_alg P one = elim (one Md5) [
  | inl h ↦ inl (Md5, h)
  | inr a ↦ elim (one Sha1) [
    | inl h ↦ inl (Sha1, h)
    | inr b ↦ elim (one Sha256) [
      | inl h ↦ inl (Sha256, h)
      | inr c ↦ elim (one Sha512) [ inl h ↦ inl (Sha512, h) | inr d ↦ inr (each_alg (λ alg. P alg → ⊥) a b c d) ]
    ]
  ]
]

no_manifest : (path : List ℕ) → ((alg : Alg) → path ≢ manifest_file Payload alg) → ((alg : Alg) → path ≢ manifest_file Tag alg) → (kind : Kind) (alg : Alg) → path ≢ manifest_file kind alg
no_manifest path payload tag Payload alg = payload alg
no_manifest path payload tag Tag alg = tag alg

no_text : (path : List ℕ) → path ≢ text_file Info → path ≢ text_file FetchList → ((kind : Kind) (alg : Alg) → path ≢ manifest_file kind alg) → (file : LineFile) → path ≢ text_file file
no_text path info fetch manifest Info = info
no_text path info fetch manifest FetchList = fetch
no_text path info fetch manifest (Manifest name) = manifest name.kind name.alg

-- a path either is that of one of these files or isn't
pub text_or_not : (path : List ℕ) → ((file : LineFile) × (path ≡ text_file file)) ⊎ ((file : LineFile) → path ≢ text_file file)
text_or_not path = elim (octets_same path (text_file Info)) [
  | inl e ↦ inl (Info, e)
  | inr i ↦ elim (octets_same path (text_file FetchList)) [
    | inl e ↦ inl (FetchList, e)
    | inr f ↦ elim (either_alg (λ alg. path ≡ manifest_file Payload alg) (λ alg. octets_same path (manifest_file Payload alg))) [
      | inl h ↦ inl (Manifest (manifest_name Payload h.0), h.1)
      | inr p ↦ elim (either_alg (λ alg. path ≡ manifest_file Tag alg) (λ alg. octets_same path (manifest_file Tag alg))) [
        | inl h ↦ inl (Manifest (manifest_name Tag h.0), h.1)
        | inr t ↦ inr (no_text path i f (no_manifest path p t))
      ]
    ]
  ]
]
