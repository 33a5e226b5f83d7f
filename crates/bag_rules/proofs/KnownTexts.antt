-- What is known of the tag files that are read line by line, with one file more.
use Rattle.std.proofs.Common.{◌≡◌, ◌≢◌, ◌⊎◌, ◌+◌, ◌<◌, ◌∙◌, ℕ, false, List, Option, Some, None, ap, arith, inl, inr, refl, slice_get, subst, sym}
use Rattle.bag_path.specs.declared.version.Version.{Version}
use Rattle.bag_rules.specs.declared.tag_sums.TagSums.{TagSums}
use Rattle.bag_rules.specs.OctetsRead.{Extends, IsKeptAt, IsText, KeepsGiven, KeepsOnly, KnownOctets, KnowsFrom}
use Rattle.bag_rules.proofs.AddsLemmas.{adds_so}
use Rattle.bag_rules.proofs.OctetsLemmas.{kept_cases, know_more, tell, tell_here}
use Rattle.bag_rules.proofs.Words.{Adds, declaration_file, differ_at, Fault, FetchList, Info, is_payload, IsBadLineOf, IsFirstBadLine, LineFile, Manifest, one_file, paths_in, Payload, ReadsOn, ReadsText, same_Some, Shown, Tag, TagTexts, text_file}

-- the declaration isn't read line by line, and no such file is a payload file
not_declaration : (file : LineFile) → declaration_file ≢ text_file file
not_declaration Info = differ_at 3 declaration_file (text_file Info) refl
not_declaration FetchList = differ_at 0 declaration_file (text_file FetchList) refl
not_declaration (Manifest name) = elim name.kind as (λ kind. declaration_file ≢ text_file (Manifest (record name { kind = kind }))) [
  | Payload ↦ differ_at 0 declaration_file (text_file (Manifest (record name { kind = Payload }))) refl
  | Tag ↦ differ_at 0 declaration_file (text_file (Manifest (record name { kind = Tag }))) refl
]

pub text_is_tag : (file : LineFile) → is_payload (text_file file) ≡ false
text_is_tag Info = refl
text_is_tag FetchList = refl
text_is_tag (Manifest name) = elim name.kind as (λ kind. is_payload (text_file (Manifest (record name { kind = kind }))) ≡ false) [ Payload ↦ refl | Tag ↦ refl ]

-- what is kept is of the declaration or of a file before this place
abbrev pub AreKeptBefore : ℕ → Shown → TagSums → Type 0
AreKeptBefore n shown kept = (place : ℕ) (path : List ℕ) → IsKeptAt kept place → slice_get (paths_in shown) place ≡ Some path → (path ≡ declaration_file) ⊎ ((place < n) × IsText path)

pub only_tags : (n : ℕ) (shown : Shown) (kept : TagSums) → AreKeptBefore n shown kept → KeepsOnly shown kept (λ path. is_payload path ≡ false)
only_tags n shown kept before place path is at = elim (before place path is at) [
  | inl declared ↦ ap is_payload declared
  | inr text ↦ ap is_payload text.1.1 ∙ text_is_tag text.1.0
]

-- one file more, which was read or not
pub text_known : (shown : Shown) (i : ℕ) (path : List ℕ) (found : KnownOctets) (old new : TagSums) (given : Option (List ℕ)) → slice_get (paths_in shown) i ≡ Some path → KnowsFrom 0 shown old found → AreKeptBefore i shown old
    → KeepsGiven shown i old new given → (given ≢ None → IsText path)
    → (next : KnownOctets) × Extends found next × KnowsFrom 0 shown new next × AreKeptBefore (i + 1) shown new × (new.set ≡ old.set) × ((octets : List ℕ) → given ≡ Some octets → next i ≡ Some octets)
text_known shown i path found old new None at knows before same text = (
  found,
  λ j octets is. is,
  subst (λ kept. KnowsFrom 0 shown kept found) (sym same) knows,
  λ place other is there. elim (before place other (subst (λ kept. IsKeptAt kept place) same is) there) [ inl declared ↦ inl declared | inr text ↦ inr (omega (arith, text.0), text.1) ],
  ap (λ (kept : TagSums). kept.set) same,
  λ octets e. cc e,
)
text_known shown i path found old new (Some octets) at knows before given text =
    let is_text = text (λ e. cc e) in
    let unkept : ¬ IsKeptAt old i = λ is. (elim (before i path is at) [ inl declared ↦ not_declaration is_text.0 (sym declared ∙ is_text.1) | inr text ↦ (let below = text.0 in omega (arith, below)) ]) in
    let adds = given.2.2 in
    let more = know_more old new i given.2.0 adds 0 octets knows (omega arith) unkept given.0 given.1 given.2.1 in (
      tell found i octets,
      more.0,
      more.1,
      λ place other is there. elim (kept_cases old new i given.2.0 adds place is) [
        | inl was ↦ elim (before place other was there) [ inl declared ↦ inl declared | inr text ↦ inr (omega (arith, text.0), text.1) ]
        | inr same ↦ (
            let here : path ≡ other = same_Some path other (sym at ∙ ap (slice_get (paths_in shown)) (sym same) ∙ there) in
            inr (omega (arith, same), subst IsText here is_text))
      ],
      adds.set,
      λ own e. tell_here found i octets ∙ e,
    )

-- the text of a file that is read adds what it says, or its first faulty line
pub text_on : (version : Version) (file : LineFile) (path octets : List ℕ) (old new : TagTexts) (before after : List Fault) → path ≡ text_file file → ReadsText version file octets old new → Adds before after (IsFirstBadLine version file octets)
    → ReadsOn version path octets old new × Adds before after (IsBadLineOf version path octets)
text_on version file path octets old new before after named reads bad = (
  record {
    reads = λ other named_so. subst (λ f. ReadsText version f octets old new) (one_file path file other named named_so) reads;
    leaves = λ none. absurd (none file named);
  },
  adds_so before after (IsFirstBadLine version file octets) (IsBadLineOf version path octets)
      (λ f is. (file, named, is))
      (λ f is. subst (λ name. IsFirstBadLine version name octets f) (one_file path is.0 file is.1 named) is.2)
      bad,
)
