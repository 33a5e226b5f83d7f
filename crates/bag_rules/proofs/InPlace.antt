-- What is listed is a path in its place: payload files in payload manifests and in `fetch.txt`, and others in tag
-- manifests.
use Rattle.std.proofs.Common.{◌≡◌, ◌||◌, ◌∙◌, ℕ, true, false, List, [], ◌∷◌, sym, subst, inl, inr}
use Rattle.bag_path.specs.Paths.{IsPath}
use Rattle.bag_path.specs.declared.version.Version.{Version}
use Rattle.bag_tags.specs.FetchText.{AddsEntry}
use Rattle.bag_tags.specs.Listings.{IsInPlace}
use Rattle.bag_tags.specs.TagLines.{Lead, LeadsOn, tag_lines, TagLine}
use Rattle.bag_rules.specs.Bags.{version_of}
use Rattle.bag_rules.specs.Transfers.{IsExpected}
use Rattle.bag_rules.proofs.Words.{AddsPair, Bag, bytes_eq, bytes_eq-Decides, false≢true, FetchLine, Files, Has, HasEntry, is_payload, list_any-append, Listing, Lists, lists_path, ManifestName, nothing_listed, or_cases, Pair, with_pair}
use Rattle.bag_rules.proofs.HasLemmas.{has_push}

-- what each line keeps holds after all lines
all_lines : {A : Type 0} (leads : A → ℕ → List ℕ → A → Type 0) (P : A → Type 0) → ((before : A) (number : ℕ) (text : List ℕ) (after : A) → leads before number text after → P before → P after) → (lines : List TagLine) (before after : A) → Lead (LeadsOn leads) before lines after → P before → P after
all_lines leads P keeps [] before after same p = subst P (sym same) p
all_lines leads P keeps (line ∷ lines) before after (next, step, rest) p = all_lines leads P keeps lines next after rest (elim step [
  | inl blank ↦ subst P (sym blank.1) p
  | inr on ↦ keeps before line.number line.text next on.2 p
])

-- MANIFESTS

-- each listed path is such
abbrev AreListed : (List ℕ → Type 0) → Listing → Type 0
AreListed such listing = (path : List ℕ) → lists_path listing.pairs path ≡ true → such path

abbrev AreInPlace : Listing → Type 0
AreInPlace listing = AreListed (IsInPlace listing.kind) listing

-- one more pair
listed_push : (such : List ℕ → Type 0) (listing : Listing) (new : Pair) → AreListed such listing → such new.path → AreListed such (with_pair listing new)
listed_push such listing new before here path listed = elim (or_cases (lists_path listing.pairs path) (bytes_eq new.path path || false) (sym (list_any-append (λ (pair : Pair). bytes_eq pair.path path) listing.pairs (new ∷ [])) ∙ listed)) [
  | inl earlier ↦ before path earlier
  | inr this ↦ elim (or_cases (bytes_eq new.path path) false this) [
    | inl same ↦ subst such ((bytes_eq-Decides new.path path).0 same) here
    | inr none ↦ absurd (false≢true none)
  ]
]

pair_kept : (version : Version) (before : Listing) (number : ℕ) (text : List ℕ) (after : Listing) → AddsPair version before number text after → AreInPlace before → AreInPlace after
pair_kept version before number text after adds are = subst AreInPlace (sym adds.added) (listed_push (IsInPlace before.kind) before _ are adds.admitted.in_place)

path_kept : (version : Version) (before : Listing) (number : ℕ) (text : List ℕ) (after : Listing) → AddsPair version before number text after → AreListed IsPath before → AreListed IsPath after
path_kept version before number text after adds are = subst (AreListed IsPath) (sym adds.added) (listed_push IsPath before _ are adds.gives.is_path)

module _ (bag : Bag) (name : ManifestName) (pairs : List Pair) (path : List ℕ) (lists : Lists bag name pairs) where
  abbrev all_pairs : Listing
  all_pairs = record { alg = name.alg; kind = name.kind; pairs = pairs }

  pub listed_in_place : lists_path pairs path ≡ true → IsInPlace name.kind path
  listed_in_place =
      all_lines _ AreInPlace (pair_kept (version_of bag)) (tag_lines lists.text.lines) (nothing_listed name.alg name.kind) all_pairs lists.text.lead (λ other none. absurd (false≢true none)) path

  pub listed_path : lists_path pairs path ≡ true → IsPath path
  listed_path =
      all_lines _ (AreListed IsPath) (path_kept (version_of bag)) (tag_lines lists.text.lines) (nothing_listed name.alg name.kind) all_pairs lists.text.lead (λ other none. absurd (false≢true none)) path

pub expected_payload : (tags : Files) (path : List ℕ) → IsExpected tags path → is_payload path ≡ true
expected_payload tags path expected = listed_in_place _ _ expected.1.0 path expected.1.1 expected.1.2

pub expected_path : (tags : Files) (path : List ℕ) → IsExpected tags path → IsPath path
expected_path tags path expected = listed_path _ _ expected.1.0 path expected.1.1 expected.1.2

-- ENTRIES OF `fetch.txt`

abbrev AreOfPayload : List FetchLine → Type 0
AreOfPayload lines = (line : FetchLine) → Has lines line → is_payload line.entry.path ≡ true

entry_kept : (version : Version) (before : List FetchLine) (number : ℕ) (text : List ℕ) (after : List FetchLine) → AddsEntry version before number text after → AreOfPayload before → AreOfPayload after
entry_kept version before number text after adds each = subst AreOfPayload (sym adds.adds) (λ line has. elim ((has_push before _ line).0 has) [
  | inl earlier ↦ each line earlier
  | inr this ↦ subst (λ (l : FetchLine). is_payload l.entry.path ≡ true) this adds.payload
])

pub entry_payload : (bag : Bag) (line : FetchLine) → HasEntry bag line → is_payload line.entry.path ≡ true
entry_payload bag line entry = all_lines _ AreOfPayload (entry_kept _) _ _ _ entry.lists.text.lead (λ other has. absurd has) line entry.has
