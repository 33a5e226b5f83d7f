-- What the tag files say, with one more file.
use Rattle.std.proofs.Common.{◌≡◌, ◌≢◌, ◌⊎◌, ◌↔◌, ◌+◌, ℕ, true, false, List, [], ◌∷◌, Some, length, slice_get, refl, sym, ap, ◌∙◌, inl, inr, subst}
use Rattle.bag_path.specs.declared.version.Version.{Version}
use Rattle.bag_rules.proofs.Words.{Adds, AreTextsOf, BadLine, Bag, Fault, FetchLine, FetchList, FetchText, front, GivesListing, Has, HasBadLine, HasFaultOf, HoldsFile, Info, InfoText, IsBadLineOf, IsFirstBadLine, LineFile, Listing, Manifest, ManifestName, ManifestText, MetadataElement, name_in, one_file, ReadsOn, ReadsText, text_file, text_or_not, TagTexts}
use Rattle.bag_rules.specs.Bags.{ListsBy, ListsFetchBy, SaysInfoBy, version_of}
use Rattle.bag_rules.proofs.AddsLemmas.{adds_on}
use Rattle.bag_rules.proofs.FrontLemmas.{whole_front}
use Rattle.bag_rules.proofs.FirstFiles.{Says, says_more, says_here, says_split, value_stays, value_given}
use Rattle.bag_rules.proofs.TextsRead.{through}

-- the three kinds of tag files, each in the same way
abbrev InfoSays : Version → List MetadataElement → List ℕ → Type 0
InfoSays version elements octets = InfoText version octets elements

abbrev FetchSays : Version → List FetchLine → List ℕ → Type 0
FetchSays version lines octets = FetchText version octets lines

abbrev ListingSays : Version → Listing → List ℕ → Type 0
ListingSays version listing octets = ManifestText version listing.alg listing.kind octets listing.pairs

info_as : (version : Version) (bag : Bag) (elements : List MetadataElement) → SaysInfoBy version bag elements ↔ Says bag Info (InfoSays version elements)
info_as version bag elements = (λ s. (s.octets, s.there, s.text), λ s. record { octets = s.0; there = s.1; text = s.2 })

fetch_as : (version : Version) (bag : Bag) (lines : List FetchLine) → ListsFetchBy version bag lines ↔ Says bag FetchList (FetchSays version lines)
fetch_as version bag lines = (λ s. (s.octets, s.there, s.text), λ s. record { octets = s.0; there = s.1; text = s.2 })

listing_as : (version : Version) (bag : Bag) (listing : Listing) → ListsBy version bag (name_in listing) listing.pairs ↔ Says bag (Manifest (name_in listing)) (ListingSays version listing)
listing_as version bag listing = (λ s. (s.octets, s.there, s.text), λ s. record { octets = s.0; there = s.1; text = s.2 })

back : {A B : Type 0} → A ↔ B → B ↔ A
back f = (f.1, f.0)

-- all faulty lines of the bag
pub all_bad_lines : (bag : Bag) (f : Fault) → HasBadLine (length bag.files) bag f ↔ HasFaultOf bag (5 ∷ []) f
all_bad_lines bag f = (
  λ h. subst (λ fault. HasFaultOf bag (5 ∷ []) fault) (sym h.bad.1.2) ((h.octets, subst (λ (b : Bag). HoldsFile b (text_file h.file) h.octets) (whole_front bag) h.there, h.bad.1.1), refl),
  bad_line_in f,
)
  where
    bad_line_in : (f : Fault) → HasFaultOf bag (5 ∷ []) f → HasBadLine (length bag.files) bag f
    bad_line_in (BadLine file line cause) h = record { file = file; octets = h.0.0; there = subst (λ (b : Bag). HoldsFile b (text_file file) h.0.0) (sym (whole_front bag)) h.0.1; bad = (line, (cause, h.0.2, refl)) }
    bad_line_in _ h = absurd (let k : false ≡ true = h.1 in cc)

-- one more file, whose path no file before it has
module _ (bag : Bag) (n : ℕ) (path octets : List ℕ) (there : slice_get bag.files n ≡ Some (path, octets)) (once : (i : ℕ) (other : List ℕ) → slice_get bag.files i ≡ Some (path, other) → i ≡ n) where
  bad_of : (k : ℕ) (f : Fault) (file : LineFile) → Says (front k bag) file (λ o. IsFirstBadLine (version_of bag) file o f) → HasBadLine k bag f
  bad_of k f file says = record { file = file; octets = says.0; there = says.1; bad = says.2 }

  pub faults_more : (old mid new : List Fault) → Adds old mid (HasBadLine n bag) → Adds mid new (IsBadLineOf (version_of bag) path octets) → Adds old new (HasBadLine (n + 1) bag)
  faults_more old mid new = adds_on old mid new (HasBadLine n bag) (IsBadLineOf (version_of bag) path octets) (HasBadLine (n + 1) bag)
      (λ f r. elim (says_split bag n path octets there once r.file (λ o. IsFirstBadLine (version_of bag) r.file o f) (r.octets, r.there, r.bad)) [
        | inl h ↦ inl (bad_of n f r.file h)
        | inr h ↦ inr (r.file, h.0, h.1)
      ])
      (λ f r. bad_of (n + 1) f r.file (says_more bag n path octets there once r.file (λ o. IsFirstBadLine (version_of bag) r.file o f) (r.octets, r.there, r.bad)))
      (λ f r. bad_of (n + 1) f r.0 (says_here bag n path octets there once r.0 (λ o. IsFirstBadLine (version_of bag) r.0 o f) r.1 r.2))

  module _ (old new : TagTexts) (are : AreTextsOf n bag old) where
    info_kept : path ≢ text_file Info → new.info ≡ old.info → (elements : List MetadataElement) → (new.info ≡ Some elements) ↔ SaysInfoBy (version_of bag) (front (n + 1) bag) elements
    info_kept other same elements = through
        (value_stays bag n path octets there once Info (InfoSays (version_of bag)) old.info new.info other same (λ e. through (are.info e) (info_as (version_of bag) (front n bag) e)) elements)
        (back (info_as (version_of bag) (front (n + 1) bag) elements))

    info_put : path ≡ text_file Info → ((elements : List MetadataElement) → (new.info ≡ Some elements) ↔ InfoText (version_of bag) octets elements) → (elements : List MetadataElement) → (new.info ≡ Some elements) ↔ SaysInfoBy (version_of bag) (front (n + 1) bag) elements
    info_put is tells elements = through (value_given bag n path octets there once Info (InfoSays (version_of bag)) new.info is tells elements) (back (info_as (version_of bag) (front (n + 1) bag) elements))

    fetch_kept : path ≢ text_file FetchList → new.fetch ≡ old.fetch → (lines : List FetchLine) → (new.fetch ≡ Some lines) ↔ ListsFetchBy (version_of bag) (front (n + 1) bag) lines
    fetch_kept other same lines = through
        (value_stays bag n path octets there once FetchList (FetchSays (version_of bag)) old.fetch new.fetch other same (λ e. through (are.fetch e) (fetch_as (version_of bag) (front n bag) e)) lines)
        (back (fetch_as (version_of bag) (front (n + 1) bag) lines))

    fetch_put : path ≡ text_file FetchList → ((lines : List FetchLine) → (new.fetch ≡ Some lines) ↔ FetchText (version_of bag) octets lines) → (lines : List FetchLine) → (new.fetch ≡ Some lines) ↔ ListsFetchBy (version_of bag) (front (n + 1) bag) lines
    fetch_put is tells lines = through (value_given bag n path octets there once FetchList (FetchSays (version_of bag)) new.fetch is tells lines) (back (fetch_as (version_of bag) (front (n + 1) bag) lines))

    listing_stays : (listing : Listing) → Has old.manifests.items listing → ListsBy (version_of bag) (front (n + 1) bag) (name_in listing) listing.pairs
    listing_stays listing has = (listing_as (version_of bag) (front (n + 1) bag) listing).1 (says_more bag n path octets there once (Manifest (name_in listing)) (ListingSays (version_of bag) listing) ((listing_as (version_of bag) (front n bag) listing).0 ((are.manifests listing).0 has)))

    listing_split : (listing : Listing) → ListsBy (version_of bag) (front (n + 1) bag) (name_in listing) listing.pairs → Has old.manifests.items listing ⊎ ((path ≡ text_file (Manifest (name_in listing))) × ListingSays (version_of bag) listing octets)
    listing_split listing lists = elim (says_split bag n path octets there once (Manifest (name_in listing)) (ListingSays (version_of bag) listing) ((listing_as (version_of bag) (front (n + 1) bag) listing).0 lists)) [
      | inl h ↦ inl ((are.manifests listing).1 ((listing_as (version_of bag) (front n bag) listing).1 h))
      | inr h ↦ inr h
    ]

    manifests_kept : ((name : ManifestName) → path ≢ text_file (Manifest name)) → new.manifests.items ≡ old.manifests.items → (listing : Listing) → Has new.manifests.items listing ↔ ListsBy (version_of bag) (front (n + 1) bag) (name_in listing) listing.pairs
    manifests_kept other same listing = (
      λ h. listing_stays listing (subst (λ items. Has items listing) same h),
      λ lists. subst (λ items. Has items listing) (sym same) (elim (listing_split listing lists) [ inl h ↦ h | inr h ↦ absurd (other (name_in listing) h.0) ]),
    )

    manifests_put : (name : ManifestName) → path ≡ text_file (Manifest name) → ((listing : Listing) → Has new.manifests.items listing ↔ (Has old.manifests.items listing ⊎ GivesListing (version_of bag) name octets listing)) → (listing : Listing) → Has new.manifests.items listing ↔ ListsBy (version_of bag) (front (n + 1) bag) (name_in listing) listing.pairs
    manifests_put name is tells listing = (
      λ h. elim ((tells listing).0 h) [
        | inl k ↦ listing_stays listing k
        | inr g ↦ (listing_as (version_of bag) (front (n + 1) bag) listing).1 (says_here bag n path octets there once (Manifest (name_in listing)) (ListingSays (version_of bag) listing) (is ∙ ap (λ m. text_file (Manifest m)) (sym g.0)) g.1)
      ],
      λ lists. (tells listing).1 (elim (listing_split listing lists) [
        | inl k ↦ inl k
        | inr h ↦ inr (same_name name (name_in listing) (one_file path (Manifest (name_in listing)) (Manifest name) h.0 is), h.1)
      ]),
    )
      where
        same_name : (a b : ManifestName) → Manifest b ≡ Manifest a → b ≡ a
        same_name a b e = cc

    texts_by : (file : LineFile) → path ≡ text_file file → ReadsText (version_of bag) file octets old new → AreTextsOf (n + 1) bag new
    texts_by Info is r = record {
      info = info_put is r.0;
      fetch = fetch_kept (λ e. let k : Info ≡ FetchList = one_file path Info FetchList is e in cc) r.1;
      manifests = manifests_kept (λ name e. let k : Info ≡ Manifest name = one_file path Info (Manifest name) is e in cc) r.2;
    }
    texts_by FetchList is r = record {
      info = info_kept (λ e. let k : FetchList ≡ Info = one_file path FetchList Info is e in cc) r.1;
      fetch = fetch_put is r.0;
      manifests = manifests_kept (λ name e. let k : FetchList ≡ Manifest name = one_file path FetchList (Manifest name) is e in cc) r.2;
    }
    texts_by (Manifest name) is r = record {
      info = info_kept (λ e. let k : Manifest name ≡ Info = one_file path (Manifest name) Info is e in cc) r.1;
      fetch = fetch_kept (λ e. let k : Manifest name ≡ FetchList = one_file path (Manifest name) FetchList is e in cc) r.2;
      manifests = manifests_put name is r.0;
    }

    pub texts_more : ReadsOn (version_of bag) path octets old new → AreTextsOf (n + 1) bag new
    texts_more reads = elim (text_or_not path) [
      | inl f ↦ texts_by f.0 f.1 (reads.reads f.0 f.1)
      | inr none ↦ (let r = reads.leaves none in record {
        info = info_kept (none Info) r.0;
        fetch = fetch_kept (none FetchList) r.1;
        manifests = manifests_kept (λ name. none (Manifest name)) r.2;
      })
    ]
