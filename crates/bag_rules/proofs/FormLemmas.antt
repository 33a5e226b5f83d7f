-- What a file or an element adds to the faults of the form.
use Rattle.std.proofs.Common.{◌≡◌, ◌≢◌, ◌↔◌, ◌≤◌, ℕ, true, false, List, [], ◌∷◌, ◌++◌, Option, Some, None, Contains, is_some, length, refl, sym, ap, ◌∙◌, inl, inr, subst}
use Rattle.bag_rules.proofs.Words.{Adds, Alg, AreTextsOf, Bag, Digest, Fault, filter, Has, HasFaultOf, is_oxum, IsBadOxum, IsOxumFault, IsThere, IsUnlistedBy, IsUnlistedManifest, listed_digest, Listing, Lists, lists_path, manifest_file, manifest_name, ManifestNotListed, MetadataElement, NoManifest, NoPayloadDir, OxumForm, OxumTwice, Payload, same_Some, SaysOxum, Tag, TagTexts}
use Rattle.bag_rules.proofs.AddsLemmas.{adds_so, adds_none, adds_one, adds_on, adds_same}
use Rattle.bag_rules.specs.FilesInside.{OfSome}
use Rattle.bag_rules.proofs.FrontLemmas.{info_said, manifest_listed}
use Rattle.bag_rules.proofs.ListedLemmas.{listed_or_not}
use Rattle.bag_rules.proofs.HasLemmas.{contains_from_has, has_from_contains}

-- a tag manifest doesn't list the payload manifest that has this path
abbrev pub IsNotListedIn : List ℕ → Alg → Listing → Fault → Type 0
IsNotListedIn path alg listing fault = (listing.kind ≡ Tag) × (lists_path listing.pairs path ≡ false) × (fault ≡ ManifestNotListed listing.alg alg)

pub no_tag_manifest : (path : List ℕ) (alg : Alg) (listing : Listing) (old new : List Fault) → listing.kind ≢ Tag → new ≡ old → Adds old new (IsNotListedIn path alg listing)
no_tag_manifest path alg listing old new other same = adds_same old new (IsNotListedIn path alg listing) same (λ f h. other h.0)

pub listed_in : (path : List ℕ) (alg : Alg) (listing : Listing) (o : Option Digest) (old new : List Fault) → listed_digest listing.pairs path ≡ o → is_some o ≡ true → new ≡ old → Adds old new (IsNotListedIn path alg listing)
listed_in path alg listing o old new e some same = adds_same old new (IsNotListedIn path alg listing) same
    (λ f h. let k : true ≡ false = sym some ∙ sym (listed_or_not listing.pairs path o e) ∙ h.1 in cc)

pub not_listed_in : (path : List ℕ) (alg : Alg) (listing : Listing) (o : Option Digest) (old new : List Fault) → listing.kind ≡ Tag → listed_digest listing.pairs path ≡ o → is_some o ≡ false → new ≡ old ++ ManifestNotListed listing.alg alg ∷ [] → Adds old new (IsNotListedIn path alg listing)
not_listed_in path alg listing o old new tag e none more = adds_one old new (ManifestNotListed listing.alg alg) (IsNotListedIn path alg listing) more
    (tag, listed_or_not listing.pairs path o e ∙ none, refl) (λ f h. sym h.2)

-- the tag manifests that don't list a payload manifest, and none for another file
pub unlisted_by_some : (path : List ℕ) (alg : Alg) (listings : List Listing) (old new : List Fault) → path ≡ manifest_file Payload alg → ((other : Alg) → path ≡ manifest_file Payload other → alg ≡ other)
    → Adds old new (OfSome listings (IsNotListedIn path alg)) → Adds old new (IsUnlistedBy listings path)
unlisted_by_some path alg listings old new named only a = adds_so old new (OfSome listings (IsNotListedIn path alg)) (IsUnlistedBy listings path)
    (λ f h. (alg, (h.0, named, h.1, h.2.0, h.2.1, h.2.2)))
    (λ f h. (h.1.0, h.1.2, (h.1.3, h.1.4, h.1.5 ∙ ap (λ a. ManifestNotListed h.1.0.alg a) (sym (only h.0 h.1.1)))))
    a

pub unlisted_by_none : (path : List ℕ) (listings : List Listing) (faults : List Fault) → ((alg : Alg) → path ≢ manifest_file Payload alg) → Adds faults faults (IsUnlistedBy listings path)
unlisted_by_none path listings faults other = adds_none faults (IsUnlistedBy listings path) (λ f h. other h.0 h.1.1)

-- the payload directory
module _ (bag : Bag) where
  dir_kind : (f : Fault) → HasFaultOf bag (3 ∷ []) f → (NoPayloadDir ≡ f) × (bag.has_payload_dir ≡ false)
  dir_kind NoPayloadDir h = (refl, h.0)
  dir_kind _ h = absurd (let k : false ≡ true = h.1 in cc)

  pub dir_there : (old new : List Fault) → bag.has_payload_dir ≡ true → new ≡ old → Adds old new (HasFaultOf bag (3 ∷ []))
  dir_there old new there same = adds_same old new (HasFaultOf bag (3 ∷ [])) same (λ f h. let k : true ≡ false = sym there ∙ (dir_kind f h).1 in cc)

  pub dir_away : (old new : List Fault) → bag.has_payload_dir ≡ false → new ≡ old ++ NoPayloadDir ∷ [] → Adds old new (HasFaultOf bag (3 ∷ []))
  dir_away old new away more = adds_one old new NoPayloadDir (HasFaultOf bag (3 ∷ [])) more (away, refl) (λ f h. (dir_kind f h).0)

  -- some payload manifest
  manifest_kind : (f : Fault) → HasFaultOf bag (4 ∷ []) f → (NoManifest ≡ f) × ((alg : Alg) → ¬ IsThere bag (manifest_file Payload alg))
  manifest_kind NoManifest h = (refl, h.0)
  manifest_kind _ h = absurd (let k : false ≡ true = h.1 in cc)

  pub manifest_there : (old new : List Fault) (alg : Alg) → IsThere bag (manifest_file Payload alg) → new ≡ old → Adds old new (HasFaultOf bag (4 ∷ []))
  manifest_there old new alg there same = adds_same old new (HasFaultOf bag (4 ∷ [])) same (λ f h. (manifest_kind f h).1 alg there)

  pub manifest_away : (old new : List Fault) → ((alg : Alg) → ¬ IsThere bag (manifest_file Payload alg)) → new ≡ old ++ NoManifest ∷ [] → Adds old new (HasFaultOf bag (4 ∷ []))
  manifest_away old new away more = adds_one old new NoManifest (HasFaultOf bag (4 ∷ [])) more (away, refl) (λ f h. (manifest_kind f h).0)

module _ (bag : Bag) (texts : TagTexts) (are : AreTextsOf (length bag.files) bag texts) where
  -- payload manifests that a tag manifest doesn't list
  unlisted_there : (paths : List (List ℕ)) → ((path : List ℕ) → Contains paths path → IsThere bag path) → (f : Fault) → IsUnlistedManifest paths texts.manifests.items f → HasFaultOf bag (6 ∷ []) f
  unlisted_there paths there f (path, has, (alg, (listing, named, held, tag, unlisted, is))) =
      let lists = subst (λ k. Lists bag (manifest_name k listing.alg) listing.pairs) tag ((manifest_listed bag texts are listing).0 held) in
      subst (λ g. HasFaultOf bag (6 ∷ []) g) (sym is) ((listing.pairs, lists, subst (λ p. IsThere bag p) named (there path (contains_from_has paths path has)), subst (λ p. lists_path listing.pairs p ≡ false) named unlisted), refl)

  unlisted_back : (paths : List (List ℕ)) → ((path : List ℕ) → IsThere bag path → Contains paths path) → (f : Fault) → HasFaultOf bag (6 ∷ []) f → IsUnlistedManifest paths texts.manifests.items f
  unlisted_back paths shown (ManifestNotListed tag_manifest manifest) h =
      let listing : Listing = record { alg = tag_manifest; kind = Tag; pairs = h.0.0 } in
      let path = manifest_file Payload manifest in
      (path, has_from_contains paths path (shown path h.0.2), (manifest, (listing, refl, (manifest_listed bag texts are listing).1 h.0.1, refl, h.0.3, refl)))
  unlisted_back paths shown _ h = absurd (let k : false ≡ true = h.1 in cc)

  pub all_unlisted : (paths : List (List ℕ)) (old new : List Fault) → ((path : List ℕ) → Contains paths path ↔ IsThere bag path) → Adds old new (IsUnlistedManifest paths texts.manifests.items) → Adds old new (HasFaultOf bag (6 ∷ []))
  all_unlisted paths old new same a = adds_so old new (IsUnlistedManifest paths texts.manifests.items) (HasFaultOf bag (6 ∷ []))
      (unlisted_there paths (λ path. (same path).0)) (unlisted_back paths (λ path. (same path).1)) a

  -- `Payload-Oxum`
  pub no_oxum : (element : MetadataElement) → texts.info ≡ None → SaysOxum bag element → ⊥
  no_oxum element none h = let k : None ≡ Some h.elements = sym none ∙ (info_said bag texts are h.elements).1 h.says in cc

  pub oxum_in : (elements : List MetadataElement) (element : MetadataElement) → texts.info ≡ Some elements → SaysOxum bag element → Has elements element
  oxum_in elements element some h = subst (λ es. Has es element) (sym (same_Some elements h.elements (sym some ∙ (info_said bag texts are h.elements).1 h.says))) h.has

  pub oxum_of : (elements : List MetadataElement) (element : MetadataElement) → texts.info ≡ Some elements → Has elements element → is_oxum element ≡ true → SaysOxum bag element
  oxum_of elements element some has is = record { elements = elements; says = (info_said bag texts are elements).0 some; has = has; is_oxum = is }

  oxum_none : (f : Fault) → texts.info ≡ None → HasFaultOf bag (7 ∷ 8 ∷ []) f → ⊥
  oxum_none OxumForm none h = no_oxum h.0.0 none h.0.1
  oxum_none OxumTwice none h = let k : None ≡ Some h.0.0 = sym none ∙ (info_said bag texts are h.0.0).1 h.0.1 in cc
  oxum_none _ none h = absurd (let k : false ≡ true = h.1 in cc)

  pub no_oxum_fault : (faults : List Fault) → texts.info ≡ None → Adds faults faults (HasFaultOf bag (7 ∷ 8 ∷ []))
  no_oxum_fault faults none = adds_none faults (HasFaultOf bag (7 ∷ 8 ∷ [])) (λ f h. oxum_none f none h)

  oxum_there : (elements : List MetadataElement) → texts.info ≡ Some elements → (f : Fault) → IsOxumFault elements f → HasFaultOf bag (7 ∷ 8 ∷ []) f
  oxum_there elements some f (inl h) = subst (λ g. HasFaultOf bag (7 ∷ 8 ∷ []) g) (sym h.3) ((h.0, oxum_of elements h.0 some h.1 h.2.0, h.2.1), refl)
  oxum_there elements some f (inr h) = subst (λ g. HasFaultOf bag (7 ∷ 8 ∷ []) g) (sym h.1) ((elements, (info_said bag texts are elements).0 some, h.0), refl)

  oxum_back : (elements : List MetadataElement) → texts.info ≡ Some elements → (f : Fault) → HasFaultOf bag (7 ∷ 8 ∷ []) f → IsOxumFault elements f
  oxum_back elements some OxumForm h = inl (h.0.0, oxum_in elements h.0.0 some h.0.1, (h.0.1.is_oxum, h.0.2), refl)
  oxum_back elements some OxumTwice h =
      let same : elements ≡ h.0.0 = same_Some elements h.0.0 (sym some ∙ (info_said bag texts are h.0.0).1 h.0.1) in
      inr (subst (λ (es : List MetadataElement). 2 ≤ length (filter is_oxum es)) (sym same) h.0.2, refl)
  oxum_back elements some _ h = absurd (let k : false ≡ true = h.1 in cc)

  pub all_oxum : (elements : List MetadataElement) (old new : List Fault) → texts.info ≡ Some elements → Adds old new (IsOxumFault elements) → Adds old new (HasFaultOf bag (7 ∷ 8 ∷ []))
  all_oxum elements old new some a = adds_so old new (IsOxumFault elements) (HasFaultOf bag (7 ∷ 8 ∷ [])) (oxum_there elements some) (oxum_back elements some) a

-- one that can't be read, and then a second one
abbrev pub IsFormFault : List MetadataElement → Fault → Type 0
IsFormFault elements fault = (element : MetadataElement) × Has elements element × IsBadOxum element × (fault ≡ OxumForm)

abbrev pub IsTwiceFault : List MetadataElement → Fault → Type 0
IsTwiceFault elements fault = (2 ≤ length (filter is_oxum elements)) × (fault ≡ OxumTwice)

pub form_then_twice : (elements : List MetadataElement) (old mid new : List Fault) → Adds old mid (IsFormFault elements) → Adds mid new (IsTwiceFault elements) → Adds old new (IsOxumFault elements)
form_then_twice elements old mid new a b = adds_on old mid new (IsFormFault elements) (IsTwiceFault elements) (IsOxumFault elements) (λ f h. h) (λ f h. inl h) (λ f h. inr h) a b
