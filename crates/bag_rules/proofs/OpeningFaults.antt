-- The faults of tag files, as they are found, are those that payload files can't mend.
use Rattle.std.proofs.Common.{◌≡◌, ◌≢◌, ◌↔◌, ◌==◌, ◌∙◌, ◌∷◌, ◌++◌, [], ℕ, true, false, List, length, refl, sym, subst, inl, inr, arith}
use Rattle.bag_path.specs.declared.version.Version.{Version}
use Rattle.bag_rules.specs.Bags.{version_of}
use Rattle.bag_rules.specs.Opening.{HasOpeningFault}
use Rattle.bag_rules.specs.OpeningInside.{AreReadBy, HasOpeningFaultOf, IsTagMissing, IsWrongFile}
use Rattle.bag_rules.specs.Transfers.{AreExpected, tag_bag}
use Rattle.bag_rules.proofs.Words.{Adds, AreTextsOf, BadDeclaration, BadLine, Fault, FetchLength, FetchNotListed, Files, Has, HasFaultOf, is_payload, IsFileUnlisted, IsUnlistedIn, Kind, kinds_of_files, kinds_of_form, list_any, ManifestNotListed, Missing, NoDeclaration, NoManifest, NoneBelow, NoPayloadDir, number_of, OfSome, OxumForm, OxumTwice, OxumWrong, paths_in, Payload, shown_of, Tag, TagTexts, Unlisted, WrongDigest}
use Rattle.bag_rules.proofs.AddsLemmas.{adds_kinds_by, adds_so}
use Rattle.bag_rules.proofs.FileKindLemmas.{has_of_lists, listing_by, lists_of_has, missing_broken}
use Rattle.bag_rules.proofs.HasLemmas.{contains_from_has, has_at, has_from_contains, place_of_has}
use Rattle.bag_rules.proofs.HeldBags.{plain_tag}
use Rattle.bag_rules.proofs.InPlace.{entry_payload, expected_payload}
use Rattle.bag_rules.proofs.TreeLemmas.{is_there}
use Rattle.bag_rules.proofs.UnlistedLemmas.{same_told}
use Rattle.bag_rules.proofs.VerdictLemmas.{declared_none}

-- FAULTS OF THE FORM

module _ (tags : Files) where
  pub form_there : (f : Fault) → HasFaultOf (tag_bag tags) kinds_of_form f → HasOpeningFaultOf tags kinds_of_form f
  form_there NoPayloadDir h = ((h.0, λ mended. mended), h.1)
  form_there NoManifest h = ((h.0, λ mended. mended), h.1)
  form_there (BadLine file line cause) h = ((h.0, λ mended. mended), h.1)
  form_there (ManifestNotListed tag_manifest manifest) h = ((h.0, λ mended. mended), h.1)
  form_there OxumForm h = ((h.0, λ mended. mended), h.1)
  form_there OxumTwice h = ((h.0, λ mended. mended), h.1)
  form_there _ h = absurd (let k : false ≡ true = h.1 in cc)

  pub form_back : (f : Fault) → HasOpeningFaultOf tags kinds_of_form f → HasFaultOf (tag_bag tags) kinds_of_form f
  form_back NoPayloadDir h = (h.0.0, h.1)
  form_back NoManifest h = (h.0.0, h.1)
  form_back (BadLine file line cause) h = (h.0.0, h.1)
  form_back (ManifestNotListed tag_manifest manifest) h = (h.0.0, h.1)
  form_back OxumForm h = (h.0.0, h.1)
  form_back OxumTwice h = (h.0.0, h.1)
  form_back _ h = absurd (let k : false ≡ true = h.1 in cc)

  -- each has one of these kinds if the declaration is right
  every_kind : (f : Fault) → NoneBelow 2 (tag_bag tags) → HasOpeningFault tags f → list_any (λ kind. kind == number_of f) (kinds_of_form ++ kinds_of_files) ≡ true
  every_kind NoDeclaration none h = absurd (none NoDeclaration (omega arith) h.0)
  every_kind (BadDeclaration cause) none h = absurd (none (BadDeclaration cause) (omega arith) h.0)
  every_kind _ none h = refl

-- FAULTS OF THE FILES

tag_or : (kind : Kind) → kind ≢ Payload → kind ≡ Tag
tag_or Payload other = absurd (other refl)
tag_or Tag other = refl

module _ (tags : Files) (texts : TagTexts) (are : AreTextsOf (length tags) (tag_bag tags) texts) where
  missing_there : (f : Fault) → OfSome texts.manifests.items (IsTagMissing (paths_in (shown_of (tag_bag tags)))) f → HasOpeningFaultOf tags (9 ∷ []) f
  missing_there f (listing, has, (tag, missing)) =
      let broken = missing_broken (tag_bag tags) texts are refl f (listing, has, missing) in
      let named = missing.1.2 in
      subst (HasOpeningFaultOf tags (9 ∷ [])) (sym named) (((subst (HasFaultOf (tag_bag tags) (9 ∷ [])) named broken).0, λ payload. (let k : Tag ≡ Payload = sym tag ∙ payload in cc)), refl)

  missing_back : (f : Fault) → HasOpeningFaultOf tags (9 ∷ []) f → OfSome texts.manifests.items (IsTagMissing (paths_in (shown_of (tag_bag tags)))) f
  missing_back (Missing name path) (((pairs, lists, listed, away), stays), kind) =
      (listing_by name pairs, has_of_lists (tag_bag tags) texts are name pairs lists, (tag_or name.kind stays, (path, (listed, (λ there. away (is_there (tag_bag tags) refl path there)), refl))))
  missing_back _ h = absurd (let k : false ≡ true = h.1 in cc)

  fetch_there : (f : Fault) → HasFaultOf (tag_bag tags) (11 ∷ []) f → HasOpeningFaultOf tags (11 ∷ []) f
  fetch_there (FetchNotListed manifest path) h = ((h.0, λ mended. mended), h.1)
  fetch_there _ h = absurd (let k : false ≡ true = h.1 in cc)

  fetch_back : (f : Fault) → HasOpeningFaultOf tags (11 ∷ []) f → HasFaultOf (tag_bag tags) (11 ∷ []) f
  fetch_back (FetchNotListed manifest path) h = (h.0.0, h.1)
  fetch_back _ h = absurd (let k : false ≡ true = h.1 in cc)

  wrong_there : (f : Fault) → OfSome tags (IsWrongFile texts.manifests.items) f → HasOpeningFaultOf tags (14 ∷ []) f
  wrong_there f (file, has, (listing, listed, (digest, some, wrong, named))) =
      subst (HasOpeningFaultOf tags (14 ∷ [])) (sym named) (((listing.pairs, lists_of_has (tag_bag tags) texts are listing listed, (digest, some, (file.1, place_of_has tags file has, wrong))), λ mended. mended), refl)

  wrong_back : (f : Fault) → HasOpeningFaultOf tags (14 ∷ []) f → OfSome tags (IsWrongFile texts.manifests.items) f
  wrong_back (WrongDigest name path) (((pairs, lists, (digest, some, (octets, (i, at), wrong))), stays), kind) =
      ((path, octets), has_at tags i (path, octets) at, (listing_by name pairs, has_of_lists (tag_bag tags) texts are name pairs lists, (digest, some, wrong, refl)))
  wrong_back _ h = absurd (let k : false ≡ true = h.1 in cc)

  module _ (expected : List (List ℕ)) (these : AreExpected tags expected) (version : Version) (by : version_of (tag_bag tags) ≡ version) where
    unlisted_there : (f : Fault) → OfSome expected (IsFileUnlisted version texts.manifests.items) f → HasOpeningFaultOf tags (10 ∷ []) f
    unlisted_there f (path, has, (payload, (alg, unlisted, named))) =
        subst (HasOpeningFaultOf tags (10 ∷ [])) (sym named) (((these.exact path).0 (contains_from_has expected path has), (same_told (tag_bag tags) texts are alg path).0 (subst (λ (v : Version). IsUnlistedIn v texts.manifests.items alg path) (sym by) unlisted)), refl)

    unlisted_back : (f : Fault) → HasOpeningFaultOf tags (10 ∷ []) f → OfSome expected (IsFileUnlisted version texts.manifests.items) f
    unlisted_back (Unlisted alg path) ((listed, unlisted), kind) =
        (path, has_from_contains expected path ((these.exact path).1 listed), (expected_payload tags path listed, (alg, subst (λ (v : Version). IsUnlistedIn v texts.manifests.items alg path) by ((same_told (tag_bag tags) texts are alg path).1 unlisted), refl)))
    unlisted_back _ h = absurd (let k : false ≡ true = h.1 in cc)

    -- all of these together
    pub files_found : (old a b c new : List Fault) → AreReadBy version tags → Adds old a (OfSome texts.manifests.items (IsTagMissing (paths_in (shown_of (tag_bag tags))))) → Adds a b (HasFaultOf (tag_bag tags) (11 ∷ []))
        → Adds b c (OfSome expected (IsFileUnlisted version texts.manifests.items)) → Adds c new (OfSome tags (IsWrongFile texts.manifests.items)) → Adds old new (HasOpeningFaultOf tags kinds_of_files)
    files_found old a b c new read missing fetch unlisted wrong =
        adds_so old new (HasOpeningFaultOf tags (9 ∷ 11 ∷ 10 ∷ 14 ∷ [])) (HasOpeningFaultOf tags kinds_of_files) in_files from_files
        (adds_kinds_by (HasOpeningFault tags) (9 ∷ 11 ∷ 10 ∷ []) (14 ∷ []) old c new
        (adds_kinds_by (HasOpeningFault tags) (9 ∷ 11 ∷ []) (10 ∷ []) old b c
        (adds_kinds_by (HasOpeningFault tags) (9 ∷ []) (11 ∷ []) old a b (adds_so old a _ _ missing_there missing_back missing) (adds_so a b _ _ fetch_there fetch_back fetch))
        (adds_so b c _ _ unlisted_there unlisted_back unlisted))
        (adds_so c new _ _ wrong_there wrong_back wrong))
      where
        in_files : (f : Fault) → HasOpeningFaultOf tags (9 ∷ 11 ∷ 10 ∷ 14 ∷ []) f → HasOpeningFaultOf tags kinds_of_files f
        in_files NoDeclaration h = absurd (let k : false ≡ true = h.1 in cc)
        in_files (FetchLength number path) h = absurd (let k : false ≡ true = h.1 in cc)
        in_files OxumWrong h = absurd (let k : false ≡ true = h.1 in cc)
        in_files _ h = h

        from_files : (f : Fault) → HasOpeningFaultOf tags kinds_of_files f → HasOpeningFaultOf tags (9 ∷ 11 ∷ 10 ∷ 14 ∷ []) f
        from_files NoDeclaration h = absurd (let k : false ≡ true = h.1 in cc)
        from_files (FetchLength number path) (((line, entry, numbered, named, (given, gives, (octets, (i, at), other))), stays), kind) =
            absurd (let k : false ≡ true = sym (plain_tag tags read.tag_files path octets (i, at)) ∙ subst (λ p. is_payload p ≡ true) named (entry_payload (tag_bag tags) line entry) in cc)
        from_files OxumWrong h = absurd (h.0.1 tt)
        from_files _ h = h

-- ALL

pub all_found : (version : Version) (tags : Files) (faults : List Fault) → AreReadBy version tags → Adds [] faults (HasOpeningFaultOf tags (kinds_of_form ++ kinds_of_files)) → (f : Fault) → Has faults f ↔ HasOpeningFault tags f
all_found version tags faults read adds f =
    let declared = read.in_scope.declared in (
      λ h. elim ((adds f).0 h) [ inl old ↦ absurd old | inr new ↦ new.0 ],
      λ h. (adds f).1 (inr (h, every_kind tags f (declared_none (tag_bag tags) declared.declaration read.tag_files.rising declared.declares) h)),
    )
