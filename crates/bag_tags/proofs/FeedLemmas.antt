-- A feed stands where its octets have led it.
use Rattle.std.proofs.Common.{◌≡◌, ◌++◌, ℕ, List, [], Some, None, Result, OnOk, IfErr, refl, sym, ap, ◌∙◌, subst, append_assoc, append-nil}
use Rattle.bag_path.specs.declared.version.Version.{Version}
use Rattle.bag_tags.specs.declared.tag_fault.LineCause.{LineCause}
use Rattle.bag_tags.specs.declared.tag_fault.LineFault.{LineFault}
use Rattle.bag_tags.specs.declared.tag_fault.TagFault.{TagFault}
use Rattle.bag_tags.specs.declared.tag_fault.TagFault.TheVariants.{Line, Memory}
use Rattle.bag_tags.specs.declared.tag_feed.TagFeed.{TagFeed}
use Rattle.bag_tags.specs.declared.tag_feed.TagValue.{TagValue}
use Rattle.bag_tags.specs.declared.tag_feed.TagValue.TheVariants as value
use Rattle.bag_tags.specs.declared.fetch.FetchLine.{FetchLine}
use Rattle.bag_tags.specs.declared.last_line.LastLine.{LastLine}
use Rattle.bag_tags.specs.declared.name.LineFile.{LineFile}
use Rattle.bag_tags.specs.declared.name.LineFile.TheVariants.{Info, FetchList, Manifest}
use Rattle.bag_tags.specs.declared.name.ManifestName.{ManifestName}
use Rattle.bag_tags.specs.Feeds.{AwaitsFor, Fed, IsFaultOf, IsFaultlessBeforeLast, IsTextFor, StandsAt}
use Rattle.bag_tags.specs.FetchText.{AddsEntry, RefusesFetchLine, FetchText}
use Rattle.bag_tags.specs.Infos.{MetadataElement}
use Rattle.bag_tags.specs.InfoText.{AddsInfo, RefusesInfo, InfoText}
use Rattle.bag_tags.specs.Listings.{Listing, nothing_listed}
use Rattle.bag_tags.specs.Manifests.{AddsPair, RefusesLine, ManifestText}
use Rattle.bag_tags.specs.Pieces.{Awaits}
use Rattle.bag_tags.specs.TagLines.{AreExact, Faults, IsFirstFault, IsTextOf, StopsAt}
use Rattle.bag_tags.proofs.ExactTexts.{no_elements, no_entries, no_pairs, one_list_of_elements, one_list_of_entries, one_list_of_pairs}
use Rattle.bag_tags.proofs.FetchDecisionLemmas.{fetch_exact}
use Rattle.bag_tags.proofs.InfoDecisionLemmas.{info_exact}
use Rattle.bag_tags.proofs.ManifestDecisionLemmas.{manifest_exact}
use Rattle.bag_tags.proofs.ManifestTextLemmas.{manifest_listed, listing}
use Rattle.bag_tags.proofs.PiecesLemmas.{last_faulty}
use Rattle.bag_tags.proofs.TagLinesLemmas.{first_fault}
use Rattle.std.proofs.lemmas.Result.{IfErr-weaker, on_ok_weaker}

-- ONE FILE

first : {A : Type 0} (leads : A → ℕ → List ℕ → A → Type 0) (refuses : A → List ℕ → LineCause → Type 0) (exact : AreExact leads refuses) (start : A) (octets : List ℕ) (fault : TagFault) → Faults (StopsAt leads refuses start octets) fault → Faults (IsFirstFault leads refuses start octets) fault
first leads refuses exact start octets Memory stops = tt
first leads refuses exact start octets (Line fault) stops = first_fault leads refuses exact start octets fault stops

module _ (version : Version) where
  -- of a manifest
  pub manifest_stops : {T : Type 0} (r : Result T TagFault) (left : List ℕ) (last : LastLine) (m : Listing) → ((start : Listing) (all : List ℕ) → Awaits (AddsPair version) start all left last m → IfErr r (Faults (StopsAt (AddsPair version) (RefusesLine version) start all)))
      → (file : LineFile) (all : List ℕ) → AwaitsFor version file all left last (value.Manifest m) → IfErr r (Faults (IsFaultOf version file all))
  manifest_stops r left last m err Info all h = absurd h
  manifest_stops r left last m err FetchList all h = absurd h
  manifest_stops r left last m err (Manifest name) all h =
      IfErr-weaker r (Faults (StopsAt (AddsPair version) (RefusesLine version) (nothing_listed name.alg name.kind) all)) (Faults (IsFaultOf version (Manifest name) all)) (first _ _ (manifest_exact version) (nothing_listed name.alg name.kind) all) (err (nothing_listed name.alg name.kind) all h)

  pub manifest_read : {T : Type 0} (r : Result T TagFault) (last : LastLine) (m n : Listing) → ((start : Listing) (all : List ℕ) → Awaits (AddsPair version) start all [] last m → OnOk r (IsTextOf (AddsPair version) start all n))
      → (file : LineFile) (all : List ℕ) → AwaitsFor version file all [] last (value.Manifest m) → OnOk r (IsTextFor version file all (value.Manifest n))
  manifest_read r last m n ok Info all h = absurd h
  manifest_read r last m n ok FetchList all h = absurd h
  manifest_read r last m n ok (Manifest name) all h = on_ok_weaker r (manifest_listed version name.alg name.kind all n) (ok (nothing_listed name.alg name.kind) all h)

  -- of `bag-info.txt`
  pub info_stops : {T : Type 0} (r : Result T TagFault) (left : List ℕ) (last : LastLine) (m : List MetadataElement) → ((start : List MetadataElement) (all : List ℕ) → Awaits (AddsInfo version) start all left last m → IfErr r (Faults (StopsAt (AddsInfo version) (RefusesInfo version) start all)))
      → (file : LineFile) (all : List ℕ) → AwaitsFor version file all left last (value.Info m) → IfErr r (Faults (IsFaultOf version file all))
  info_stops r left last m err Info all h = IfErr-weaker r (Faults (StopsAt (AddsInfo version) (RefusesInfo version) [] all)) (Faults (IsFaultOf version Info all)) (first _ _ (info_exact version) [] all) (err [] all h)
  info_stops r left last m err FetchList all h = absurd h
  info_stops r left last m err (Manifest name) all h = absurd h

  -- of `fetch.txt`
  pub fetch_stops : {T : Type 0} (r : Result T TagFault) (left : List ℕ) (last : LastLine) (m : List FetchLine) → ((start : List FetchLine) (all : List ℕ) → Awaits (AddsEntry version) start all left last m → IfErr r (Faults (StopsAt (AddsEntry version) (RefusesFetchLine version) start all)))
      → (file : LineFile) (all : List ℕ) → AwaitsFor version file all left last (value.Fetch m) → IfErr r (Faults (IsFaultOf version file all))
  fetch_stops r left last m err Info all h = absurd h
  fetch_stops r left last m err FetchList all h = IfErr-weaker r (Faults (StopsAt (AddsEntry version) (RefusesFetchLine version) [] all)) (Faults (IsFaultOf version FetchList all)) (first _ _ (fetch_exact version) [] all) (err [] all h)
  fetch_stops r left last m err (Manifest name) all h = absurd h

  -- ONE VALUE OR ONE FAULT

  of_manifest : (name : ManifestName) (octets : List ℕ) (v : TagValue) → IsTextFor version (Manifest name) octets v → (pairs : _) × (v ≡ value.Manifest (listing name.alg name.kind pairs)) × ManifestText version name.alg name.kind octets pairs
  of_manifest name octets (value.Manifest m) h = (m.pairs, ap value.Manifest (ap (λ a. listing a m.kind m.pairs) h.0 ∙ ap (λ k. listing name.alg k m.pairs) h.1), h.2)
  of_manifest name octets (value.Info m) h = absurd h
  of_manifest name octets (value.Fetch m) h = absurd h

  of_info : (octets : List ℕ) (v : TagValue) → IsTextFor version Info octets v → (elements : List MetadataElement) × (v ≡ value.Info elements) × InfoText version octets elements
  of_info octets (value.Manifest m) h = absurd h
  of_info octets (value.Info m) h = (m, refl, h)
  of_info octets (value.Fetch m) h = absurd h

  of_fetch : (octets : List ℕ) (v : TagValue) → IsTextFor version FetchList octets v → (lines : List FetchLine) × (v ≡ value.Fetch lines) × FetchText version octets lines
  of_fetch octets (value.Manifest m) h = absurd h
  of_fetch octets (value.Info m) h = absurd h
  of_fetch octets (value.Fetch m) h = (m, refl, h)

  pub one_value : (file : LineFile) (octets : List ℕ) (v w : TagValue) → IsTextFor version file octets v → IsTextFor version file octets w → v ≡ w
  one_value Info octets v w h k =
      let a = of_info octets v h in
      let b = of_info octets w k in
      a.1 ∙ ap value.Info (one_list_of_elements version octets a.0 b.0 a.2 b.2) ∙ sym b.1
  one_value FetchList octets v w h k =
      let a = of_fetch octets v h in
      let b = of_fetch octets w k in
      a.1 ∙ ap value.Fetch (one_list_of_entries version octets a.0 b.0 a.2 b.2) ∙ sym b.1
  one_value (Manifest name) octets v w h k =
      let a = of_manifest name octets v h in
      let b = of_manifest name octets w k in
      a.1 ∙ ap (λ pairs. value.Manifest (listing name.alg name.kind pairs)) (one_list_of_pairs version name.alg name.kind octets a.0 b.0 a.2 b.2) ∙ sym b.1

  pub no_value : (file : LineFile) (octets : List ℕ) (v : TagValue) (fault : LineFault) → IsTextFor version file octets v → IsFaultOf version file octets fault → ⊥
  no_value Info octets v fault h f = let a = of_info octets v h in no_elements version octets a.0 fault a.2 f
  no_value FetchList octets v fault h f = let a = of_fetch octets v h in no_entries version octets a.0 fault a.2 f
  no_value (Manifest name) octets v fault h f = let a = of_manifest name octets v h in no_pairs version name.alg name.kind octets a.0 fault a.2 f

  -- the fault of a text with a value is want of memory
  pub memory_alone : (file : LineFile) (octets : List ℕ) (v : TagValue) (fault : TagFault) → IsTextFor version file octets v → Faults (IsFaultOf version file octets) fault → fault ≡ Memory
  memory_alone file octets v Memory h f = refl
  memory_alone file octets v (Line fault) h f = absurd (no_value file octets v fault h f)

  -- FEEDS

  before_piece : (file : LineFile) (octets piece more : List ℕ) (old : TagFeed) → StandsAt version file octets old None → AwaitsFor version file ((octets ++ piece) ++ more) (piece ++ more) old.last old.value
  before_piece file octets piece more old h = subst (λ os. AwaitsFor version file os (piece ++ more) old.last old.value) (sym (append_assoc octets piece more)) (h (piece ++ more))

  -- where all octets end
  stands_at_end : (file : LineFile) (octets : List ℕ) (feed : TagFeed) → StandsAt version file octets feed None → AwaitsFor version file octets [] feed.last feed.value
  stands_at_end file octets feed h = subst (λ os. AwaitsFor version file os [] feed.last feed.value) (append-nil octets) (h [])

  pub fault_at_end : (file : LineFile) (octets : List ℕ) (feed : TagFeed) (fault : TagFault) → StandsAt version file octets feed (Some fault) → Faults (IsFaultOf version file octets) fault
  fault_at_end file octets feed Memory h = tt
  fault_at_end file octets feed (Line fault) h = subst (λ os. IsFaultOf version file os fault) (append-nil octets) (h [])

  -- without a fault no line but the last one is faulty
  pub last_alone : (file : LineFile) (octets : List ℕ) (last : LastLine) (v : TagValue) → AwaitsFor version file octets [] last v → IsFaultlessBeforeLast version file octets
  last_alone Info octets last (value.Info m) h = λ fault f. last_faulty (AddsInfo version) (RefusesInfo version) (info_exact version) [] octets last m fault h f
  last_alone Info octets last (value.Manifest m) h = absurd h
  last_alone Info octets last (value.Fetch m) h = absurd h
  last_alone FetchList octets last (value.Fetch m) h = λ fault f. last_faulty (AddsEntry version) (RefusesFetchLine version) (fetch_exact version) [] octets last m fault h f
  last_alone FetchList octets last (value.Info m) h = absurd h
  last_alone FetchList octets last (value.Manifest m) h = absurd h
  last_alone (Manifest name) octets last (value.Manifest m) h = λ fault f. last_faulty (AddsPair version) (RefusesLine version) (manifest_exact version) (nothing_listed name.alg name.kind) octets last m fault h f
  last_alone (Manifest name) octets last (value.Info m) h = absurd h
  last_alone (Manifest name) octets last (value.Fetch m) h = absurd h

  -- what the next piece is read with, and the end
  pub awaits_piece : (file : LineFile) (octets piece more : List ℕ) (feed : TagFeed) → feed.fault ≡ None → Fed version file octets feed → AwaitsFor feed.version file ((octets ++ piece) ++ more) (piece ++ more) feed.last feed.value
  awaits_piece file octets piece more feed none fed =
      subst (λ v. AwaitsFor v file ((octets ++ piece) ++ more) (piece ++ more) feed.last feed.value) (sym fed.by_version) (before_piece file octets piece more feed (subst (StandsAt version file octets feed) none fed.stands))

  pub awaits_end : (file : LineFile) (octets : List ℕ) (feed : TagFeed) → feed.fault ≡ None → Fed version file octets feed → AwaitsFor feed.version file octets [] feed.last feed.value
  awaits_end file octets feed none fed =
      subst (λ v. AwaitsFor v file octets [] feed.last feed.value) (sym fed.by_version) (stands_at_end file octets feed (subst (StandsAt version file octets feed) none fed.stands))
