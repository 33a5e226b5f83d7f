-- The faults of the files, in terms of what was read, are those that the bag has.
use Rattle.std.proofs.Common.{◌≡◌, ℕ, true, false, List, [], ◌∷◌, length, refl, sym, ap, inl, inr, subst}
use Rattle.bag_rules.specs.Bags.{version_of}
use Rattle.bag_rules.proofs.Words.{Alg, AreLinesOf, AreTextsOf, AreRequirementsOf, Bag, CheckFault, Fault, FetchLength, FetchLine, FileStops, FirstStops, GivenLength, Has, HasFaultOf, IsBagOf, IsChecked, IsFileFault, IsLongRead, IsMissing, IsReadBy, IsUnlistedIn, Listing, Lists, ManifestName, Missing, name_in, NoneStops, NoneStopsBefore, Pair, paths_in, Shown, Stopped, TagTexts, Unlisted, Requirements, WrongDigest}
use Rattle.bag_rules.proofs.FetchLemmas.{entry_here, entry_there}
use Rattle.bag_rules.proofs.FrontLemmas.{manifest_listed}
use Rattle.bag_rules.proofs.LimitLemmas.{stopped_so}
use Rattle.bag_rules.proofs.TreeLemmas.{is_there, shows}
use Rattle.bag_rules.proofs.UnlistedLemmas.{same_told}

abbrev pub listing_by : ManifestName → List Pair → Listing
listing_by name pairs = record { alg = name.alg; kind = name.kind; pairs = pairs }

module _ (bag : Bag) (texts : TagTexts) (are : AreTextsOf (length bag.files) bag texts) where
  -- what was read is what the bag's manifests list
  pub lists_of_has : (listing : Listing) → Has texts.manifests.items listing → Lists bag (name_in listing) listing.pairs
  lists_of_has listing has = (manifest_listed bag texts are listing).0 has

  pub has_of_lists : (name : ManifestName) (pairs : List Pair) → Lists bag name pairs → Has texts.manifests.items (listing_by name pairs)
  has_of_lists name pairs lists = (manifest_listed bag texts are (listing_by name pairs)).1 lists

  -- the files that are read are those that are checked
  pub checked_of_read : (path : List ℕ) → IsReadBy texts.manifests.items path → IsChecked bag path
  checked_of_read path (inl payload) = inl payload
  checked_of_read path (inr listed) = inr (name_in listed.0, (listed.0.pairs, lists_of_has listed.0 listed.1, listed.2))

  pub read_of_checked : (path : List ℕ) → IsChecked bag path → IsReadBy texts.manifests.items path
  read_of_checked path (inl payload) = inl payload
  read_of_checked path (inr listed) = inr (listing_by listed.0 listed.1.0, has_of_lists listed.0 listed.1.0 listed.1.1, listed.1.2)

  none_before : (n : ℕ) → NoneStopsBefore n bag (IsLongRead texts.manifests.items) → NoneStopsBefore n bag (FileStops bag)
  none_before n none i path octets fault below at stops = none i path octets fault below at (read_of_checked path stops.0, stops.1)

  pub none_stops : NoneStops bag (IsLongRead texts.manifests.items) → NoneStops bag (FileStops bag)
  none_stops = none_before (length bag.files)

  pub first_stops_so : (fault : CheckFault) → Stopped (FirstStops bag (IsLongRead texts.manifests.items)) fault → Stopped (FirstStops bag (FileStops bag)) fault
  first_stops_so fault = stopped_so (FirstStops bag (IsLongRead texts.manifests.items)) (FirstStops bag (FileStops bag)) fault (λ first. record {
    place = first.place;
    path = first.path;
    octets = first.octets;
    there = first.there;
    reason = (checked_of_read first.path first.reason.0, first.reason.1);
    first = none_before first.place first.first;
  })

  -- FAULTS OF THE FILES THAT ARE THERE

  module _ (lines : List FetchLine) (lines_are : AreLinesOf texts lines) (wants : Requirements) (wants_are : AreRequirementsOf (version_of bag) texts.manifests.items lines wants) where
    read_in : (listing : Listing) → Has wants.manifests.now listing → Has texts.manifests.items listing
    read_in listing = subst (λ ls. Has ls listing) wants_are.manifests

    kept_in : (listing : Listing) → Has texts.manifests.items listing → Has wants.manifests.now listing
    kept_in listing = subst (λ ls. Has ls listing) (sym wants_are.manifests)

    told_in : (alg : Alg) (path : List ℕ) → IsUnlistedIn wants.version wants.manifests.now alg path → IsUnlistedIn (version_of bag) texts.manifests.items alg path
    told_in alg path unlisted = subst (λ v. IsUnlistedIn v texts.manifests.items alg path) wants_are.version_is (subst (λ ls. IsUnlistedIn wants.version ls alg path) wants_are.manifests unlisted)

    told_so : (alg : Alg) (path : List ℕ) → IsUnlistedIn (version_of bag) texts.manifests.items alg path → IsUnlistedIn wants.version wants.manifests.now alg path
    told_so alg path unlisted = subst (λ ls. IsUnlistedIn wants.version ls alg path) (sym wants_are.manifests) (subst (λ v. IsUnlistedIn v texts.manifests.items alg path) (sym wants_are.version_is) unlisted)

    pub file_fault_broken : (f : Fault) → IsFileFault bag wants f → HasFaultOf bag (10 ∷ 12 ∷ 14 ∷ []) f
    file_fault_broken f (i, (path, (octets, at, inl (payload, (alg, unlisted, is))))) =
        subst (HasFaultOf bag (10 ∷ 12 ∷ 14 ∷ [])) (sym is) (((same_told bag texts are alg path).0 (told_in alg path unlisted), (octets, (i, at)), payload), refl)
    file_fault_broken f (i, (path, (octets, at, inr (inl (given, has, longer))))) =
        let line = (wants_are.lengths.given path given).0 has in
        subst (HasFaultOf bag (10 ∷ 12 ∷ 14 ∷ [])) (sym longer.1) ((line.0, entry_there bag texts are lines lines_are line.0 line.1, line.2.2, line.2.0, (given.length, line.2.1, (octets, (i, at), λ e. longer.0 (sym e)))), refl)
    file_fault_broken f (i, (path, (octets, at, inr (inr (listing, has, wrong))))) =
        subst (HasFaultOf bag (10 ∷ 12 ∷ 14 ∷ [])) (sym wrong.3) ((listing.pairs, lists_of_has listing (read_in listing has), (wrong.0, wrong.1, (octets, (i, at), wrong.2))), refl)

    pub broken_file_fault : (f : Fault) → HasFaultOf bag (10 ∷ 12 ∷ 14 ∷ []) f → IsFileFault bag wants f
    broken_file_fault (Unlisted alg path) ((unlisted, (octets, (i, at)), payload), kind) =
        (i, (path, (octets, at, inl (payload, (alg, told_so alg path ((same_told bag texts are alg path).1 unlisted), refl)))))
    broken_file_fault (FetchLength number path) ((line, entry, number_is, path_is, (n, gives, (octets, (i, at), other))), kind) =
        let given : GivenLength = record { line = line.line; length = n } in
        (i, (path, (octets, at, inr (inl (given, (wants_are.lengths.given path given).1 (line, entry_here bag texts are lines lines_are line entry, (path_is, gives, refl)), ((λ e. other (sym e)), ap (λ k. FetchLength k path) (sym number_is)))))))
    broken_file_fault (WrongDigest name path) ((pairs, lists, (digest, some, (octets, (i, at), wrong))), kind) =
        (i, (path, (octets, at, inr (inr (listing_by name pairs, kept_in (listing_by name pairs) (has_of_lists name pairs lists), (digest, some, wrong, refl))))))
    broken_file_fault _ h = absurd (let k : false ≡ true = h.1 in cc)

  -- FILES THAT ARE NOT THERE

  module _ {shown : Shown} (is : IsBagOf shown bag) where
    pub missing_broken : (f : Fault) → IsMissing (paths_in shown) texts.manifests.items f → HasFaultOf bag (9 ∷ []) f
    missing_broken f (listing, has, (path, (listed, away, e))) =
        subst (HasFaultOf bag (9 ∷ [])) (sym e) ((listing.pairs, lists_of_has listing has, listed, λ there. away (shows bag is path there)), refl)

    pub broken_missing : (f : Fault) → HasFaultOf bag (9 ∷ []) f → IsMissing (paths_in shown) texts.manifests.items f
    broken_missing (Missing name path) ((pairs, lists, listed, away), kind) =
        (listing_by name pairs, has_of_lists name pairs lists, (path, (listed, (λ there. away (is_there bag is path there)), refl)))
    broken_missing _ h = absurd (let k : false ≡ true = h.1 in cc)
