-- The report of a transfer's bag.
use Rattle.std.proofs.Common.{◌≡◌, ◌⊎◌, ◌+◌, ◌∙◌, ℕ, true, false, List, [], ◌∷◌, Contains, Some, length, refl, sym, ap, subst, inl, inr, arith}
use Rattle.std.specs.List.{sum_by}
use Rattle.std.proofs.lemmas.List.Sums.{sum_by-cons}
use Rattle.bag_rules.specs.Bags.{ListsBy, ListsFetchBy, octet_count, SaysInfoBy, version_of}
use Rattle.bag_rules.specs.FilesInside.{IsPayloadMissing}
use Rattle.bag_rules.specs.Opening.{Opens}
use Rattle.bag_rules.specs.Plans.{item_paths, sizes_of}
use Rattle.bag_rules.specs.Transfers.{AreHeldFor, held_bag, tag_bag}
use Rattle.bag_rules.specs.declared.plan.ItemSize.{ItemSize}
use Rattle.bag_rules.proofs.Words.{AreTagFiles, AreTextsOf, Bag, cases_Bool, Fault, Files, HasFaultOf, is_payload, IsInScope, IsSizeOf, IsThere, IsUnknownManifest, keys_of, kinds_of_files, length-map, Listing, manifest_name, Missing, name_in, NoneBelow, OfSome, OxumWrong, PayloadSize, Payload, TagTexts}
use Rattle.bag_rules.proofs.FrontLemmas.{fetch_listed, info_said, manifest_listed, whole_front}
use Rattle.bag_rules.proofs.HasLemmas.{contains_from_has, has_from_contains, has_from_map, has_map}
use Rattle.bag_rules.proofs.HeldBags.{holds_item, holds_tag, item_held, payload_files, payload_octets}
use Rattle.bag_rules.proofs.HeldFaults.{down, lists_down, lists_up, may_be_mended, same, up}
use Rattle.bag_rules.proofs.InPlace.{listed_in_place}
use Rattle.bag_rules.proofs.SameTexts.{fetches_too, says_too}

-- SIZES

pub item_keys : (items : Files) → item_paths (sizes_of items) ≡ keys_of items
item_keys [] = refl
item_keys (item ∷ items) = ap (λ paths. item.0 ∷ paths) (item_keys items)

sizes_sum : (items : Files) → sum_by (λ (size : ItemSize). size.octets) (sizes_of items) ≡ octet_count items
unfolding octet_count
sizes_sum [] = refl
sizes_sum (item ∷ items) = sum_by-cons (λ (size : ItemSize). size.octets) (record { path = item.0; octets = length item.1 }) (sizes_of items) ∙ ap (λ n. length item.1 + n) (sizes_sum items)

sizes_count : (items : Files) → length (sizes_of items) ≡ length items
sizes_count items = length-map items (λ (item : List ℕ × List ℕ). (let size : ItemSize = record { path = item.0; octets = length item.1 } in size))

-- a payload file doesn't have the name of a manifest
not_unknown : (path word : List ℕ) → is_payload path ≡ true → ¬ IsUnknownManifest path word
not_unknown path word payload unknown = elim unknown.form [
  | inl named ↦ (let k : false ≡ true = ap is_payload (sym named) ∙ payload in cc)
  | inr named ↦ (let k : false ≡ true = ap is_payload (sym named) ∙ payload in cc)
]

module _ (tags items : Files) (are : AreTagFiles tags) (held : AreHeldFor tags items) (opens : Opens tags) where
  pub size_is : (sizes : List ItemSize) (size : PayloadSize) → sizes ≡ sizes_of items → size.octets ≡ sum_by (λ (size : ItemSize). size.octets) sizes → size.streams ≡ length sizes → IsSizeOf (held_bag tags items).files size
  size_is sizes size is octets streams = (
    octets ∙ ap (sum_by (λ (size : ItemSize). size.octets)) is ∙ sizes_sum items ∙ sym (payload_octets tags items are held),
    streams ∙ ap (λ (ss : List ItemSize). length ss) is ∙ sizes_count items ∙ sym (payload_files tags items are held),
  )

  -- the payload files that are there
  there_is : (path : List ℕ) → Contains (keys_of items) path → IsThere (held_bag tags items) path
  there_is path contains =
      let file = has_from_map (λ (file : List ℕ × List ℕ). file.0) items path (has_from_contains (keys_of items) path contains) in
      subst (IsThere (held_bag tags items)) file.2 (file.0.1, holds_item tags items are held file.0.0 file.0.1 file.1)

  is_there : (path : List ℕ) → is_payload path ≡ true → IsThere (held_bag tags items) path → Contains (keys_of items) path
  is_there path payload there = contains_from_has (keys_of items) path (has_map (λ (file : List ℕ × List ℕ). file.0) items (path, there.0) (item_held tags items are held path there.0 payload there.1))

  -- THE SCOPE, AND THE LOWER TIERS

  pub held_scope : IsInScope (held_bag tags items)
  held_scope =
      let declared = opens.in_scope.declared in
      record {
        declared = record {
          declaration = declared.declaration;
          declares = (declared.declares.0, holds_tag tags items are held _ declared.declares.0 declared.declares.1, declared.declares.2);
          version_is = declared.version_is ∙ ap Some (sym (same tags items are held opens));
          in_utf8 = declared.in_utf8;
        };
        known = λ path word there unknown. elim (cases_Bool (is_payload path)) [
          | inl payload ↦ not_unknown path word payload unknown
          | inr plain ↦ opens.in_scope.known path word (there.0, down tags items are held opens path there.0 plain there.1) unknown
        ];
      }

  pub none_below : NoneBelow 3 (held_bag tags items)
  none_below (Missing name path) below broken = absurd (omega (arith, below))
  none_below OxumWrong below broken = absurd (omega (arith, below))
  none_below fault below broken = may_be_mended tags items are held opens fault broken

  -- WHAT WAS READ

  module _ (texts : TagTexts) (texts_are : AreTextsOf (length tags) (tag_bag tags) texts) where
    pub texts_held : AreTextsOf (length (held_bag tags items).files) (held_bag tags items) texts
    texts_held =
        let bag = held_bag tags items in
        let is = same tags items are held opens in
        let down_to = down tags items are held opens in
        let up_to = up tags items are held opens in
        record {
          info = λ elements. (
            λ e. subst (λ (b : Bag). SaysInfoBy (version_of bag) b elements) (sym (whole_front bag)) (says_too (tag_bag tags) bag (sym is) up_to elements ((info_said (tag_bag tags) texts texts_are elements).0 e)),
            λ s. (info_said (tag_bag tags) texts texts_are elements).1 (says_too bag (tag_bag tags) is down_to elements (subst (λ (b : Bag). SaysInfoBy (version_of bag) b elements) (whole_front bag) s)),
          );
          fetch = λ lines. (
            λ e. subst (λ (b : Bag). ListsFetchBy (version_of bag) b lines) (sym (whole_front bag)) (fetches_too (tag_bag tags) bag (sym is) up_to lines ((fetch_listed (tag_bag tags) texts texts_are lines).0 e)),
            λ l. (fetch_listed (tag_bag tags) texts texts_are lines).1 (fetches_too bag (tag_bag tags) is down_to lines (subst (λ (b : Bag). ListsFetchBy (version_of bag) b lines) (whole_front bag) l)),
          );
          manifests = λ listing. (
            λ h. subst (λ (b : Bag). ListsBy (version_of bag) b (name_in listing) listing.pairs) (sym (whole_front bag)) (lists_up tags items are held opens (name_in listing) listing.pairs ((manifest_listed (tag_bag tags) texts texts_are listing).0 h)),
            λ l. (manifest_listed (tag_bag tags) texts texts_are listing).1 (lists_down tags items are held opens (name_in listing) listing.pairs (subst (λ (b : Bag). ListsBy (version_of bag) b (name_in listing) listing.pairs) (whole_front bag) l)),
          );
        }

    -- THE FAULTS

    pub missing_or_oxum : (fault : Fault) → HasFaultOf (held_bag tags items) kinds_of_files fault → OfSome texts.manifests.items (IsPayloadMissing (keys_of items)) fault ⊎ HasFaultOf (held_bag tags items) (13 ∷ []) fault
    missing_or_oxum (Missing name path) ((pairs, lists, listed, away), kind) =
        let listing : Listing = record { alg = name.alg; kind = name.kind; pairs = pairs } in
        inl (listing, (manifest_listed (tag_bag tags) texts texts_are listing).1 (lists_down tags items are held opens name pairs lists), (may_be_mended tags items are held opens (Missing name path) (pairs, lists, listed, away), (path, (listed, (λ contains. away (there_is path contains)), refl))))
    missing_or_oxum OxumWrong h = inr (h.0, refl)
    missing_or_oxum fault h = absurd (may_be_mended tags items are held opens fault h.0)

    pub missing_broken : (fault : Fault) → OfSome texts.manifests.items (IsPayloadMissing (keys_of items)) fault → HasFaultOf (held_bag tags items) kinds_of_files fault
    missing_broken fault (listing, has, (payload, (path, (listed, away, is)))) =
        let lists = (manifest_listed (tag_bag tags) texts texts_are listing).0 has in
        let named = listed_in_place (tag_bag tags) (manifest_name Payload listing.alg) listing.pairs path (subst (λ kind. ListsBy (version_of (tag_bag tags)) (tag_bag tags) (manifest_name kind listing.alg) listing.pairs) payload lists) listed in
        subst (HasFaultOf (held_bag tags items) kinds_of_files) (sym is) ((listing.pairs, lists_up tags items are held opens (name_in listing) listing.pairs lists, listed, λ there. away (is_there path named there)), refl)

    pub oxum_broken : (fault : Fault) → HasFaultOf (held_bag tags items) (13 ∷ []) fault → HasFaultOf (held_bag tags items) kinds_of_files fault
    oxum_broken OxumWrong h = (h.0, refl)
    oxum_broken _ h = absurd (let k : false ≡ true = h.1 in cc)
