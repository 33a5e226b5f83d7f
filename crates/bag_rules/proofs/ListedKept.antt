-- The digests that are listed of the tag files are kept: only tag manifests list such files.
use Rattle.std.proofs.Common.{◌≡◌, ◌&&◌, ◌∙◌, ℕ, true, false, List, [], ◌∷◌, ap, inl, inr, length, refl, sym}
use Rattle.bag_rules.specs.declared.tag_sums.TagSums.{TagSums}
use Rattle.bag_rules.specs.Bags.{HasFilesOf}
use Rattle.bag_rules.specs.OctetsRead.{KeepsListed, KeepsOnly, KeepsTagAlgs}
use Rattle.bag_tags.specs.Listings.{IsInPlace}
use Rattle.bag_rules.proofs.AlgLemmas.{same_alg}
use Rattle.bag_rules.proofs.FileKindLemmas.{lists_of_has}
use Rattle.bag_rules.proofs.InPlace.{listed_in_place}
use Rattle.bag_rules.proofs.OctetsLemmas.{shows_as}
use Rattle.bag_rules.proofs.Words.{Alg, and_parts, AreTextsOf, Bag, false≢true, Has, has, HoldsFile, is_alg, is_payload, Kind, Listing, lists_by, lists_path, manifest_file, or_cases, Payload, Shown, Tag, TagTexts}

-- some manifest by the algorithm lists the path
some_by : (listings : List Listing) (path : List ℕ) (alg : Alg) → lists_by listings path alg ≡ true → (listing : Listing) × Has listings listing × (is_alg listing.alg alg ≡ true) × (lists_path listing.pairs path ≡ true)
some_by [] path alg h = absurd (false≢true h)
some_by (l ∷ listings) path alg h = elim (or_cases (is_alg l.alg alg && lists_path l.pairs path) (lists_by listings path alg) h) [
  | inl here ↦ (let parts = and_parts (is_alg l.alg alg) (lists_path l.pairs path) here in (l, inl refl, parts.0, parts.1))
  | inr further ↦ (let s = some_by listings path alg further in (s.0, inr s.1, s.2, s.3))
]

pub keeps_listed : (shown : Shown) (kept : TagSums) (bag : Bag) → HasFilesOf shown bag → (texts : TagTexts) → AreTextsOf (length bag.files) bag texts → KeepsOnly shown kept (λ path. is_payload path ≡ false) → KeepsTagAlgs shown kept
    → KeepsListed shown texts.manifests.items kept
keeps_listed shown kept bag files texts are only algs place path alg is at listed =
    let by = some_by texts.manifests.items path alg listed in
    let lists = lists_of_has bag texts are by.0 by.1 in
    let in_place = listed_in_place bag _ by.0.pairs path lists by.3 in
    ap (λ a. has kept.set a) (sym (same_alg by.0.alg alg by.2)) ∙ by_kind by.0.kind by.0.alg in_place lists.octets lists.there where
      by_kind : (kind : Kind) (own : Alg) → IsInPlace kind path → (octets : List ℕ) → HoldsFile bag (manifest_file kind own) octets → has kept.set own ≡ true
      by_kind Payload own payload octets there = absurd (false≢true (sym (only place path is at) ∙ payload))
      by_kind Tag own tag octets there = algs own (shows_as bag files (manifest_file Tag own) (octets, there))
