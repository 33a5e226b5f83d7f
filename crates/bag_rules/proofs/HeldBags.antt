-- The bag of a transfer: its tag files, and the payload files that it holds.
use Rattle.std.proofs.Common.{◌≡◌, ◌⊎◌, ◌∙◌, ◌+◌, ℕ, true, false, List, [], ◌∷◌, length, refl, sym, ap, inl, inr, arith}
use Rattle.std.specs.List.Sorted.{IsStrictlySortedBy}
use Rattle.bag_rules.specs.Bags.{IsDeclared, octet_count, paths_of, version_in, version_of}
use Rattle.bag_rules.specs.Files.{IsTagFile}
use Rattle.bag_rules.specs.Transfers.{AreHeldFor, held_bag, tag_bag, with_files}
use Rattle.bag_rules.proofs.Words.{AreRising, AreTagFiles, Bag, declaration_file, Equal, false≢true, Files, Has, HoldsFile, is_payload, keys_of, Less, nat_cmp, nat_list_cmp_total, payload_of, slice_cmp, tied_itself}
use Rattle.bag_rules.proofs.HasLemmas.{has_at, place_of_has}
use Rattle.bag_rules.proofs.InPlace.{expected_payload}
use Rattle.bag_rules.proofs.PutFiles.{AreNew, grows_with, has_with, key_has, rising_with}
use Rattle.bag_rules.proofs.SameListLemmas.{all_has}
use Rattle.bag_rules.proofs.TreeLemmas.{text_of}

-- payload files by path can be put among tag files
new_among : (tags : Files) → ((path octets : List ℕ) → Has tags (path, octets) → is_payload path ≡ false) → (items : Files) → AreRising (keys_of items) → ((path octets : List ℕ) → Has items (path, octets) → is_payload path ≡ true) → AreNew tags items
unfolding IsStrictlySortedBy
new_among tags plain [] rising payload = tt
new_among tags plain (item ∷ items) rising payload = (
  λ octets has. false≢true (sym (plain item.0 octets has) ∙ payload item.0 item.1 (inl refl)),
  λ octets has.
      let less = all_has (λ other. slice_cmp nat_cmp item.0 other ≡ Less) (keys_of items) item.0 rising.0 (key_has items item.0 octets has) in
      let k : Less ≡ Equal = sym less ∙ tied_itself nat_list_cmp_total item.0 in
      cc,
  new_among tags plain items rising.1 (λ path octets has. payload path octets (inr has)),
)

-- tag files are no payload
none_payload : (tags : Files) → ((path octets : List ℕ) → Has tags (path, octets) → is_payload path ≡ false) → payload_of tags ≡ []
none_payload [] plain = refl
none_payload (tag ∷ tags) plain = rw (plain tag.0 tag.1 (inl refl)) (none_payload tags (λ path octets has. plain path octets (inr has)))

pub holds_has : (bag : Bag) (path octets : List ℕ) → HoldsFile bag path octets → Has bag.files (path, octets)
holds_has bag path octets holds = has_at bag.files holds.0 (path, octets) holds.1

has_holds : (bag : Bag) (path octets : List ℕ) → Has bag.files (path, octets) → HoldsFile bag path octets
has_holds bag path octets has = place_of_has bag.files (path, octets) has

pub plain_tag : (tags : Files) → AreTagFiles tags → (path octets : List ℕ) → HoldsFile (tag_bag tags) path octets → is_payload path ≡ false
plain_tag tags are path octets holds = (all_has IsTagFile tags (path, octets) are.each (holds_has (tag_bag tags) path octets holds)).0.1

module _ (tags items : Files) (are : AreTagFiles tags) (held : AreHeldFor tags items) where
  plain : (path octets : List ℕ) → Has tags (path, octets) → is_payload path ≡ false
  plain path octets has = plain_tag tags are path octets (has_holds (tag_bag tags) path octets has)

  payload : (path octets : List ℕ) → Has items (path, octets) → is_payload path ≡ true
  payload path octets has = expected_payload tags path (held.passing path octets has).expected

  new : AreNew tags items
  new = new_among tags plain items held.rising payload

  pub rising : AreRising (paths_of (held_bag tags items))
  rising = rising_with tags items are.rising

  -- WHAT IT HOLDS

  pub holds_tag : (path octets : List ℕ) → HoldsFile (tag_bag tags) path octets → HoldsFile (held_bag tags items) path octets
  holds_tag path octets holds = has_holds (held_bag tags items) path octets ((has_with tags items (path, octets) new).1 (inl (holds_has (tag_bag tags) path octets holds)))

  pub holds_item : (path octets : List ℕ) → Has items (path, octets) → HoldsFile (held_bag tags items) path octets
  holds_item path octets has = has_holds (held_bag tags items) path octets ((has_with tags items (path, octets) new).1 (inr has))

  of_both : (path octets : List ℕ) → HoldsFile (held_bag tags items) path octets → Has tags (path, octets) ⊎ Has items (path, octets)
  of_both path octets holds = (has_with tags items (path, octets) new).0 (holds_has (held_bag tags items) path octets holds)

  -- what isn't payload is a tag file, and what is was held
  pub tag_held : (path octets : List ℕ) → is_payload path ≡ false → HoldsFile (held_bag tags items) path octets → HoldsFile (tag_bag tags) path octets
  tag_held path octets other holds = elim (of_both path octets holds) [
    | inl tag ↦ has_holds (tag_bag tags) path octets tag
    | inr item ↦ absurd (false≢true (sym other ∙ payload path octets item))
  ]

  pub item_held : (path octets : List ℕ) → is_payload path ≡ true → HoldsFile (held_bag tags items) path octets → Has items (path, octets)
  item_held path octets is holds = elim (of_both path octets holds) [
    | inl tag ↦ absurd (false≢true (sym (plain path octets tag) ∙ is))
    | inr item ↦ item
  ]

  -- THE SIZE OF ITS PAYLOAD

  pub payload_octets : octet_count (payload_of (with_files tags items)) ≡ octet_count items
  unfolding octet_count
  payload_octets = (grows_with tags items new payload).0 ∙ ap (λ fs. octet_count fs + octet_count items) (none_payload tags plain) ∙ omega arith

  pub payload_files : length (payload_of (with_files tags items)) ≡ length items
  payload_files = (grows_with tags items new payload).1 ∙ ap (λ (fs : Files). length fs + length items) (none_payload tags plain) ∙ omega arith

  -- THE VERSION BY WHICH IT IS READ

  pub same_version : IsDeclared (tag_bag tags) → version_of (held_bag tags items) ≡ version_of (tag_bag tags)
  same_version declared =
      let octets = declared.declares.0 in
      let there = declared.declares.1 in
      ap version_in (text_of (held_bag tags items) declaration_file octets rising (holds_tag declaration_file octets there) ∙ sym (text_of (tag_bag tags) declaration_file octets are.rising there))
