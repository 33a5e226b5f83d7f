-- A sound ledger stays sound when a transfer or a payload file is added.
use Rattle.std.proofs.Common.{◌≡◌, ◌≢◌, ◌≤◌, ◌⊎◌, ℕ, Bool, true, false, List, [], ◌∷◌, Some, length, refl, sym, ap, subst, ◌∙◌, inl, inr}
use Rattle.std.specs.BTreeMap.{insert_entry}
use Rattle.std.specs.Cmp.Lexicographic.{slice_cmp}
use Rattle.std.specs.List.Sorted.{IsStrictlySortedBy}
use Rattle.std.specs.Option.{option_map}
use Rattle.std.specs.Ordering.{match_ordering, nat_cmp}
use Rattle.std.specs.Str.{IsUtf8, bytes_eq}
use Rattle.std.specs.declared.cmp.Ordering.{Ordering}
use Rattle.std.specs.declared.cmp.Ordering.TheVariants.{Equal, Greater, Less}
use Rattle.std.proofs.lemmas.Map.Lookups.{exact_bytes}
use Rattle.std.proofs.lemmas.Option.{same_Some}
use Rattle.std.proofs.lemmas.Slice.Eq.{bytes_eq-Decides}
use Rattle.bag_rules.specs.declared.limits.TheConstants.{LARGEST_ITEM}
use Rattle.bag_rules.specs.declared.want.Want.{Want}
use Rattle.bag_rules.specs.Faults.{Has}
use Rattle.bag_rules.specs.Files.{AreTagFiles, Files}
use Rattle.bag_rules.specs.Opening.{Opens}
use Rattle.bag_rules.specs.Transfers.{Passes}
use Rattle.bag_rules.specs.Trees.{AreRising}
use Rattle.bag_rules.specs.Wants.{IsWanted}
use Rattle.bag_rules.proofs.PassingLemmas.{wanted_passes}
use Rattle.bag_ledger.specs.Keeping.{Awaits, IsUnused, Writes}
use Rattle.bag_ledger.specs.Ledgers.{IsSound, IsSoundTransfer, Ledger, Transfer, begun, holding, transfer_of, with_item, with_transfer}
use Rattle.bag_ledger.specs.Stored.{HoldsItself}
use Rattle.bag_ledger.proofs.LedgerLemmas.{entry_here, entry_others, entry_rising, item_here, item_names, item_others}

-- two names are equal or they aren't
either : (x y : List ℕ) (b : Bool) → bytes_eq x y ≡ b → (x ≡ y) ⊎ (x ≢ y)
either x y true e = inl ((bytes_eq-Decides x y).0 e)
either x y false e = inr (λ h. let t : bytes_eq x y ≡ true = (bytes_eq-Decides x y).1 h in let f : true ≡ false = sym t ∙ e in cc)

pub sound_nothing : IsSound []
unfolding IsStrictlySortedBy
sound_nothing = record { rising = tt; utf8 = λ name transfer there. cc; each = λ name transfer there. cc }

begun_sound : (tags : Files) → AreTagFiles tags → Opens tags → IsSoundTransfer (begun tags)
unfolding IsStrictlySortedBy
begun_sound tags tag_files opens = record { tag_files = tag_files; opens = opens; held = record { rising = tt; passing = λ path content has. absurd has } }

pub sound_begun : (ledger : Ledger) (name : List ℕ) (tags : Files) → IsSound ledger → IsUtf8 name → AreTagFiles tags → Opens tags → IsSound (with_transfer ledger name tags)
sound_begun ledger name tags sound text tag_files opens = record {
  rising = entry_rising name (begun tags) ledger sound.rising;
  utf8 = λ other transfer there. elim (either other name (bytes_eq other name) refl) [
    | inl h ↦ subst IsUtf8 (sym h) text
    | inr apart ↦ sound.utf8 other transfer (sym (entry_others name (begun tags) other apart ledger) ∙ there)
  ];
  each = λ other transfer there. elim (either other name (bytes_eq other name) refl) [
    | inl h ↦ (
        let found : Some (begun tags) ≡ Some transfer = sym (entry_here name (begun tags) ledger) ∙ ap (transfer_of (with_transfer ledger name tags)) (sym h) ∙ there in
        subst IsSoundTransfer (same_Some (begun tags) transfer found) (begun_sound tags tag_files opens)
        )
    | inr apart ↦ sound.each other transfer (sym (entry_others name (begun tags) other apart ledger) ∙ there)
  ];
}

-- what is among the files after one was added
module _ (path content : List ℕ) (file : List ℕ × List ℕ) where
  has_by : (o : Ordering) (e : List ℕ × List ℕ) (es : Files) → slice_cmp nat_cmp path e.0 ≡ o
      → (Has (insert_entry (slice_cmp nat_cmp) es path content) file → ((path, content) ≡ file) ⊎ Has es file)
      → Has (match_ordering o ((path, content) ∷ e ∷ es) ((e.0, content) ∷ es) (e ∷ insert_entry (slice_cmp nat_cmp) es path content)) file
      → ((path, content) ≡ file) ⊎ Has (e ∷ es) file
  has_by Less e es at rest (inl h) = inl h
  has_by Less e es at rest (inr has) = inr has
  has_by Equal e es at rest (inl h) = inl ((λ t. (exact_bytes path e.0 at t, content)) ∙ h)
  has_by Equal e es at rest (inr has) = inr (inr has)
  has_by Greater e es at rest (inl h) = inr (inl h)
  has_by Greater e es at rest (inr has) = elim (rest has) [ inl h ↦ inl h | inr h ↦ inr (inr h) ]

  has_put : (files : Files) → Has (insert_entry (slice_cmp nat_cmp) files path content) file → ((path, content) ≡ file) ⊎ Has files file
  has_put [] (inl h) = inl h
  has_put [] (inr none) = absurd none
  has_put (e ∷ es) has = has_by (slice_cmp nat_cmp path e.0) e es refl (has_put es) has

holding_sound : (transfer : Transfer) (path content : List ℕ) → Passes transfer.tags path content → IsSoundTransfer transfer → IsSoundTransfer (holding transfer path content)
holding_sound transfer path content passes sound = record {
  tag_files = sound.tag_files;
  opens = sound.opens;
  held = record {
    rising = entry_rising path content transfer.items sound.held.rising;
    passing = λ other octets has. elim (has_put path content (other, octets) transfer.items has) [
      | inl h ↦ subst (λ (file : List ℕ × List ℕ). Passes transfer.tags file.0 file.1) h passes
      | inr h ↦ sound.held.passing other octets h
    ];
  };
}

pub sound_put : (ledger : Ledger) (name content : List ℕ) (want : Want) → IsSound ledger → Awaits name want ledger → length content ≤ LARGEST_ITEM → IsWanted want content
    → IsSound (with_item ledger name want.path.now content)
sound_put ledger name content want sound awaits within wanted =
    let path = want.path.now in
    let passes : Passes awaits.transfer.tags path content = wanted_passes awaits.transfer.tags path content want awaits.wanted within wanted in
    record {
      rising = subst AreRising (sym (item_names name path content ledger)) sound.rising;
      utf8 = λ other transfer there. elim (either other name (bytes_eq other name) refl) [
        | inl h ↦ subst IsUtf8 (sym h) (sound.utf8 name awaits.transfer awaits.there)
        | inr apart ↦ sound.utf8 other transfer (sym (item_others name path content other apart ledger) ∙ there)
      ];
      each = λ other transfer there. elim (either other name (bytes_eq other name) refl) [
        | inl h ↦ (
            let found : Some (holding awaits.transfer path content) ≡ Some transfer =
            ap (option_map (λ (t : Transfer). holding t path content)) (sym awaits.there) ∙ sym (item_here name path content ledger) ∙ ap (transfer_of (with_item ledger name path content)) (sym h) ∙ there in
            subst IsSoundTransfer (same_Some (holding awaits.transfer path content) transfer found) (holding_sound awaits.transfer path content passes (sound.each name awaits.transfer awaits.there))
            )
        | inr apart ↦ sound.each other transfer (sym (item_others name path content other apart ledger) ∙ there)
      ];
    }

-- what a call writes in memory
pub wrote : (such : Ledger → Type 0) (old new : Ledger) (change : Ledger → Ledger) → new ≡ change old → ((ledger : Ledger) → IsSound ledger → such ledger → IsSound (change ledger))
    → Writes HoldsItself (λ keeper ledger. ledger ≡ keeper) (λ keeper. Unit {0}) such old new change
wrote such old new change is sound = record {
  was_clean = λ clean. clean;
  held = λ clean ledger holds is_such. (ap change holds.0 ∙ sym is, sound ledger holds.1 is_such);
  left = λ clean ledger crashed holds is_such left. left ∙ is ∙ ap change (sym holds.0);
}

pub begins : (old new : Ledger) (name : List ℕ) (tags : Files) → new ≡ with_transfer old name tags → IsUtf8 name → AreTagFiles tags → Opens tags
    → Writes HoldsItself (λ keeper ledger. ledger ≡ keeper) (λ keeper. Unit {0}) (IsUnused name) old new (λ ledger. with_transfer ledger name tags)
begins old new name tags is text tag_files opens = wrote (IsUnused name) old new (λ ledger. with_transfer ledger name tags) is (λ ledger sound unused. sound_begun ledger name tags sound text tag_files opens)

pub puts : (old new : Ledger) (name content : List ℕ) (want : Want) → new ≡ with_item old name want.path.now content → length content ≤ LARGEST_ITEM → IsWanted want content
    → Writes HoldsItself (λ keeper ledger. ledger ≡ keeper) (λ keeper. Unit {0}) (Awaits name want) old new (λ ledger. with_item ledger name want.path.now content)
puts old new name content want is within wanted =
    wrote (Awaits name want) old new (λ ledger. with_item ledger name want.path.now content) is (λ ledger sound awaits. sound_put ledger name content want sound awaits within wanted)
