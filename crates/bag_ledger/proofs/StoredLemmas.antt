-- How changes and look-ups in a map of transfers correspond to the ledger.
use Rattle.std.proofs.Common.{◌≡◌, ℕ, List, [], Option, Some, None, Bor, Vec, length, map, refl, sym, ap, ◌∙◌}
use Rattle.std.specs.BTreeMap.{BTreeMap, IsOrdered, get_by, insert_entry, is_at, keys}
use Rattle.std.specs.Cmp.Lexicographic.{slice_cmp}
use Rattle.std.specs.Map.{keys_of, lookup, set_value}
use Rattle.std.specs.Map.Iter.{deref, deref_pair}
use Rattle.std.specs.Option.{option_map, unwrap_or}
use Rattle.std.specs.Ordering.{nat_cmp}
use Rattle.std.specs.Str.{bytes_eq}
use Rattle.std.specs.String.{string_bytes, string_cmp}
use Rattle.std.specs.declared.alloc.Global.{Global}
use Rattle.std.specs.declared.string.String.{String}
use Rattle.std.specs.declared.cmp.Ordering.{Ordering}
use Rattle.std.proofs.lemmas.Map.Text.{is_eq-slice_cmp}
use Rattle.bag_rules.specs.Files.{Files}
use Rattle.bag_rules.specs.Plans.{sizes_of}
use Rattle.bag_rules.specs.declared.plan.ItemSize.{ItemSize}
use Rattle.bag_ledger.specs.declared.stored.Stored.{Stored}
use Rattle.bag_ledger.specs.Ledgers.{Transfer, begun, content_of, holding, items_of, tags_of, transfer_of, with_item, with_transfer}
use Rattle.bag_ledger.specs.Stored.{files_in, ledger_in, transfer_in}
use Rattle.bag_ledger.proofs.EntryLemmas.{changed_nowhere, changed_to_same, insert_shown, lookup_shown, map_twice, set_shown}

abbrev Items : Type 0
Items = BTreeMap (List ℕ) (Vec ℕ Global)

abbrev Transfers : Type 0
Transfers = BTreeMap (String Global) Stored

abbrev itself : List ℕ → List ℕ
itself path = path

abbrev pub body : Vec ℕ Global → List ℕ
body v = v.items

-- how a name is compared with the keys
abbrev pub by_name : List ℕ → String Global → Ordering
by_name name key = slice_cmp nat_cmp name (string_bytes key)

-- PAYLOAD FILES

pub file_at : (path : List ℕ) (items : Items) → lookup (bytes_eq path) (files_in items) ≡ option_map body (get_by (slice_cmp nat_cmp path) items)
file_at path items = lookup_shown itself body (is_at (slice_cmp nat_cmp path)) path (λ k. is_eq-slice_cmp path k) items.entries

pub file_added : (old new : Items) (path : List ℕ) (content : Vec ℕ Global) → new.entries ≡ insert_entry (slice_cmp nat_cmp) old.entries path content
    → files_in new ≡ insert_entry (slice_cmp nat_cmp) (files_in old) path content.items
file_added old new path content entries =
    ap (map (λ (item : List ℕ × Vec ℕ Global). (item.0, item.1.items))) entries ∙ insert_shown itself body (slice_cmp nat_cmp) (λ k q. refl) old.entries path content

-- TRANSFERS

pub transfer_at : (name : List ℕ) (transfers : Transfers) → transfer_of (ledger_in transfers) name ≡ option_map transfer_in (get_by (by_name name) transfers)
transfer_at name transfers = lookup_shown string_bytes transfer_in (is_at (by_name name)) name (λ k. is_eq-slice_cmp name (string_bytes k)) transfers.entries

pub transfer_added : (old new : Transfers) (key : String Global) (stored : Stored) (name : List ℕ) (tags : Files) → new.entries ≡ insert_entry string_cmp old.entries key stored
    → string_bytes key ≡ name → transfer_in stored ≡ begun tags → ledger_in new ≡ with_transfer (ledger_in old) name tags
transfer_added old new key stored name tags entries named is_begun =
    ap (map (λ (entry : String Global × Stored). (string_bytes entry.0, transfer_in entry.1))) entries
    ∙ insert_shown string_bytes transfer_in string_cmp (λ k q. refl) old.entries key stored
    ∙ (λ t. insert_entry (slice_cmp nat_cmp) (ledger_in old) (named t) (is_begun t))

pub new_transfer : (copy tags : Files) (items : Items) → copy ≡ tags → items.entries ≡ [] → transfer_in (record { tags = copy; items = items }) ≡ begun tags
new_transfer copy tags items same empty = λ t. record { tags = same t; items = ap (map (λ (item : List ℕ × Vec ℕ Global). (item.0, item.1.items))) empty t }

-- a payload file of a transfer that exists
pub item_added : (old new : Transfers) (name path content : List ℕ) (before after : Stored) → new.entries ≡ set_value (is_at (by_name name)) old.entries after → get_by (by_name name) old ≡ Some before
    → IsOrdered string_cmp old → transfer_in after ≡ holding (transfer_in before) path content → ledger_in new ≡ with_item (ledger_in old) name path content
item_added old new name path content before after entries there ordered one_more =
    ap (map (λ (entry : String Global × Stored). (string_bytes entry.0, transfer_in entry.1))) entries
    ∙ set_shown string_bytes transfer_in (is_at (by_name name)) name (λ k. is_eq-slice_cmp name (string_bytes k)) (λ transfer. holding transfer path content) string_cmp (λ k q. refl) old.entries before after there one_more ordered

-- a transfer with a payload file added
pub holds_one_more : (tags : Files) (old new : Items) (path : List ℕ) (content : Vec ℕ Global) → new.entries ≡ insert_entry (slice_cmp nat_cmp) old.entries path content
    → transfer_in (record { tags = tags; items = new }) ≡ holding (transfer_in (record { tags = tags; items = old })) path content.items
holds_one_more tags old new path content entries = λ t. record { tags = tags; items = file_added old new path content entries t }

pub holds_the_same : (tags : Files) (old new : Items) → new.entries ≡ old.entries → transfer_in (record { tags = tags; items = new }) ≡ transfer_in (record { tags = tags; items = old })
holds_the_same tags old new entries = λ t. record { tags = tags; items = ap (map (λ (item : List ℕ × Vec ℕ Global). (item.0, item.1.items))) entries t }

-- a payload file of a transfer that doesn't exist
pub item_nowhere : (transfers : Transfers) (name path content : List ℕ) → get_by (by_name name) transfers ≡ None → ledger_in transfers ≡ with_item (ledger_in transfers) name path content
item_nowhere transfers name path content absent =
    sym (changed_nowhere string_bytes transfer_in (is_at (by_name name)) name (λ k. is_eq-slice_cmp name (string_bytes k)) (λ transfer. holding transfer path content) transfers.entries absent)

-- a transfer that is written unchanged
pub same_stored : (old new : Transfers) (name : List ℕ) (before after : Stored) → new.entries ≡ set_value (is_at (by_name name)) old.entries after → get_by (by_name name) old ≡ Some before
    → IsOrdered string_cmp old → transfer_in after ≡ transfer_in before → ledger_in new ≡ ledger_in old
same_stored old new name before after entries there ordered same =
    ap (map (λ (entry : String Global × Stored). (string_bytes entry.0, transfer_in entry.1))) entries
    ∙ set_shown string_bytes transfer_in (is_at (by_name name)) name (λ k. is_eq-slice_cmp name (string_bytes k)) (λ transfer. transfer) string_cmp (λ k q. refl) old.entries before after there same ordered
    ∙ changed_to_same name (ledger_in old)

-- WHAT A TRANSFER HOLDS

pub held_at : (name path : List ℕ) (transfers : Transfers) (stored : Stored) → get_by (by_name name) transfers ≡ Some stored
    → content_of (ledger_in transfers) name path ≡ lookup (bytes_eq path) (files_in stored.items)
held_at name path transfers stored there =
    ap (λ (t : Option Transfer). lookup (bytes_eq path) (unwrap_or (option_map (λ (transfer : Transfer). transfer.items) t) [])) (transfer_at name transfers ∙ ap (option_map transfer_in) there)

pub held_nowhere : (name path : List ℕ) (transfers : Transfers) → get_by (by_name name) transfers ≡ None → content_of (ledger_in transfers) name path ≡ None
held_nowhere name path transfers absent =
    ap (λ (t : Option Transfer). lookup (bytes_eq path) (unwrap_or (option_map (λ (transfer : Transfer). transfer.items) t) [])) (transfer_at name transfers ∙ ap (option_map transfer_in) absent)

-- the path and the length of a payload file
abbrev pub size_shown : List ℕ × Vec ℕ Global → ItemSize
size_shown item = record { path = item.0; octets = length item.1.items }

pub sizes_shown : (items : Items) (yielded : List (Bor (List ℕ) × Bor (Vec ℕ Global))) → map deref_pair yielded ≡ items.entries
    → map (λ (item : Bor (List ℕ) × Bor (Vec ℕ Global)). size_shown (item.0.now, item.1.now)) yielded ≡ sizes_of (files_in items)
sizes_shown items yielded all =
    sym (map_twice deref_pair size_shown yielded)
    ∙ ap (map size_shown) all
    ∙ sym (map_twice (λ (item : List ℕ × Vec ℕ Global). (item.0, item.1.items)) (λ (item : List ℕ × List ℕ). record { path = item.0; octets = length item.1 }) items.entries)

pub names_shown : (transfers : Transfers) (yielded : List (Bor (String Global))) → map deref yielded ≡ keys transfers
    → map (λ (name : Bor (String Global)). string_bytes name.now) yielded ≡ keys_of (ledger_in transfers)
names_shown transfers yielded all =
    sym (map_twice deref string_bytes yielded)
    ∙ ap (map string_bytes) all
    ∙ map_twice (λ (entry : String Global × Stored). entry.0) string_bytes transfers.entries
    ∙ sym (map_twice (λ (entry : String Global × Stored). (string_bytes entry.0, transfer_in entry.1)) (λ (entry : List ℕ × Transfer). entry.0) transfers.entries)

tags_in : (found : Option Stored) → option_map (λ (transfer : Transfer). transfer.tags) (option_map transfer_in found) ≡ option_map (λ (stored : Stored). stored.tags) found
tags_in None = refl
tags_in (Some stored) = refl

items_in : (found : Option Stored) → unwrap_or (option_map (λ (transfer : Transfer). transfer.items) (option_map transfer_in found)) [] ≡ unwrap_or (option_map (λ (stored : Stored). files_in stored.items) found) []
items_in None = refl
items_in (Some stored) = refl

pub transfer_there : (name : List ℕ) (transfers : Transfers) (stored : Stored) → Some stored ≡ get_by (by_name name) transfers
    → transfer_of (ledger_in transfers) name ≡ Some (transfer_in stored)
transfer_there name transfers stored there = transfer_at name transfers ∙ ap (option_map transfer_in) (sym there)

pub tags_at : (name : List ℕ) (transfers : Transfers) (found : Option Stored) → found ≡ get_by (by_name name) transfers → tags_of (ledger_in transfers) name ≡ option_map (λ (stored : Stored). stored.tags) found
tags_at name transfers found there = ap (option_map (λ (transfer : Transfer). transfer.tags)) (transfer_at name transfers ∙ ap (option_map transfer_in) (sym there)) ∙ tags_in found

pub items_at : (name : List ℕ) (transfers : Transfers) (found : Option Stored) → found ≡ get_by (by_name name) transfers
    → items_of (ledger_in transfers) name ≡ unwrap_or (option_map (λ (stored : Stored). files_in stored.items) found) []
items_at name transfers found there =
    ap (λ (t : Option Transfer). unwrap_or (option_map (λ (transfer : Transfer). transfer.items) t) []) (transfer_at name transfers ∙ ap (option_map transfer_in) (sym there)) ∙ items_in found

pub none_is_not_some : (found : Option Transfer) (transfer : Transfer) → found ≡ Some transfer → found ≡ None → ⊥
none_is_not_some found transfer is absent = cc
