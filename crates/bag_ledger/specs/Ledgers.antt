-- What a ledger holds: transfers by name, each with its tag files and the payload files received so far.
use Rattle.std.specs.Prelude.{◌≡◌, ℕ, List, [], Option, Some, map, if◌then◌else◌}
use Rattle.std.specs.Option.{option_map, unwrap_or}
use Rattle.std.specs.Map.{keys_of, lookup}
use Rattle.std.specs.BTreeMap.{insert_entry}
use Rattle.std.specs.Ordering.{nat_cmp}
use Rattle.std.specs.Cmp.Lexicographic.{slice_cmp}
use Rattle.std.specs.Str.{IsUtf8, bytes_eq}
use Rattle.bag_rules.specs.Files.{AreTagFiles, Files}
use Rattle.bag_rules.specs.Opening.{Opens}
use Rattle.bag_rules.specs.Transfers.{AreHeldFor}
use Rattle.bag_rules.specs.Trees.{AreRising}

pub record Transfer : Type 0 where
  pub tags : Files
  pub items : Files

-- transfers in the order of their names, each name once
abbrev pub Ledger : Type 0
Ledger = List (List ℕ × Transfer)

-- the transfer with this name, if there is one
abbrev pub transfer_of : Ledger → List ℕ → Option Transfer
transfer_of ledger name = lookup (bytes_eq name) ledger

-- a transfer with these tag files and no payload files
abbrev pub begun : Files → Transfer
begun tags = record { tags = tags; items = [] }

-- the tag files of the transfer with this name
abbrev pub tags_of : Ledger → List ℕ → Option Files
tags_of ledger name = option_map (λ (transfer : Transfer). transfer.tags) (transfer_of ledger name)

-- the payload files that it holds; empty if there is no such transfer
abbrev pub items_of : Ledger → List ℕ → Files
items_of ledger name =
    unwrap_or (option_map (λ (transfer : Transfer). transfer.items) (transfer_of ledger name)) []

-- the content that it holds for this path
abbrev pub content_of : Ledger → List ℕ → List ℕ → Option (List ℕ)
content_of ledger name path = lookup (bytes_eq path) (items_of ledger name)

-- the ledger with a transfer added
abbrev pub with_transfer : Ledger → List ℕ → Files → Ledger
with_transfer ledger name tags = insert_entry (slice_cmp nat_cmp) ledger name (begun tags)

-- the transfer with a payload file added
abbrev pub holding : Transfer → List ℕ → List ℕ → Transfer
holding transfer path content = record transfer {
  items = insert_entry (slice_cmp nat_cmp) transfer.items path content;
}

-- the ledger with a payload file added to the transfer with this name
abbrev pub with_item : Ledger → List ℕ → List ℕ → List ℕ → Ledger
with_item ledger name path content =
    map (λ (entry : List ℕ × Transfer).
    (entry.0, if bytes_eq name entry.0 then holding entry.1 path content else entry.1)) ledger

-- WHAT A LEDGER MAY HOLD

-- the tag files can open a transfer, and the payload files are valid for them
pub record IsSoundTransfer (transfer : Transfer) : Type 0 where
  pub tag_files : AreTagFiles transfer.tags
  pub opens : Opens transfer.tags
  pub held : AreHeldFor transfer.tags transfer.items

-- the names are UTF-8 and in order, no name occurs twice, and each transfer is sound
pub record IsSound (ledger : Ledger) : Type 0 where
  pub rising : AreRising (keys_of ledger)
  pub utf8 : (name : List ℕ) (transfer : Transfer) → transfer_of ledger name ≡ Some transfer
      → IsUtf8 name
  pub each : (name : List ℕ) (transfer : Transfer) → transfer_of ledger name ≡ Some transfer
      → IsSoundTransfer transfer
