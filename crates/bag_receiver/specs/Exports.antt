-- The bag of a transfer, as a sink holds it after an export.
use Rattle.std.specs.Prelude.{◌≡◌, ◌+◌, ◌++◌, ℕ, List, Option, Some, None, Result, Ok, Err, length}
use Rattle.bag_rules.specs.Bags.{HoldsFile}
use Rattle.bag_rules.specs.Transfers.{held_bag}
use Rattle.bag_writer.specs.Sinks.{Begun, Stored, nothing_stored}
use Rattle.bag_ledger.specs.Ledgers.{Ledger, Transfer}
use Rattle.bag_receiver.specs.TransferNames.{IsNamed}
use Rattle.bag_receiver.specs.declared.export.ExportFault.{ExportFault}
use Rattle.bag_receiver.specs.declared.export.ExportFault.TheVariants.{NoTransfer}

-- the bag of the transfer with this name holds these octets at the path
abbrev pub IsFileOf : Ledger → List ℕ → List ℕ → List ℕ → Type 0
IsFileOf ledger name path octets = (transfer : Transfer) × IsNamed ledger name (Some transfer)
    × HoldsFile (held_bag transfer.tags transfer.items) path octets

-- the whole bag of the transfer is there, and no file is open
pub record HasBag (transfer : Transfer) (stored : Stored) : Type 0 where
  pub bag : stored.bag ≡ held_bag transfer.tags transfer.items
  pub none_begun : stored.begun ≡ None

-- part of the bag is there: some of its files, and the front of one more
pub record HasPart (ledger : Ledger) (name : List ℕ) (stored : Stored) : Type 0 where
  pub files : (path octets : List ℕ) → HoldsFile stored.bag path octets
      → IsFileOf ledger name path octets
  pub begun : (file : Begun) → stored.begun ≡ Some file
      → (rest : List ℕ) × IsFileOf ledger name file.path (file.octets ++ rest)

-- what a sink holds afterwards, if it was empty before and its content is known
abbrev pub Becomes : (Stored → Type 0) → Option Stored → Option Stored → Type 0
Becomes such old new = old ≡ Some nothing_stored → (stored : Stored) × (new ≡ Some stored)
    × such stored

-- The bag of the transfer with this name was exported, and it has this many files; or part of it was, before a fault;
-- or there is no such transfer.
abbrev pub Exports : Ledger → List ℕ → Result ℕ ExportFault → Option Stored → Option Stored
    → Type 0
Exports ledger name (Ok count) old new = (transfer : Transfer)
    × IsNamed ledger name (Some transfer)
    × (count ≡ length transfer.tags + length transfer.items)
    × Becomes (HasBag transfer) old new
Exports ledger name (Err NoTransfer) old new = IsNamed ledger name None
Exports ledger name (Err fault) old new = Becomes (HasPart ledger name) old new
