-- A map of transfers in memory, read as a ledger.
use Rattle.std.specs.Prelude.{◌≡◌, ℕ, List, Vec, map, string_bytes}
use Rattle.std.specs.BTreeMap.{BTreeMap}
use Rattle.std.specs.declared.alloc.Global.{Global}
use Rattle.std.specs.declared.string.String.{String}
use Rattle.bag_rules.specs.Files.{Files}
use Rattle.bag_ledger.specs.declared.stored.Stored.{Stored}
use Rattle.bag_ledger.specs.Ledgers.{IsSound, Ledger, Transfer}

-- each path with its octets
abbrev pub files_in : BTreeMap (List ℕ) (Vec ℕ Global) → Files
files_in items = map (λ (item : List ℕ × Vec ℕ Global). (item.0, item.1.items)) items.entries

abbrev pub transfer_in : Stored → Transfer
transfer_in stored = record { tags = stored.tags; items = files_in stored.items }

-- each name with its transfer
abbrev pub ledger_in : BTreeMap (String Global) Stored → Ledger
ledger_in transfers =
    map (λ (entry : String Global × Stored). (string_bytes entry.0, transfer_in entry.1))
    transfers.entries

-- a keeper in memory answers for the ledger that it is, and that ledger is sound
abbrev pub HoldsItself : Ledger → Ledger → Type 0
HoldsItself keeper ledger = (ledger ≡ keeper) × IsSound ledger

-- a crash leaves what it holds
abbrev pub IsLeft : Ledger → Ledger → Type 0
IsLeft keeper ledger = ledger ≡ keeper

-- it has returned what was put in it
abbrev pub IsClean : Ledger → Type 0
IsClean keeper = Unit {0}
