-- What the status of a report or of an audit says.
use Rattle.std.specs.Prelude.{◌≡◌, ℕ, List, Some}
use Rattle.bag_rules.specs.Transfers.{held_bag}
use Rattle.bag_rules.specs.Validity.{IsValid}
use Rattle.bag_ledger.specs.Ledgers.{Ledger, Transfer}
use Rattle.bag_receiver.specs.declared.receiver.Receiver.{Receiver}
use Rattle.bag_receiver.specs.TransferNames.{IsNamed}
use Rattle.bag_receiver.specs.Receivers.{SaysOfState}
use Rattle.bag_commands.specs.declared.status.TheConstants.{VALID}

-- the transfer with this name has a valid bag
abbrev pub HoldsValidBag : Ledger → List ℕ → Type 0
HoldsValidBag ledger name = (transfer : Transfer) × IsNamed ledger name (Some transfer)
    × IsValid (held_bag transfer.tags transfer.items)

-- If it is 0 and the keeper is clean, the transfer held a valid bag.
abbrev pub IsValidIfZero : {K : Type 0} → (K → Ledger → Type 0) → (K → Ledger → Type 0)
    → (K → Type 0) → List ℕ → Receiver K → Receiver K → ℕ → Type 0
IsValidIfZero holds may_leave clean name old new status = status ≡ VALID
    → SaysOfState holds may_leave clean old new (λ now. HoldsValidBag now.held name)
