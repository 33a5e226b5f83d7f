-- What is found at the name of a ledger, beside its log.
use Rattle.std.specs.Prelude.{◌≡◌, ◌⊎◌, ◌<◌, ◌≤◌, ℕ}
use Rattle.bag_program.specs.declared.ledgers.found_ledger.Found.{Found}
use Rattle.bag_program.specs.declared.ledgers.found_ledger.Found.TheVariants.{Empty, LogAlone, Nothing, Other}
use Rattle.bag_program.specs.declared.ledgers.found_ledger.TheConstants.{NEW_LOG}

-- where nothing was found, or a file of zero octets, the log has no more octets than that of a new ledger; if it has
-- more, it is alone
abbrev pub IsBesideLog : Found → ℕ → Type 0
IsBesideLog found log_size = ((found ≡ Nothing) ⊎ (found ≡ Empty) → log_size ≤ NEW_LOG)
    × (found ≡ LogAlone → NEW_LOG < log_size)

-- no database can be made here, or none may be made, since a log is what is left of a ledger
abbrev pub BarsMaking : Found → Type 0
BarsMaking found = (found ≡ Other) ⊎ (found ≡ LogAlone)
