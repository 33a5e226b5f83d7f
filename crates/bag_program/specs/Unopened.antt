-- Why a ledger wasn't opened: the cause that is told besides its fault.
use Rattle.std.specs.Prelude.{◌≡◌, ◌≢◌, ◌⊎◌, ℕ, None, Option, Some, unwrap_or}
use Rattle.std.specs.Option.{option_map}
use Rattle.std.specs.IoError.{error_kind}
use Rattle.std.specs.declared.io.Error.{Error as SystemError}
use Rattle.std.specs.declared.io.ErrorKind.TheVariants.{OutOfMemory as NoMemory, Unsupported}
use Rattle.bag_ledger.specs.declared.keeper_faults.KeepFault.{KeepFault}
use Rattle.bag_ledger.specs.declared.keeper_faults.KeepFault.TheVariants as keep
use Rattle.bag_sqlite.specs.Refusing.{IsNoAnswer}
use Rattle.bag_sqlite.specs.declared.adopting.AdoptFault.{AdoptFault}
use Rattle.bag_sqlite.specs.declared.adopting.AdoptFault.TheVariants.{Damaged, Memory, NotALedger, Store}
use Rattle.sqlite.specs.declared.error.Error.{Error}
use Rattle.sqlite.specs.declared.error.Error.TheVariants.{SqliteFailure}
use Rattle.sqlite.specs.declared.error.ErrorCode.TheVariants.{CannotOpen, DatabaseCorrupt, NotADatabase, OutOfMemory}
use Rattle.sqlite_std_file.specs.declared.pair.OpenError.{OpenError}
use Rattle.sqlite_std_file.specs.declared.pair.OpenError.TheVariants as opening
use Rattle.bag_program.specs.declared.ledgers.locking.Barred.{Barred}
use Rattle.bag_program.specs.declared.ledgers.locking.Barred.TheVariants as barred
use Rattle.bag_program.specs.declared.ledgers.found_ledger.Found.{Found}
use Rattle.bag_program.specs.declared.ledgers.found_ledger.Found.TheVariants as found
use Rattle.bag_program.specs.declared.ledgers.ledger_cause.LedgerCause.{LedgerCause}
use Rattle.bag_program.specs.declared.ledgers.ledger_cause.LedgerCause.TheVariants.{Busy, Database, Empty, Journal, LogAlone, Missing, NeedsMemory, NoDatabase, NoLedger, NotFile, NotPlain, System}
use Rattle.bag_program.specs.declared.ledgers.unopened_ledger.Unopened.{Unopened}

-- the system's error: want of memory is told as such, and any other as it is
abbrev pub TellsSystem : SystemError → Barred → Type 0
TellsSystem error barred.Memory = error_kind error ≡ NoMemory
TellsSystem error (barred.For cause) = (error_kind error ≢ NoMemory) × (cause ≡ System error)

-- why the files of a ledger couldn't be opened and locked
abbrev pub TellsOpening : OpenError → Barred → Type 0
TellsOpening (opening.Io error) why =
    ((error_kind error ≡ Unsupported) × (why ≡ barred.For NotPlain))
    ⊎ ((error_kind error ≢ Unsupported) × TellsSystem error why)
TellsOpening opening.OutOfMemory why = why ≡ barred.Memory
TellsOpening opening.Busy why = why ≡ barred.For Busy
TellsOpening opening.HotJournal why = why ≡ barred.For Journal

-- what was seen in place of the file of a ledger
abbrev pub cause_seen : Found → LedgerCause
cause_seen found.Nothing = Missing
cause_seen found.Empty = Empty
cause_seen found.LogAlone = LogAlone
cause_seen _ = NotFile

-- A log alone is a store that can't be opened. Anything else is no ledger.
abbrev pub fault_seen : Found → AdoptFault
fault_seen found.LogAlone = Store (SqliteFailure CannotOpen)
fault_seen _ = NotALedger

-- why no connection was opened on files of this size, if it is known; of want of memory the size is told
abbrev pub cause_of_error : Option ℕ → Error → Option LedgerCause
cause_of_error size (SqliteFailure OutOfMemory) = option_map NeedsMemory size
cause_of_error size (SqliteFailure NotADatabase) = Some NoDatabase
cause_of_error size error = Some (Database error)

-- why the database was refused; damage is told by the fault
abbrev pub cause_of_fault : Option ℕ → AdoptFault → Option LedgerCause
cause_of_fault size NotALedger = Some NoLedger
cause_of_fault size (Damaged name path) = None
cause_of_fault size Memory = option_map NeedsMemory size
cause_of_fault size (Store error) = Some (Database error)

-- the store has failed, with this error if it told one; otherwise it gave what no sound database gives
abbrev pub cause_of_store : Option Error → LedgerCause
cause_of_store trouble = Database (unwrap_or trouble (SqliteFailure DatabaseCorrupt))

-- why no ledger was made; a store that failed and told no error is one that couldn't be opened
abbrev pub fault_unmade : KeepFault → Option Error → AdoptFault
fault_unmade keep.Memory trouble = Memory
fault_unmade (keep.Store why) trouble = Store (unwrap_or trouble (SqliteFailure CannotOpen))

abbrev pub cause_unmade : KeepFault → Option Error → Option LedgerCause
cause_unmade keep.Memory trouble = None
cause_unmade (keep.Store why) trouble = Some (cause_of_store trouble)

-- why a file couldn't be opened and locked
abbrev pub fault_barred : Barred → AdoptFault
fault_barred barred.Memory = Memory
fault_barred (barred.For cause) = Store (SqliteFailure CannotOpen)

abbrev pub cause_barred : Barred → Option LedgerCause
cause_barred barred.Memory = None
cause_barred (barred.For cause) = Some cause

-- memory ran out, of which at most a size is told, or the store failed, of which a cause is told
pub record HasNoAnswer {L : Type 0} (it : Unopened L) : Type 0 where
  pub no_answer : IsNoAnswer it.fault
  pub memory : it.fault ≡ Memory → (size : Option ℕ) × (it.cause ≡ option_map NeedsMemory size)
  pub store : (error : Error) → it.fault ≡ Store error
      → (cause : LedgerCause) × (it.cause ≡ Some cause)
