-- Ledgers in files: what is known of a keeper from what the files held when they were opened, and what is left in the
-- files when it is closed or the program stops.
use Rattle.std.specs.Prelude.{◌≡◌, ◌≢◌, ◌⊎◌, [], ℕ, Bool, IsTrue, None, Option, Some, false, true, ⊤}
use Rattle.bag_ledger.specs.Ledgers.{Ledger}
use Rattle.bag_sqlite.specs.Adopting.{IsVerified}
use Rattle.bag_sqlite.specs.LedgersInTables.{IsDatabaseOf, IsLedgerDatabase}
use Rattle.bag_sqlite.specs.NewTables.{IsLeft, MakesLedger}
use Rattle.bag_sqlite.specs.Migrating.{MigratesLedger}
use Rattle.bag_sqlite.specs.Refusing.{IsNoAnswer, RefusesToAdopt}
use Rattle.bag_sqlite.specs.SqlKeepers.{HoldsLedger, KeepsAlone}
use Rattle.bag_sqlite.specs.Tables.{First, Layout, Migrated, Second, no_schema}
use Rattle.bag_sqlite.specs.declared.adopting.AdoptFault.{AdoptFault}
use Rattle.bag_sqlite.specs.declared.adopting.AdoptFault.TheVariants.{NotALedger}
use Rattle.sqlite.specs.Closing.{HoldsAlone}
use Rattle.sqlite.specs.Effect.{IsDatabase}
use Rattle.sqlite.specs.Files.{FailsToClose, HoldsDatabase, IsBlankAs, IsClosed as HasNoNewOutcome, IsCleanLeft, IsOpened, LeavesFiles, file_state, image_of, over_files}
use Rattle.sqlite.specs.Held.{Held, IsNew}
use Rattle.sqlite.specs.Start.{FindsIn}
use Rattle.sqlite.specs.State.{HasCleanDisk, Survives}
use Rattle.sqlite.specs.Tree.{Trees}
use Rattle.sqlite.specs.declared.file.Leftover.{Leftover}
use Rattle.sqlite_disk.specs.declared.Disk.{Ghosts}
use Rattle.sqlite_disk.specs.declared.Files.{Files}
use Rattle.sqlite_disk.specs.Disk.{Only}
use Rattle.sqlite_store.specs.FileStore as files
use Rattle.sqlite_store.specs.declared.store.FileStore.{FileStore}
use Rattle.sqlite_trees.specs.View.{IsClean}
use Rattle.sqlite_wal.specs.Files.{outcomes}
use Rattle.sqlite_wal.specs.Reads.{AreClean}
use Rattle.sqlite_wal.specs.Recovery.{Image}
use Rattle.bag_program.specs.FoundFiles.{BarsMaking}
use Rattle.bag_program.specs.Unopened.{HasNoAnswer, cause_of_fault, cause_seen, fault_seen}
use Rattle.bag_program.specs.declared.ledgers.found_ledger.Found.TheVariants.{Empty, File, Nothing}
use Rattle.bag_program.specs.declared.ledgers.found_ledger.Seen.{Seen}
use Rattle.bag_program.specs.declared.ledgers.open_ledger.Closed.{Closed}
use Rattle.bag_program.specs.declared.ledgers.open_ledger.Closed.TheVariants as closed
use Rattle.bag_program.specs.declared.ledgers.open_ledger.Uncopied.{Uncopied}
use Rattle.bag_program.specs.declared.ledgers.unopened_ledger.Left.{Left}
use Rattle.bag_program.specs.declared.ledgers.unopened_ledger.Left.TheVariants as left
use Rattle.bag_program.specs.declared.ledgers.ledger_cause.LedgerCause.{LedgerCause}
use Rattle.bag_program.specs.declared.ledgers.ledger_cause.LedgerCause.TheVariants.{LogStays, NoDatabase as IsNoDatabase}
use Rattle.bag_program.specs.declared.ledgers.unopened_ledger.Unopened.{Unopened}

-- WHAT IS SEEN

-- the same names were seen again once both were locked
abbrev pub WasSeenBefore : Seen → Seen → Type 0
WasSeenBefore seen again = (again.name ≡ seen.name) × (again.log ≡ seen.log)
    × (again.before ≡ Some seen.found)

-- nothing was there before both were locked, and then a file of zero octets without a log
abbrev pub IsNewFile : Seen → Type 0
IsNewFile seen = (seen.before ≡ Some Nothing) × (seen.found ≡ Empty) × (seen.log_size ≡ 0)

-- OPENING OR MAKING

-- the first if it was opened, and the second if it was made
abbrev pub OpensOrMakes : Bool → Type 0 → Type 0 → Type 0
OpensOrMakes is_made opens makes =
    ((is_made ≡ false) × opens) ⊎ ((is_made ≡ true) × makes)

-- WHAT THE FILES HOLD

-- the file and its log hold the database of this ledger
abbrev pub HoldsLedgerIn : Image → Ledger → Type 0
HoldsLedgerIn image ledger =
    (db : Trees) × ∥ HoldsDatabase image db ∥₁ × IsLedgerDatabase db ledger

-- they do, with these tables
abbrev pub HoldsLedgerAs : Image → Layout → Ledger → Type 0
HoldsLedgerAs image layout ledger =
    (db : Trees) × ∥ HoldsDatabase image db ∥₁ × IsDatabaseOf layout db ledger

-- the same tables, or those of format 2 that were made beside those of format 1
abbrev pub IsMovedTo : Layout → Layout → Type 0
IsMovedTo old new = (new ≡ old) ⊎ ((old ≡ First) × (new ≡ Second Migrated))

-- they hold a database without tables, indexes or views
abbrev pub HoldsNoTables : Image → Type 0
HoldsNoTables image = (db : Trees) × ∥ HoldsDatabase image db ∥₁
    × IsDatabase (record { schema = no_schema; trees = db })

-- they do, and so does the file without its log
pub record HoldsLedgerAlone (image : Image) (ledger : Ledger) : Type 0 where
  pub both : HoldsLedgerIn image ledger
  pub alone : HoldsLedgerIn (record image { log = [] }) ledger

-- both can be read and written, they hold this, and so they do after a crash
pub record AreOpenOn {D : Type 0} (g : Ghosts D) (image : Image) (files : Files D) : Type 0 where
  pub log : IsTrue (g.is_usable files.log)
  pub db : IsTrue (g.is_usable files.db)
  pub holds : image_of g files ≡ image
  pub log_only : Only image.log (g.may_leave files.log)
  pub db_only : Only image.db (g.may_leave files.db)

module _ {D : Type 0} {g : Ghosts D} where
  -- OPENING

  -- A connection was opened on what the files held. It counts no steps, and a database that is new
  -- in the files has no sums of the kit's own.
  pub record IsConnectedTo (image : Image) (opened : Held (FileStore D g)) : Type 0 where
    pub fresh : IsNew opened
    pub shows : HasCleanDisk (file_state opened)
        → FindsIn image (file_state opened) × IsOpened opened
    pub sums : HasCleanDisk (file_state opened) → IsBlankAs false image
        → (files.view opened.store).has_sums ≡ false

  -- it has tables, indexes or views
  abbrev pub HasTables : Held (FileStore D g) → Type 0
  HasTables opened = (file_state opened).now.schema ≢ no_schema

  -- its database was verified, and a ledger that the files held is what the keeper holds, and a
  -- crash leaves that ledger alone
  pub record IsAdoption (image : Image) (opened kept : Held (FileStore D g)) : Type 0 where
    pub verified : IsVerified (over_files {D = D} {g = g}) (file_state opened).committed
    pub keeps : (ledger : Ledger) → HoldsLedgerIn image ledger
        → KeepsAlone (file_state kept) ledger

  -- it had no tables, and the keeper holds the ledger without transfers, and a crash leaves that
  -- ledger alone
  pub record IsMaking (opened kept : Held (FileStore D g)) : Type 0 where
    pub none : (file_state opened).now.schema ≡ no_schema
    pub keeps : KeepsAlone (file_state kept) []

  -- the ledger that was opened is committed in format 2, if it was of format 1
  abbrev pub Migrates : Held (FileStore D g) → Trees → Type 0
  Migrates opened = MigratesLedger (over_files {D = D} {g = g}) (file_state opened)

  -- the keeper adopted a connection that was opened on what the files held
  pub record IsAdoptedFrom (image : Image) (kept : Held (FileStore D g)) : Type 0 where
    pub opened : Held (FileStore D g)
    pub connected : IsConnectedTo image opened
    pub survives : Survives (file_state opened) (file_state kept) (Migrates opened)
    pub adopts : HasCleanDisk (file_state kept) → IsAdoption image opened kept

  -- the keeper was made in a connection that was opened on what the files held
  pub record IsMadeIn (image : Image) (kept : Held (FileStore D g)) : Type 0 where
    pub opened : Held (FileStore D g)
    pub connected : IsConnectedTo image opened
    pub survives : Survives (file_state opened) (file_state kept) (MakesLedger (file_state opened))
    pub makes : HasCleanDisk (file_state kept) → IsMaking opened kept

  -- LEAVING

  -- The log was copied into the file. After a crash too, the files hold the ledger that the keeper
  -- held, and so does the file without its log.
  abbrev pub IsClosed : Held (FileStore D g) → Files D → Type 0
  IsClosed kept files = AreClean g files.log files.db → (ledger : Ledger)
      → HoldsLedger (file_state kept) ledger → (image : Image)
      → (image ≡ image_of g files) ⊎ outcomes g files.log files.db image
      → HoldsLedgerAlone image ledger

  -- if the program stops now, the disk may leave this of the files
  abbrev pub MayBeLeft : Held (FileStore D g) → Image → Type 0
  MayBeLeft kept image = (files.state kept.store).may_leave image

  -- the program stopped with this connection, and the files hold a database that it may have left
  abbrev pub IsStopOf : Held (FileStore D g) → Image → Type 0
  IsStopOf kept image =
      (db : Trees) × (file_state kept).may_leave db × ∥ HoldsDatabase image db ∥₁

-- the file without its log holds the database that both hold, now and after a crash
abbrev pub HasCopiedLog : {D : Type 0} → (g : Ghosts D) → Files D → Type 0
HasCopiedLog g files = AreClean g files.log files.db
    → (db : Trees) × HoldsAlone (image_of g files) db
    × ((image : Image) → outcomes g files.log files.db image → HoldsAlone image db)

-- The log wasn't copied, since memory ran out, or the store failed then or had failed. A crash leaves what it could
-- leave before.
pub record IsUncopied {D : Type 0} {g : Ghosts D} (kept : Held (FileStore D g))
    (left : Uncopied D g) : Type 0 where
  pub same : HasNoNewOutcome kept left.store
  pub why : IsClean (files.view left.store) → FailsToClose kept left.store left.error

-- the log stays beside the file, which doesn't hold all of the ledger alone
abbrev pub IsApart : {D : Type 0} {g : Ghosts D} → Closed D g → Type 0
IsApart (closed.Copied files) = ⊥
IsApart (closed.Uncopied left) = ⊤
IsApart (closed.Removed same) = ⊥

-- what is told of that
abbrev pub TellsLeft : {D : Type 0} {g : Ghosts D} → Closed D g → Option LedgerCause → Type 0
TellsLeft (closed.Uncopied left) told = told ≡ Some (LogStays left.error)
TellsLeft others told = told ≡ None

-- What is left by this keeper: the log was copied; or what a crash leaves is what it could leave; or the files were
-- removed, and it held no transfer.
abbrev pub IsLeftBy : {D : Type 0} {g : Ghosts D} → Held (FileStore D g) → Closed D g → Type 0
IsLeftBy kept (closed.Copied files) = IsClosed kept files
IsLeftBy kept (closed.Uncopied left) = IsUncopied kept left
IsLeftBy kept (closed.Removed same) = (same ≡ kept)
    × (HasCleanDisk (file_state kept) → HoldsLedger (file_state kept) [])

-- REFUSING

-- why no ledger was opened from what the files held, and what is left of them
module _ {D : Type 0} {g : Ghosts D} (image : Image) where
  -- A connection was opened on what the files held. What it had committed is what is left, and a
  -- crash leaves what it could leave, or what this allows.
  pub record IsHandedBack (opened left : Held (FileStore D g)) (Commits : Trees → Type 0)
      : Type 0 where
    pub connected : IsConnectedTo image opened
    pub survives : Survives (file_state opened) (file_state left) Commits
    pub same : HasCleanDisk (file_state left) → IsLeft (file_state opened) (file_state left)

  -- The database was refused for this reason. If it is that of a ledger, memory ran out or the
  -- store failed.
  pub record IsRefusal (fault : AdoptFault) (opened : Held (FileStore D g)) : Type 0 where
    pub reason : RefusesToAdopt (over_files {D = D} {g = g}) (file_state opened).committed fault
    pub own : (ledger : Ledger) → HoldsLedgerIn image ledger → IsNoAnswer fault

module _ {S D : Type 0} (g : Ghosts D) (image : Image) where
  -- The files are as they were. In a database without tables, a ledger without transfers may have
  -- been made all the same.
  abbrev pub IsAsItWas : Left S D g → Type 0
  IsAsItWas (left.Unused start) = ⊤
  IsAsItWas (left.NotLocked why) = ⊤
  IsAsItWas (left.Files rest) = (files : Files D) × AreOpenOn g image files
      × (IsCleanLeft rest → LeavesFiles files rest)
  IsAsItWas (left.Database connection) = (opened : Held (FileStore D g))
      × ((file_state opened).now.schema ≡ no_schema)
      × IsHandedBack image opened connection (MakesLedger (file_state opened))

  -- Memory ran out, or the store failed; or something else was seen in place of a file; or the
  -- files hold no database; or its database was refused. The last two are said of what was opened,
  -- if the store returned what was written to it.
  pub data IsUnopened (it : Unopened (Left S D g)) (is_none : Seen → Type 0)
      (may_refuse : Held (FileStore D g) → Type 0) : Type 0 where
    NoAnswer : HasNoAnswer it → IsAsItWas it.left → IsUnopened it is_none may_refuse
    NoFile : (seen : Seen) → it.seen ≡ Some seen → is_none seen
        → it.fault ≡ fault_seen seen.found → it.cause ≡ Some (cause_seen seen.found)
        → IsAsItWas it.left → IsUnopened it is_none may_refuse
    NoDatabase : (rest : Leftover D g) → it.left ≡ left.Files rest
        → (IsCleanLeft rest → (db : Trees) → ¬ HoldsDatabase image db) → it.fault ≡ NotALedger
        → it.cause ≡ Some IsNoDatabase → IsAsItWas it.left → IsUnopened it is_none may_refuse
    Refused : (opened refused : Held (FileStore D g)) → it.left ≡ left.Database refused
        → may_refuse opened → IsHandedBack image opened refused (Migrates opened)
        → (HasCleanDisk (file_state refused) → IsRefusal image it.fault opened)
        → (size : Option ℕ) → it.cause ≡ cause_of_fault size it.fault
        → IsUnopened it is_none may_refuse

  -- no database was opened to be a ledger, nor was it seen that there is none
  abbrev pub IsUnused : Unopened (Left S D g) → Type 0
  IsUnused it = IsUnopened it (λ _. ⊥) (λ _. ⊥)

  -- no ledger was opened
  abbrev pub IsUnopenedFile : Unopened (Left S D g) → Type 0
  IsUnopenedFile it = IsUnopened it (λ seen. seen.found ≢ File) (λ _. ⊤)

  -- no ledger was opened or made; a database without tables isn't refused
  abbrev pub IsUnmadeFile : Unopened (Left S D g) → Type 0
  IsUnmadeFile it = IsUnopened it (λ seen. BarsMaking seen.found) HasTables
