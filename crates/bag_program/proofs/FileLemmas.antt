-- From what the files hold to what a keeper holds, and back.
use Rattle.std.proofs.Common.{◌≡◌, ◌≢◌, ◌⊎◌, ◌∙◌, ◌∷◌, [], ℕ, Bool, Err, IsTrue, MatchResult, None, Ok, Option, Result, Some, ap, arith, false, inl, inr, length, refl, subst, sym, true}
use Rattle.std.proofs.Math.Logic.{∥∥₁_elim, ∥∥₁_map}
use Rattle.std.specs.Option.{option_map}
use Rattle.bag_ledger.specs.Ledgers.{Ledger}
use Rattle.bag_ledger.specs.declared.keeper_faults.KeepFault.{KeepFault}
use Rattle.bag_ledger.specs.declared.keeper_faults.KeepFault.TheVariants as keep
use Rattle.bag_receiver.specs.Receivers.{IsKept}
use Rattle.bag_receiver.specs.LedgerStates.{LedgerState}
use Rattle.bag_rules.specs.Faults.{Has}
use Rattle.bag_sqlite.specs.Adopting.{HasFormat}
use Rattle.bag_sqlite.specs.LedgersInTables.{AreTablesOf, IsDatabaseOf, IsLedgerDatabase}
use Rattle.bag_sqlite.specs.Migrating.{MigratesLedger}
use Rattle.bag_sqlite.specs.NewTables.{MakesLedger}
use Rattle.bag_sqlite.specs.Refusing.{IsNoAnswer, adopt_fault}
use Rattle.bag_sqlite.specs.SqlKeepers.{HoldsLedger, IsOpenedOn, MayLeaveLedger, ShowsLedger}
use Rattle.bag_sqlite.specs.Tables.{First, Layout, Migrated, New, no_schema, schema_of, Second}
use Rattle.bag_sqlite.proofs.CommitLemmas.{LeavesLastCommit}
use Rattle.bag_sqlite.proofs.NoLedgerLemmas.{named_first}
use Rattle.bag_sqlite.proofs.OneDatabase.{listed_schema}
use Rattle.bag_sqlite.specs.declared.adopting.AdoptFault.{AdoptFault}
use Rattle.bag_sqlite.specs.declared.adopting.AdoptFault.TheVariants.{Memory, Store}
use Rattle.sqlite.proofs.Theorems.{opens_again}
use Rattle.sqlite.specs.Closing.{HoldsAlone, IsCopied}
use Rattle.sqlite.specs.Effect.{Database, IsDatabase}
use Rattle.sqlite.specs.Files.{FailsToOpenFiles, HoldsDatabase, IsCleanLeft, LeavesFiles, file_state, image_of}
use Rattle.sqlite.specs.Held.{Held}
use Rattle.sqlite.specs.Schema.{Schema}
use Rattle.sqlite.specs.Start.{FindsIn}
use Rattle.sqlite.specs.Opening.{is_open_error}
use Rattle.sqlite.specs.State.{HasCleanDisk, IsLive, Opens, State, Survives, store_error}
use Rattle.sqlite.specs.Store.{Ghosts as StoreGhosts}
use Rattle.sqlite.specs.Tree.{Trees}
use Rattle.sqlite.specs.declared.error.Error.{Error}
use Rattle.sqlite.specs.declared.error.Error.TheVariants.{ExecuteReturnedResults, InvalidParameterCount, InvalidQuery, MultipleStatement, QueryReturnedNoRows, SqliteFailure}
use Rattle.sqlite.specs.declared.error.ErrorCode.TheVariants.{DiskFull, NotADatabase, OutOfMemory}
use Rattle.sqlite.specs.declared.file.Leftover.{Leftover}
use Rattle.sqlite.specs.declared.file.Leftover.TheVariants as leftover
use Rattle.sqlite_disk.specs.declared.Disk.{Ghosts}
use Rattle.sqlite_disk.specs.declared.Files.{Files}
use Rattle.sqlite_store.specs.FileStore.{view}
use Rattle.sqlite_store.specs.declared.store.FileStore.{FileStore}
use Rattle.sqlite_trees.specs.Props.{Trees-set}
use Rattle.sqlite_trees.specs.declared.error.StoreError.{StoreError}
use Rattle.sqlite_trees.specs.declared.error.StoreError.TheVariants.{Broken, Corrupt, Full, Io, Unstorable}
use Rattle.sqlite_trees.specs.declared.error.StoreError.TheVariants as store_fault
use Rattle.sqlite_wal.specs.Files.{outcomes}
use Rattle.sqlite_wal.specs.Recovery.{Image}
use Rattle.bag_program.specs.LedgerFiles.{AreOpenOn, HoldsLedgerAlone, HoldsLedgerAs, HoldsLedgerIn, IsAsItWas, IsHandedBack, IsMovedTo, IsRefusal, IsStopOf, IsUnopened, IsUnused, MayBeLeft, Migrates, NoAnswer, NoDatabase, NoFile, OpensOrMakes, Refused as WasRefused}
use Rattle.bag_program.specs.Unopened.{HasNoAnswer, cause_barred, cause_of_error, cause_of_fault, cause_of_store, cause_unmade, fault_barred, fault_unmade}
use Rattle.bag_program.specs.declared.ledgers.locking.Barred.{Barred}
use Rattle.bag_program.specs.declared.ledgers.locking.Barred.TheVariants as why
use Rattle.bag_program.specs.declared.ledgers.found_ledger.Seen.{Seen}
use Rattle.bag_program.specs.declared.ledgers.unopened_ledger.Left.{Left}
use Rattle.bag_program.specs.declared.ledgers.unopened_ledger.Left.TheVariants as left
use Rattle.bag_program.specs.declared.ledgers.ledger_cause.LedgerCause.{LedgerCause}
use Rattle.bag_program.specs.declared.ledgers.ledger_cause.LedgerCause.TheVariants.{NeedsMemory}
use Rattle.bag_program.specs.declared.ledgers.unopened_ledger.Unopened.{Unopened}

-- what a connection that was opened found
pub opened_on : (image : Image) (s : State) (ledger : Ledger) → FindsIn image s → Opens s × IsLive s → HoldsLedgerIn image ledger → IsOpenedOn s ledger
opened_on image s ledger found opens held =
    let same : s.committed.trees ≡ held.0 = ∥∥₁_elim held.1 (Trees-set _ _) (found.holds held.0) in
    record { opens = opens.0; live = opens.1; database = subst (λ (t : Trees). IsLedgerDatabase t ledger) (sym same) held.2 }

module _ (image : Image) (s stopped : State) (settled : LeavesLastCommit s) (found : FindsIn image s) (opens : Opens s) (live : IsLive s) (clean : HasCleanDisk stopped) where
  -- what a stop left of a ledger that was opened: the same tables, or those that it was moved to
  pub stays : {S : Type 0} (g : StoreGhosts S) (layout : Layout) (ledger : Ledger) → HoldsLedgerAs image layout ledger → Survives s stopped (MigratesLedger g s)
      → (trees : Trees) → stopped.may_leave trees → (left : Layout) × IsMovedTo layout left × IsDatabaseOf left trees ledger
  stays g layout ledger held survives trees may =
      let same : s.committed.trees ≡ held.0 = ∥∥₁_elim held.1 (Trees-set _ _) (found.holds held.0) in
      let is : IsDatabaseOf layout s.committed.trees ledger = subst (λ (t : Trees). IsDatabaseOf layout t ledger) (sym same) held.2 in
      let schema : s.committed.schema ≡ schema_of layout = sym (listed_schema layout s.committed.schema s.committed.trees is.listed (live opens.is_open).1) in
      elim (survives.crash clean trees may) [
        | inl before ↦ (layout, inl refl, subst (λ (t : Trees). IsDatabaseOf layout t ledger) (sym (settled trees opens.is_open before)) is)
        | inr moves ↦
            let first = named_first g s.committed layout ledger schema is.tables moves.0 in
            let shows : ShowsLedger First s ledger = subst (λ l. ShowsLedger l s ledger) first (record {
              schema_is = ap (λ (d : Database). d.schema) opens.clean ∙ schema;
              database = subst (λ (d : Database). IsDatabaseOf layout d.trees ledger) (sym opens.clean) is;
              committed = sym opens.clean;
            }) in
            (Second Migrated, inr (first, refl), moves.1.1 ledger shows)
      ]

  -- what a stop left of a making: a database without tables, or a ledger without transfers
  pub made_or_none : s.now.schema ≡ no_schema → Survives s stopped (MakesLedger s) → (trees : Trees) → stopped.may_leave trees
      → IsDatabase (record { schema = no_schema; trees = trees }) ⊎ IsLedgerDatabase trees []
  made_or_none none survives trees may =
      elim (survives.crash clean trees may) [
        | inl before ↦
            let is : IsDatabase (record { schema = no_schema; trees = s.committed.trees }) =
            subst (λ (schema : Schema). IsDatabase (record { schema = schema; trees = s.committed.trees })) (ap (λ (d : Database). d.schema) (sym opens.clean) ∙ none) (live opens.is_open).1 in
            inl (subst (λ (t : Trees). IsDatabase (record { schema = no_schema; trees = t })) (sym (settled trees opens.is_open before)) is)
        | inr makes ↦ inr (Second New, makes.1)
      ]

-- the database of a ledger has tables
pub has_tables : (l : Layout) → schema_of l ≢ no_schema
has_tables First none = absurd (let four : 4 ≡ 0 = ap (λ (schema : Schema). length schema.tables) none in omega (arith, four))
has_tables (Second New) none = absurd (let five : 5 ≡ 0 = ap (λ (schema : Schema). length schema.tables) none in omega (arith, five))
has_tables (Second Migrated) none = absurd (let six : 6 ≡ 0 = ap (λ (schema : Schema). length schema.tables) none in omega (arith, six))

module _ {D : Type 0} {g : Ghosts D} (kept : Held (FileStore D g)) where
  -- what a close left
  pub left_alone : (files : Files D) (ledger : Ledger) (image : Image) → IsCopied kept files → HoldsLedger (file_state kept) ledger → (image ≡ image_of g files) ⊎ outcomes g files.log files.db image
      → HoldsLedgerAlone image ledger
  left_alone files ledger image copied holds is =
      let (o, shows) = holds.shows copied.was_open in
      let stored = subst (λ (d : Database). IsDatabaseOf (Second o) d.trees ledger) (sym shows.committed) shows.database in
      let database : IsLedgerDatabase (file_state kept).committed.trees ledger = (Second o, stored) in
      let there : HoldsAlone image (file_state kept).committed.trees = elim is [ inl same ↦ subst (λ i. HoldsAlone i (file_state kept).committed.trees) (sym same) copied.seen | inr may ↦ copied.left image may ] in
      record { both = (_, there.both, database); alone = (_, there.alone, database) }

  -- what a stop left
  pub left_by_stop : (now : LedgerState) (image : Image) → IsKept (λ (c : Held (FileStore D g)). HoldsLedger (file_state c)) (λ c. MayLeaveLedger (file_state c)) kept now → IsStopOf kept image
      → (left : Ledger) × Has (now.held ∷ now.doubtful) left × HoldsLedgerIn image left
  left_by_stop now image is stop =
      let found = is.held.outcomes stop.0 stop.1 in
      let left : Ledger = found.0 in
      let may : MayLeaveLedger (file_state kept) left = (stop.0, stop.1, found.1) in
      let has : Has (now.held ∷ now.doubtful) left = elim (is.left left may) [ inl same ↦ inl (sym same) | inr doubtful ↦ inr doubtful ] in
      (left, has, (stop.0, stop.2, found.1))

  -- what the disk may leave
  pub stop_of : (ledger : Ledger) → HoldsLedger (file_state kept) ledger → (image : Image) → IsTrue (view kept.store).is_numbered → MayBeLeft kept image → ∥ IsStopOf kept image ∥₁
  stop_of ledger holds image numbered may =
      ∥∥₁_map (opens_again kept.store numbered (λ db recovers. let it = holds.outcomes db recovers in (schema_of it.1.0, it.1.1.listed)) image may)
      (λ it. let r : IsStopOf kept image = (it.0, it.1, ∣ it.2 ∣₁) in r)

-- NO CONNECTION

-- an error of an opening says that there is no database, or it is memory or the store
told_as : (error : Error) → IsTrue (is_open_error error) → (error ≡ SqliteFailure NotADatabase) ⊎ IsNoAnswer (adopt_fault error)
told_as (SqliteFailure OutOfMemory) is = inr tt
told_as (SqliteFailure NotADatabase) is = inl refl
told_as (SqliteFailure code) is = inr tt
told_as (InvalidParameterCount given wanted) is = inr tt
told_as ExecuteReturnedResults is = inr tt
told_as InvalidQuery is = inr tt
told_as MultipleStatement is = inr tt
told_as QueryReturnedNoRows is = inr tt
told_as error is = absurd (let e : false ≡ true = is in cc)

-- of want of memory the size is told
sized : (size : Option ℕ) (error : Error) → adopt_fault error ≡ Memory → cause_of_error size error ≡ option_map NeedsMemory size
sized size (SqliteFailure OutOfMemory) is = refl
sized size (SqliteFailure NotADatabase) is = cc
sized size (SqliteFailure code) is = cc
sized size (InvalidParameterCount given wanted) is = cc
sized size ExecuteReturnedResults is = cc
sized size InvalidQuery is = cc
sized size MultipleStatement is = cc
sized size QueryReturnedNoRows is = cc
sized size error is = cc

-- and a cause is told if the store failed
told : (size : Option ℕ) (error shown : Error) → adopt_fault error ≡ Store shown → (cause : LedgerCause) × (cause_of_error size error ≡ Some cause)
told size (SqliteFailure OutOfMemory) shown is = absurd cc
told size (SqliteFailure NotADatabase) shown is = absurd cc
told size (SqliteFailure code) shown is = (_, refl)
told size (InvalidParameterCount given wanted) shown is = (_, refl)
told size ExecuteReturnedResults shown is = (_, refl)
told size InvalidQuery shown is = (_, refl)
told size MultipleStatement shown is = (_, refl)
told size QueryReturnedNoRows shown is = (_, refl)
told size error shown is = absurd cc

no_fault : (kind : StoreError) → store_error kind ≢ SqliteFailure NotADatabase
no_fault store_fault.OutOfMemory e = cc
no_fault Io e = cc
no_fault Corrupt e = cc
no_fault Full e = cc
no_fault Broken e = cc
no_fault Unstorable e = cc

-- what is told of a cause that was barred
pub barred : {L : Type 0} (it : Unopened L) (why : Barred) → it.fault ≡ fault_barred why → it.cause ≡ cause_barred why → HasNoAnswer it
barred it why.Memory fault cause = record { no_answer = subst IsNoAnswer (sym fault) tt; memory = λ is. (None, cause); store = λ error is. absurd (let e = sym fault ∙ is in cc) }
barred it (why.For given) fault cause = record { no_answer = subst IsNoAnswer (sym fault) tt; memory = λ is. absurd (let e = sym fault ∙ is in cc); store = λ error is. (given, cause) }

pub unmade : {L : Type 0} (it : Unopened L) (fault : KeepFault) (trouble : Option Error) → it.fault ≡ fault_unmade fault trouble → it.cause ≡ cause_unmade fault trouble → HasNoAnswer it
unmade it keep.Memory trouble fault cause = record { no_answer = subst IsNoAnswer (sym fault) tt; memory = λ is. (None, cause); store = λ error is. absurd (let e = sym fault ∙ is in cc) }
unmade it (keep.Store kind) trouble fault cause = record { no_answer = subst IsNoAnswer (sym fault) tt; memory = λ is. absurd (let e = sym fault ∙ is in cc); store = λ error is. (cause_of_store trouble, cause) }

module _ {D : Type 0} (g : Ghosts D) (image : Image) where
  -- it failed because the files hold no database
  no_database : (files : Files D) (left : Leftover D g) → image_of g files ≡ image → FailsToOpenFiles files left (SqliteFailure NotADatabase) → (db : Trees) → ¬ HoldsDatabase image db
  no_database files left same fails db holds = elim fails [
    | inl memory ↦ absurd (cc)
    | inr others ↦ elim others [
      | inl none ↦ none.1 (inl (db, subst (λ i. HoldsDatabase i db) (sym same) holds))
      | inr fault ↦ elim fault [ inl named ↦ absurd (no_fault _ (sym named.0)) | inr full ↦ absurd (let e : SqliteFailure NotADatabase ≡ SqliteFailure DiskFull = full.0 in cc) ]
    ]
  ]

module _ {S D : Type 0} (g : Ghosts D) (image : Image) where
  -- files that were opened and not used are as they were
  pub unused : (files : Files D) (rest : Left S D g) → rest ≡ left.Files (leftover.Files files) → AreOpenOn g image files → IsAsItWas g image rest
  unused files rest is usable = subst (IsAsItWas {S = S} g image) (sym is) (files, usable, λ clean image may. may)

  pub not_connected : (files : Files D) (rest : Leftover D g) (error : Error) (size : Option ℕ) (it : Unopened (Left S D g)) → AreOpenOn g image files → IsTrue (is_open_error error)
      → (IsCleanLeft rest → FailsToOpenFiles files rest error) → (IsCleanLeft rest → LeavesFiles files rest) → it.left ≡ left.Files rest → it.fault ≡ adopt_fault error → it.cause ≡ cause_of_error size error → IsUnused g image it
  not_connected files rest error size it usable named why unharmed left fault cause =
      let as_it_was : IsAsItWas g image it.left = subst (IsAsItWas {S = S} g image) (sym left) (files, usable, unharmed) in
      elim (told_as error named) [
        | inl none ↦ NoDatabase rest left (λ clean. no_database g image files rest usable.holds (subst (FailsToOpenFiles files rest) none (why clean))) (fault ∙ ap adopt_fault none) (cause ∙ ap (cause_of_error size) none) as_it_was
        | inr keep ↦ NoAnswer (record { no_answer = subst IsNoAnswer (sym fault) keep; memory = λ is. (size, cause ∙ sized size error (sym fault ∙ is)); store = λ shown is. let it = told size error shown (sym fault ∙ is) in (it.0, cause ∙ it.1) }) as_it_was
      ]

  -- the database was refused for this fault
  pub not_adopted : (it : Unopened (Left S D g)) (fault : AdoptFault) (size : Option ℕ) (opened refused : Held (FileStore D g)) → it.left ≡ left.Database refused
      → (it.fault ≡ fault) × (it.cause ≡ cause_of_fault size fault) → IsHandedBack image opened refused (Migrates opened) → (HasCleanDisk (file_state refused) → IsRefusal image fault opened) → IsUnopened g image it (λ _. ⊥) (λ is. is ≡ opened)
  not_adopted it fault size opened refused left told back why =
      WasRefused opened refused left refl back (subst (λ f. HasCleanDisk (file_state refused) → IsRefusal image f opened) (sym told.0) why) size (told.1 ∙ ap (cause_of_fault size) (sym told.0))

  -- the same, where more may have been seen in place of a file, and more is refused
  pub known_less : (it : Unopened (Left S D g)) (none more : Seen → Type 0) (few many : Held (FileStore D g) → Type 0) → ((seen : Seen) → none seen → more seen) → ((opened : Held (FileStore D g)) → few opened → many opened)
      → IsUnopened g image it none few → IsUnopened g image it more many
  known_less it none more few many to also (NoAnswer why as_it_was) = NoAnswer why as_it_was
  known_less it none more few many to also (NoFile seen saw is fault cause as_it_was) = NoFile seen saw (to seen is) fault cause as_it_was
  known_less it none more few many to also (NoDatabase files left not fault cause as_it_was) = NoDatabase files left not fault cause as_it_was
  known_less it none more few many to also (WasRefused opened refused left may back why size cause) = WasRefused opened refused left (also opened may) back why size cause

  -- nothing was seen, and nothing refused
  pub not_used : (it : Unopened (Left S D g)) (more : Seen → Type 0) (many : Held (FileStore D g) → Type 0) → IsUnused g image it → IsUnopened g image it more many
  not_used it more many = known_less it _ more _ many (λ seen none. absurd none) (λ opened none. absurd none)

  pub adopted : {A : Type 0} (P : A → Type 0) (none more : Seen → Type 0) (few many : Held (FileStore D g) → Type 0) → ((seen : Seen) → none seen → more seen) → ((opened : Held (FileStore D g)) → few opened → many opened)
      → (answer : Result A (Unopened (Left S D g))) → MatchResult answer P (λ it. IsUnopened g image it none few) → MatchResult answer P (λ it. IsUnopened g image it more many)
  adopted P none more few many to also (Ok a) is = is
  adopted P none more few many to also (Err it) is = known_less it none more few many to also is

  -- the same for an opening that may make a ledger
  pub opened_or_not : {A : Type 0} (is_made : A → Bool) (opens makes : A → Type 0) (more : Seen → Type 0) (few many : Held (FileStore D g) → Type 0) → ((opened : Held (FileStore D g)) → few opened → many opened) → (answer : Result A (Unopened (Left S D g)))
      → MatchResult answer (λ it. (is_made it ≡ false) × opens it) (λ it. IsUnopened g image it (λ _. ⊥) few) → MatchResult answer (λ it. OpensOrMakes (is_made it) (opens it) (makes it)) (λ it. IsUnopened g image it more many)
  opened_or_not is_made opens makes more few many also (Ok a) is = inl is
  opened_or_not is_made opens makes more few many also (Err it) is = known_less it _ more few many (λ seen none. absurd none) also is

  pub made_or_not : {A : Type 0} (is_made : A → Bool) (opens makes : A → Type 0) (more : Seen → Type 0) (many : Held (FileStore D g) → Type 0) (answer : Result A (Unopened (Left S D g)))
      → MatchResult answer (λ it. (is_made it ≡ true) × makes it) (IsUnused g image) → MatchResult answer (λ it. OpensOrMakes (is_made it) (opens it) (makes it)) (λ it. IsUnopened g image it more many)
  made_or_not is_made opens makes more many (Ok a) is = inr is
  made_or_not is_made opens makes more many (Err it) is = not_used it more many is
