-- How the tables of a ledger are created.
use Rattle.std.specs.Prelude.{◌≡◌, ◌≢◌, ℕ, List, [], Ok, IsTrue, false}
use Rattle.std.specs.List.{AllByRecursion}
use Rattle.sqlite.specs.Change.{created}
use Rattle.sqlite.specs.Command.TheVariants.{CreateTable}
use Rattle.sqlite.specs.Compile.{table_defined_by}
use Rattle.sqlite.specs.Does.{lacks_sequence}
use Rattle.sqlite.specs.Listing.{understood}
use Rattle.sqlite.specs.Schema.{Schema}
use Rattle.sqlite.specs.State.{State}
use Rattle.sqlite.specs.Table.{Table}
use Rattle.sqlite.specs.Tree.{Trees}
use Rattle.sqlite.specs.declared.error.Error.{Error}
use Rattle.sqlite.specs.declared.error.Error.TheVariants.{SqliteFailure}
use Rattle.sqlite.specs.declared.error.ErrorCode.TheVariants.{NameTaken, TransactionState}
use Rattle.sqlite.proofs.Callers.{IsPlain, command_of, statement_of}
use Rattle.bag_sqlite.specs.LedgersInTables.{IsDatabaseOf}
use Rattle.bag_sqlite.specs.Tables.{New, Second, no_schema, second_schema}

-- under this schema the statement creates this table
pub record Makes (before : Schema) (text : List ℕ) (table : Table) : Type 0 where
  pub command : command_of (understood before text) ≡ CreateTable
  pub statement : statement_of text (understood before text) ≡ text
  pub plain : IsPlain (understood before text)
  pub defined : table_defined_by text ≡ Ok table
  pub uncounted : lacks_sequence (created before table) ≡ false

-- a transaction is open, and sees the tables of this schema, with these rows
pub record IsMaking (schema : Schema) (rows : Trees) (s : State) : Type 0 where
  pub mode : IsTrue s.in_transaction
  pub schema_is : s.now.schema ≡ schema
  pub rows_are : AllByRecursion
      (λ (table : Table). s.now.trees table.tree ≡ rows table.tree) schema.tables

-- none
abbrev pub no_rows : Trees
no_rows tree = []

-- a transaction is open, and sees the database of a ledger without transfers
pub record IsMade (s : State) : Type 0 where
  pub mode : IsTrue s.in_transaction
  pub schema_is : s.now.schema ≡ second_schema New
  pub database : IsDatabaseOf (Second New) s.now.trees []

-- the database of a ledger without transfers is committed
pub record IsCreated (s : State) : Type 0 where
  pub is_open : IsTrue s.is_open
  pub autocommit : s.in_transaction ≡ false
  pub schema_is : s.now.schema ≡ second_schema New
  pub database : IsDatabaseOf (Second New) s.now.trees []
  pub committed : s.committed ≡ s.now

-- what is answered where no ledger can be made: while a transaction is open, and in a database with tables, indexes or
-- views
pub record RefusesToMake (s : State) (answers : Error → Type 0) : Type 0 where
  pub busy : IsTrue s.in_transaction → answers (SqliteFailure TransactionState)
  pub taken : s.in_transaction ≡ false → s.now.schema ≢ no_schema
      → answers (SqliteFailure NameTaken)

-- Nothing was committed. As long as the connection is open, it shows what was committed.
pub record IsLeft (old new : State) : Type 0 where
  pub mode : new.in_transaction ≡ old.in_transaction
  pub was_open : IsTrue new.is_open → IsTrue old.is_open
  pub committed : IsTrue new.is_open → new.committed ≡ old.committed
  pub now : IsTrue new.is_open → old.in_transaction ≡ false → new.now ≡ old.committed

-- it had no tables, and has committed a ledger without transfers
abbrev pub MakesLedger : State → Trees → Type 0
MakesLedger s trees = (s.now.schema ≡ no_schema) × IsDatabaseOf (Second New) trees []
