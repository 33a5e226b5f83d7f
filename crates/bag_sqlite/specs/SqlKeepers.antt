-- What a keeper in a database answers for.
use Rattle.std.specs.Prelude.{◌≡◌, ◌⊎◌, IsTrue}
use Rattle.sqlite.specs.State.{IsLive, Opens, State}
use Rattle.sqlite.specs.Tree.{Trees}
use Rattle.bag_sqlite.specs.LedgersInTables.{IsDatabaseOf, IsLedgerDatabase}
use Rattle.bag_ledger.specs.Ledgers.{IsSound, Ledger}
use Rattle.bag_sqlite.specs.Tables.{Layout, Origin, Second, schema_of}

-- the connection shows the database of this ledger, with these tables, as it was committed
pub record ShowsLedger (layout : Layout) (s : State) (ledger : Ledger) : Type 0 where
  pub schema_is : s.now.schema ≡ schema_of layout
  pub database : IsDatabaseOf layout s.now.trees ledger
  pub committed : s.committed ≡ s.now

-- The keeper answers for this ledger, which its connection shows in format 2 as long as it is open. Whatever a crash
-- leaves is the database of a whole ledger.
pub record HoldsLedger (s : State) (ledger : Ledger) : Type 0 where
  pub sound : IsSound ledger
  pub shows : IsTrue s.is_open → (origin : Origin) × ShowsLedger (Second origin) s ledger
  pub outcomes : (trees : Trees) → s.may_leave trees → (left : Ledger) × IsLedgerDatabase trees left

-- opening the database after a crash may give this ledger
abbrev pub MayLeaveLedger : State → Ledger → Type 0
MayLeaveLedger s ledger = (trees : Trees) × s.may_leave trees × IsLedgerDatabase trees ledger

-- the keeper answers for this ledger, and a crash leaves it alone
pub record KeepsAlone (s : State) (ledger : Ledger) : Type 0 where
  pub holds : HoldsLedger s ledger
  pub alone : (crashed : Ledger) → MayLeaveLedger s crashed → crashed ≡ ledger

-- the connection was just opened on the database of this ledger, in either format
pub record IsOpenedOn (s : State) (ledger : Ledger) : Type 0 where
  pub opens : Opens s
  pub live : IsLive s
  pub database : IsLedgerDatabase s.committed.trees ledger

-- the connection is open and shows the database of this ledger, in either format, or it was just opened on it
abbrev pub Offers : State → Ledger → Type 0
Offers s ledger = (IsTrue s.is_open × (layout : Layout) × ShowsLedger layout s ledger)
    ⊎ IsOpenedOn s ledger
