-- What is known of a database that is opened as a ledger.
use Rattle.bag_ledger.specs.Ledgers.{Ledger}
use Rattle.sqlite.specs.Held.{Held, state}
use Rattle.sqlite.specs.State.{HasCleanDisk, Survives}
use Rattle.sqlite.specs.Store.{Ghosts}
use Rattle.bag_sqlite.specs.Adopting.{IsVerified}
use Rattle.bag_sqlite.specs.NewTables.{IsLeft}
use Rattle.bag_sqlite.specs.Migrating.{MigratesLedger}
use Rattle.bag_sqlite.specs.Refusing.{IsNoAnswer, RefusesToAdopt}
use Rattle.bag_sqlite.specs.SqlKeepers.{HoldsLedger, KeepsAlone, Offers}
use Rattle.bag_sqlite.specs.declared.adopting.AdoptFault.{AdoptFault}

module _ {S : Type 0} (g : Ghosts S) (offered : Held S) where
  -- The database passed whole, and a keeper has it. It answers for the ledger that the connection
  -- held, and keeps the one that it offered, which a crash leaves alone. A crash before may have
  -- left the same ledger in format 1.
  pub record IsAdopted (now : Held S) : Type 0 where
    pub verified : HasCleanDisk (state g now) → IsVerified g (state g offered).committed
    pub holds : HasCleanDisk (state g now) → (ledger : Ledger)
        → HoldsLedger (state g offered) ledger → HoldsLedger (state g now) ledger
    pub keeps : HasCleanDisk (state g now) → (ledger : Ledger)
        → Offers (state g offered) ledger → KeepsAlone (state g now) ledger
    pub survives : Survives (state g offered) (state g now) (MigratesLedger g (state g offered))

  -- The connection was handed back with its database unchanged, for this reason. If it offered a
  -- ledger, memory ran out or the store failed.
  pub record IsNotAdopted (fault : AdoptFault) (now : Held S) : Type 0 where
    pub unchanged : HasCleanDisk (state g now) → IsLeft (state g offered) (state g now)
    pub reason : HasCleanDisk (state g now)
        → RefusesToAdopt g (state g offered).committed fault
    pub own : HasCleanDisk (state g now) → (ledger : Ledger)
        → Offers (state g offered) ledger → IsNoAnswer fault
    pub survives : Survives (state g offered) (state g now) (MigratesLedger g (state g offered))
