-- What the statements of a transaction do to the rows of a ledger, and what they leave as it was.
use Rattle.std.specs.Prelude.{◌≡◌, IsTrue, OnOk, Result}
use Rattle.std.specs.Borrow.{MutBor}
use Rattle.sqlite.specs.Held.{Held, state}
use Rattle.sqlite.specs.State.{HasCleanDisk, KeepsCommit, Survives}
use Rattle.sqlite.specs.Store.{Ghosts}
use Rattle.sqlite.specs.Tree.{Trees}
use Rattle.bag_sqlite.specs.Putting.{IsUnderWay}
use Rattle.bag_sqlite.specs.Tables.{Origin}

-- The transaction is on the same connection, nothing is committed if the disk is clean, and a crash
-- leaves only what it might have left before.
pub record CommitsNothing {S : Type 0} (g : Ghosts S) (old new : MutBor (Held S)) : Type 0 where
  pub same_reference : new.ghost_name ≡ old.ghost_name
  pub commit : HasCleanDisk (state g new.now) → KeepsCommit (state g old.now) (state g new.now)
  pub survives : Survives (state g old.now) (state g new.now) (λ _. ⊥)

-- The same, as long as no failure has ended the transaction.
pub record CommitsNothingWithin {S : Type 0} (g : Ghosts S) (old new : MutBor (Held S)) : Type 0
  where
    pub same_reference : new.ghost_name ≡ old.ghost_name
    pub commit : HasCleanDisk (state g new.now) → IsTrue (state g old.now).in_transaction
        → KeepsCommit (state g old.now) (state g new.now)
    pub survives : Survives (state g old.now) (state g new.now) (λ _. ⊥)

-- What was under way still is, and this is so of the rows before and after.
abbrev pub ChangesRows : {S : Type 0} → Ghosts S → MutBor (Held S) → MutBor (Held S)
    → (Origin → Trees → Trees → Type 0) → Type 0
ChangesRows g old new change = (origin : Origin) → IsUnderWay origin (state g old.now)
    → IsUnderWay origin (state g new.now)
    × change origin (state g old.now).now.trees (state g new.now).now.trees

-- A transaction that is open stays open.
abbrev pub StaysInside : {S A E : Type 0} → Ghosts S → MutBor (Held S) → MutBor (Held S)
    → Result A E → Type 0
StaysInside g old new result = HasCleanDisk (state g new.now)
    → OnOk result (IsTrue (state g old.now).in_transaction → IsTrue (state g new.now).in_transaction)

-- The database was open.
abbrev pub WasOpen : {S A E : Type 0} → Ghosts S → MutBor (Held S) → MutBor (Held S)
    → Result A E → Type 0
WasOpen g old new result = HasCleanDisk (state g new.now)
    → OnOk result (IsTrue (state g old.now).in_transaction → IsTrue (state g old.now).is_open)
