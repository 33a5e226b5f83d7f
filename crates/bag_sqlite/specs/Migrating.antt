-- How a ledger of format 1 becomes one of format 2.
use Rattle.std.specs.Prelude.{◌≡◌, ℕ, ℤ, pos, List, [], ◌∷◌, IsPermutation, IsTrue, length}
use Rattle.bag_ledger.specs.Ledgers.{Ledger}
use Rattle.sqlite.specs.Order.{Row}
use Rattle.sqlite.specs.State.{State}
use Rattle.sqlite.specs.Store.{Ghosts}
use Rattle.sqlite.specs.Tree.{Trees}
use Rattle.sqlite.specs.declared.types.Value.TheVariants.{Blob, Int, Text}
use Rattle.bag_sqlite.specs.Adopting.{HasFormat}
use Rattle.bag_sqlite.specs.LedgersInTables.{AreTablesOf, HoldTransfers, IsDatabaseOf, NamesFormat}
use Rattle.bag_sqlite.specs.Putting.{IsFree, IsUnderWay}
use Rattle.bag_sqlite.specs.SqlKeepers.{ShowsLedger}
use Rattle.bag_sqlite.specs.Tables.{First, Migrated, Second, held_tree, item_tree, meta_tree, piece_tree, tag_tree, transfer_tree}

-- the row of a payload file in format 1
abbrev pub whole_row : ℤ → ℤ → List ℕ → List ℕ → Row
whole_row item transfer path content = Int item ∷ Int transfer ∷ Text path
    ∷ Int (pos (length content)) ∷ Blob content ∷ []

-- the payload file with this number has this content, and no other row has the number
pub record HasBody (trees : Trees) (item transfer : ℤ) (path content : List ℕ) : Type 0 where
  pub others : List Row
  pub free : IsFree item others
  pub rows : IsPermutation (whole_row item transfer path content ∷ others) (trees item_tree)

-- transfers, their tag files and the payload files in format 2 are unchanged
pub record KeepsHeld (old new : Trees) : Type 0 where
  pub transfers : new transfer_tree ≡ old transfer_tree
  pub tags : new tag_tree ≡ old tag_tree
  pub held : new (held_tree Migrated) ≡ old (held_tree Migrated)
  pub pieces : new (piece_tree Migrated) ≡ old (piece_tree Migrated)

-- the table of format 1 is emptied
pub record Empties (old new : Trees) : Type 0 where
  pub kept : KeepsHeld old new
  pub format : new meta_tree ≡ old meta_tree
  pub items : new item_tree ≡ []

-- the only row of the format says 2
pub record SetsFormat (old new : Trees) : Type 0 where
  pub kept : KeepsHeld old new
  pub format : NamesFormat new (pos 2)
  pub items : new item_tree ≡ old item_tree

-- a transaction is open on the tables of both formats; those of format 1 hold this ledger, and
-- those of format 2 are empty
pub record IsToMove (ledger : Ledger) (s : State) : Type 0 where
  pub way : IsUnderWay Migrated s
  pub tables : AreTablesOf First s.now.trees ledger
  pub none : (s.now.trees (held_tree Migrated) ≡ []) × (s.now.trees (piece_tree Migrated) ≡ [])

-- those of format 2 hold it too
pub record IsInBoth (ledger : Ledger) (s : State) : Type 0 where
  pub way : IsUnderWay Migrated s
  pub tables : AreTablesOf First s.now.trees ledger
  pub held : HoldTransfers (Second Migrated) s.now.trees ledger

-- those of format 2 hold it alone
pub record IsMigrated (ledger : Ledger) (s : State) : Type 0 where
  pub way : IsUnderWay Migrated s
  pub tables : AreTablesOf (Second Migrated) s.now.trees ledger

-- it was open; and if it showed a ledger of format 1, it is open and shows the ledger in format 2
pub record ShowsMoved (old new : State) : Type 0 where
  pub was_open : IsTrue old.is_open
  pub moved : (ledger : Ledger) → ShowsLedger First old ledger
      → IsTrue new.is_open × ShowsLedger (Second Migrated) new ledger

-- it was open, and has committed the ledger in format 2
abbrev pub MovesLedger : State → Trees → Type 0
MovesLedger s trees = IsTrue s.is_open × ((ledger : Ledger) → ShowsLedger First s ledger
    → IsDatabaseOf (Second Migrated) trees ledger)

-- the same, and only a database of format 1 has
abbrev pub MigratesLedger : {S : Type 0} → Ghosts S → State → Trees → Type 0
MigratesLedger g s trees = HasFormat g s.committed (pos 1) × MovesLedger s trees
