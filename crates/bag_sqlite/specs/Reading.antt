-- What a read of a database is.
use Rattle.std.specs.Prelude.{◌≡◌, ℕ, ℤ, List, [], ◌∷◌, false, pos, true}
use Rattle.bag_rules.specs.Faults.{Has}
use Rattle.bag_rules.specs.declared.plan.ItemSize.{ItemSize}
use Rattle.sqlite.specs.Held.{Held, state}
use Rattle.sqlite.specs.Order.{Row}
use Rattle.sqlite.specs.State.{HasCleanDisk, Shown, Survives}
use Rattle.sqlite.specs.Store.{Ghosts}
use Rattle.sqlite.specs.Tree.{Trees}
use Rattle.sqlite.specs.declared.types.Value.TheVariants.{Blob, Int, Null, Text}
use Rattle.bag_sqlite.specs.NewTables.{IsLeft}
use Rattle.bag_sqlite.specs.Tables.{transfer_tree}

-- the rows are the ones that the query shows, in a transaction that begins at this connection
pub record ShowsRows {S : Type 0} (g : Ghosts S) (sql : List ℕ) (params : Row) (old : Held S)
    (rows : List Row) : Type 0 where
  pub then : Held S
  pub shown : Shown sql params (state g (record old { in_transaction = true })) (state g then) rows

-- The call only runs queries: if the disk is clean, nothing was committed and what was committed is
-- shown. No transaction is under way, and a crash leaves only what it might have left before.
pub record OnlyQueries {S : Type 0} (g : Ghosts S) (old new : Held S) : Type 0 where
  pub left : HasCleanDisk (state g new) → IsLeft (state g old) (state g new)
  pub idle : new.in_transaction ≡ false
  pub survives : Survives (state g old) (state g new) (λ _. ⊥)

-- there is a row of a transfer with this name and number
abbrev pub HasTransferRow : Trees → List ℕ → ℤ → Type 0
HasTransferRow trees name number =
    Has (trees transfer_tree) (Int number ∷ Null ∷ Text name ∷ [])

-- a tag file as its path and its octets
abbrev pub tag_shown : List ℕ × List ℕ → Row
tag_shown file = Text file.0 ∷ Blob file.1 ∷ []

-- a payload file as its path and its size
abbrev pub size_shown : ItemSize → Row
size_shown item = Text item.path ∷ Int (pos item.octets) ∷ []
