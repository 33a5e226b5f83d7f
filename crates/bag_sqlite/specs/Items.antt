-- How the rows of a database hold a payload file.
use Rattle.std.specs.Prelude.{ℕ, ℤ, pos, List, [], ◌∷◌}
use Rattle.bag_rules.specs.Faults.{Has}
use Rattle.sqlite.specs.Tree.{Trees}
use Rattle.sqlite.specs.declared.types.Value.TheVariants.{Blob, Int}
use Rattle.bag_sqlite.specs.LedgersInTables.{without_rowids}
use Rattle.bag_sqlite.specs.Putting.{item_row}
use Rattle.bag_sqlite.specs.Reading.{HasTransferRow}
use Rattle.bag_sqlite.specs.Tables.{Origin, held_tree, piece_tree}

-- there is a row of a payload file of this transfer
abbrev pub HasItemRow : Origin → Trees → ℤ → ℤ → List ℕ → ℕ → Type 0
HasItemRow origin trees item transfer path size =
    Has (trees (held_tree origin)) (item_row item transfer path size)

-- there is a row of this piece of a payload file
abbrev pub HasPieceRow : Origin → Trees → ℤ → ℕ → List ℕ → Type 0
HasPieceRow origin trees item n body =
    Has (without_rowids (trees (piece_tree origin))) (Int item ∷ Int (pos n) ∷ Blob body ∷ [])

-- there are rows of a transfer with this name and of its payload file at this path
pub record HasItem (origin : Origin) (trees : Trees) (name path : List ℕ) (item : ℤ) (size : ℕ)
    : Type 0 where
  pub transfer : ℤ
  pub named : HasTransferRow trees name transfer
  pub held : HasItemRow origin trees item transfer path size
