-- What the statements that write a payload file do to the tables.
use Rattle.std.specs.Prelude.{◌≡◌, ℕ, ℤ, pos, List, [], ◌∷◌, ◌++◌, IsPermutation, IsTrue, false, sum_by, length, ⊤}
use Rattle.std.specs.List.{list_any}
use Rattle.sqlite.specs.Order.{Row}
use Rattle.sqlite.specs.State.{State}
use Rattle.sqlite.specs.Tree.{Trees, has_rowid}
use Rattle.sqlite.specs.declared.types.Value.TheVariants.{Blob, Int, Null, Text}
use Rattle.bag_sqlite.specs.LedgersInTables.{ListLedger, NumberedItem, piece_rows, without_rowids}
use Rattle.bag_sqlite.specs.Tables.{Migrated, New, Origin, Second, held_tree, item_tree, meta_tree, piece_tree, second_schema, tag_tree, transfer_tree}

-- a transaction is open on the tables of a ledger of format 2
pub record IsUnderWay (origin : Origin) (s : State) : Type 0 where
  pub mode : IsTrue s.in_transaction
  pub schema_is : s.now.schema ≡ second_schema origin
  pub listed : ListLedger (Second origin) s.now.trees

-- the row of a payload file
abbrev pub item_row : ℤ → ℤ → List ℕ → ℕ → Row
item_row item transfer path size = Int item ∷ Null ∷ Int transfer ∷ Text path ∷ Int (pos size) ∷ []

-- the table of format 1 is unchanged, if there is one
abbrev pub KeepsFirst : Origin → Trees → Trees → Type 0
KeepsFirst New old new = ⊤
KeepsFirst Migrated old new = new item_tree ≡ old item_tree

-- formats, transfers and tag files are unchanged
pub record KeepsTransfers (origin : Origin) (old new : Trees) : Type 0 where
  pub format : new meta_tree ≡ old meta_tree
  pub transfers : new transfer_tree ≡ old transfer_tree
  pub tags : new tag_tree ≡ old tag_tree
  pub first : KeepsFirst origin old new

-- no row has this number
abbrev pub IsFree : ℤ → List Row → Type 0
IsFree number rows = list_any (has_rowid number) rows ≡ false

-- a payload file is added, with a number that was free
pub record AddsItem (origin : Origin) (old new : Trees) (item transfer : ℤ) (path : List ℕ)
    (size : ℕ) : Type 0 where
  pub kept : KeepsTransfers origin old new
  pub fresh : IsFree item (old (held_tree origin))
  pub held : IsPermutation (item_row item transfer path size ∷ old (held_tree origin))
      (new (held_tree origin))
  pub pieces : new (piece_tree origin) ≡ old (piece_tree origin)

-- a piece is added
pub record AddsPiece (origin : Origin) (old new : Trees) (item : ℤ) (n : ℕ) (body : List ℕ)
    : Type 0 where
  pub kept : KeepsTransfers origin old new
  pub held : new (held_tree origin) ≡ old (held_tree origin)
  pub pieces : IsPermutation
      ((Int item ∷ Int (pos n) ∷ Blob body ∷ []) ∷ without_rowids (old (piece_tree origin)))
      (without_rowids (new (piece_tree origin)))

-- the payload file with this number gets its size
pub record SetsSize (origin : Origin) (old new : Trees) (item : ℤ) (size : ℕ) : Type 0 where
  pub kept : KeepsTransfers origin old new
  pub held : (others : List Row) (transfer : ℤ) (path : List ℕ) (before : ℕ)
      → IsFree item others
      → IsPermutation (item_row item transfer path before ∷ others) (old (held_tree origin))
      → IsPermutation (item_row item transfer path size ∷ others) (new (held_tree origin))
  pub pieces : new (piece_tree origin) ≡ old (piece_tree origin)

-- these pieces are added
pub record AddsPieces (origin : Origin) (old new : Trees) (item : NumberedItem) : Type 0 where
  pub kept : KeepsTransfers origin old new
  pub held : new (held_tree origin) ≡ old (held_tree origin)
  pub pieces : IsPermutation (piece_rows item ++ without_rowids (old (piece_tree origin)))
      (without_rowids (new (piece_tree origin)))

-- a whole payload file is added
pub record HasOneItemMore (origin : Origin) (old new : Trees) (transfer : ℤ) (item : NumberedItem)
    : Type 0 where
  pub kept : KeepsTransfers origin old new
  pub fresh : IsFree item.number (old (held_tree origin))
  pub held : IsPermutation
      (item_row item.number transfer item.path (sum_by length item.pieces) ∷ old (held_tree origin))
      (new (held_tree origin))
  pub pieces : IsPermutation (piece_rows item ++ without_rowids (old (piece_tree origin)))
      (without_rowids (new (piece_tree origin)))
