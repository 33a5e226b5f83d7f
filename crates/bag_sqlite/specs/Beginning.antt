-- What the statements that open a transfer do to the tables.
use Rattle.std.specs.Prelude.{◌≡◌, ◌≢◌, ℕ, ℤ, List, [], ◌∷◌, ◌++◌, IsPermutation}
use Rattle.std.specs.List.{AllByRecursion}
use Rattle.bag_rules.specs.Files.{Files}
use Rattle.sqlite.specs.Order.{column}
use Rattle.sqlite.specs.Tree.{Trees}
use Rattle.sqlite.specs.declared.types.Value.TheVariants.{Int, Null, Text}
use Rattle.bag_sqlite.specs.LedgersInTables.{NumberedTransfer, tag_rows, transfer_row, without_rowids}
use Rattle.bag_sqlite.specs.Putting.{KeepsFirst}
use Rattle.bag_sqlite.specs.Tables.{Origin, held_tree, meta_tree, piece_tree, tag_tree, transfer_tree}

-- a transfer without payload files
abbrev pub opened_under : ℤ → List ℕ → Files → NumberedTransfer
opened_under number name tags = record { number = number; name = name; tags = tags; items = [] }

-- formats, payload files and their pieces are unchanged
pub record KeepsItems (origin : Origin) (old new : Trees) : Type 0 where
  pub format : new meta_tree ≡ old meta_tree
  pub held : new (held_tree origin) ≡ old (held_tree origin)
  pub pieces : new (piece_tree origin) ≡ old (piece_tree origin)
  pub first : KeepsFirst origin old new

-- a transfer is added, with a number that no transfer has had
pub record AddsTransfer (origin : Origin) (old new : Trees) (number : ℤ) (name : List ℕ)
    : Type 0 where
  pub kept : KeepsItems origin old new
  pub fresh : AllByRecursion (λ row. column row 0 ≢ Int number) (old transfer_tree)
  pub transfers : IsPermutation ((Int number ∷ Null ∷ Text name ∷ []) ∷ old transfer_tree)
      (new transfer_tree)
  pub tags : new tag_tree ≡ old tag_tree

-- these tag files are added to the transfer with this number
pub record AddsTags (origin : Origin) (old new : Trees) (number : ℤ) (files : Files) : Type 0 where
  pub kept : KeepsItems origin old new
  pub transfers : new transfer_tree ≡ old transfer_tree
  pub tags : IsPermutation
      (tag_rows (opened_under number [] files) ++ without_rowids (old tag_tree))
      (without_rowids (new tag_tree))

-- a whole transfer is added
pub record HasOneTransferMore (origin : Origin) (old new : Trees) (transfer : NumberedTransfer)
    : Type 0 where
  pub kept : KeepsItems origin old new
  pub fresh : AllByRecursion (λ row. column row 0 ≢ Int transfer.number) (old transfer_tree)
  pub transfers : IsPermutation (transfer_row transfer ∷ old transfer_tree) (new transfer_tree)
  pub tags : IsPermutation (tag_rows transfer ++ without_rowids (old tag_tree))
      (without_rowids (new tag_tree))
