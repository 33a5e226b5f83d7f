-- A database read as a ledger: it has the tables of a ledger and exactly its rows.
use Rattle.std.specs.Prelude.{◌≡◌, ◌≢◌, ◌<◌, ◌≤◌, ℕ, ℤ, pos, List, [], ◌∷◌, IsPermutation, codes, drop, flat_map, length, map, sum_by, ⊤}
use Rattle.std.specs.List.{AllByRecursion, concat, enumerate_from}
use Rattle.std.specs.Map.{keys_of}
use Rattle.bag_digest.specs.declared.buffers.TheConstants.{PIECE}
use Rattle.bag_rules.specs.Files.{Files}
use Rattle.bag_rules.specs.Trees.{AreRising}
use Rattle.sqlite.specs.Effect.{IsDatabase}
use Rattle.sqlite.specs.Order.{Row}
use Rattle.sqlite.specs.Tree.{Trees}
use Rattle.sqlite.specs.declared.types.Value.TheVariants.{Blob, Int, Null, Text}
use Rattle.bag_ledger.specs.Ledgers.{IsSound, Ledger, Transfer}
use Rattle.bag_sqlite.specs.Tables.{First, Layout, Migrated, New, Origin, Second, format_of, held_tree, item_tree, meta_tree, number_of, piece_tree, schema_of, tag_tree, transfer_tree}

-- A LEDGER WITH ROW NUMBERS

-- a payload file with its number, in pieces
pub record NumberedItem : Type 0 where
  pub number : ℤ
  pub path : List ℕ
  pub pieces : List (List ℕ)

-- a transfer with its number
pub record NumberedTransfer : Type 0 where
  pub number : ℤ
  pub name : List ℕ
  pub tags : Files
  pub items : List NumberedItem

-- each piece but the last has 65,536 octets, and the last has 1 to 65,536
abbrev pub AreCut : List (List ℕ) → Type 0
AreCut [] = ⊤
AreCut (last ∷ []) = (0 < length last) × (length last ≤ PIECE)
AreCut (piece ∷ next ∷ more) = (length piece ≡ PIECE) × AreCut (next ∷ more)

-- the octets of all pieces
abbrev pub size_of : NumberedItem → ℕ
size_of item = sum_by length item.pieces

abbrev pub items_in : List NumberedTransfer → List NumberedItem
items_in transfers = flat_map (λ (transfer : NumberedTransfer). transfer.items) transfers

-- the ledger without the numbers, each payload file as a whole
abbrev pub without_number : NumberedTransfer → List ℕ × Transfer
without_number transfer = (
  transfer.name,
  record {
    tags = transfer.tags;
    items = map (λ (item : NumberedItem). (item.path, concat item.pieces)) transfer.items;
  },
)

-- THE ROWS

-- A row begins with its rowid. A column that is an alias of the rowid holds NULL.

-- the format and its number
abbrev pub format_row : ℤ → Row
format_row number = Text (codes "bag-ledger") ∷ Int number ∷ []

abbrev pub transfer_row : NumberedTransfer → Row
transfer_row transfer = Int transfer.number ∷ Null ∷ Text transfer.name ∷ []

-- without their rowids, which have no meaning here
abbrev pub tag_rows : NumberedTransfer → List Row
tag_rows transfer = map (λ (file : List ℕ × List ℕ).
    Int transfer.number ∷ Text file.0 ∷ Blob file.1 ∷ []) transfer.tags

-- in format 1, a payload file with its whole content
abbrev pub item_rows : NumberedTransfer → List Row
item_rows transfer = map (λ (item : NumberedItem).
    Int item.number ∷ Int transfer.number ∷ Text item.path ∷ Int (pos (size_of item))
    ∷ Blob (concat item.pieces) ∷ []) transfer.items

-- in format 2, without its content
abbrev pub held_rows : NumberedTransfer → List Row
held_rows transfer = map (λ (item : NumberedItem).
    Int item.number ∷ Null ∷ Int transfer.number ∷ Text item.path ∷ Int (pos (size_of item)) ∷ [])
    transfer.items

-- in format 2, its pieces, numbered from 0, without their rowids
abbrev pub piece_rows : NumberedItem → List Row
piece_rows item = map (λ (piece : ℕ × List ℕ).
    Int item.number ∷ Int (pos piece.0) ∷ Blob piece.1 ∷ []) (enumerate_from 0 item.pieces)

abbrev pub without_rowids : List Row → List Row
without_rowids rows = map (drop 1) rows

-- the tables of format 2 have exactly the rows of these payload files, in any order
pub record HaveHeldRows (origin : Origin) (trees : Trees) (all : List NumberedTransfer) : Type 0
  where
    pub held : IsPermutation (flat_map held_rows all) (trees (held_tree origin))
    pub pieces : IsPermutation (flat_map piece_rows (items_in all))
        (without_rowids (trees (piece_tree origin)))

-- the same for either format
abbrev pub HaveItemRows : Layout → Trees → List NumberedTransfer → Type 0
HaveItemRows First trees all = IsPermutation (flat_map item_rows all) (trees item_tree)
HaveItemRows (Second origin) trees all = HaveHeldRows origin trees all

-- the tables have exactly the rows of these transfers, in any order
pub record HaveRows (layout : Layout) (trees : Trees) (all : List NumberedTransfer) : Type 0 where
  pub transfers : IsPermutation (map transfer_row all) (trees transfer_tree)
  pub tags : IsPermutation (flat_map tag_rows all) (without_rowids (trees tag_tree))
  pub items : HaveItemRows layout trees all

-- THE LEDGER

-- no number occurs twice
abbrev pub AreApart : {X : Type 0} → (X → ℤ) → List X → Type 0
AreApart number [] = ⊤
AreApart number (x ∷ xs) = AllByRecursion (λ y. number x ≢ number y) xs × AreApart number xs

-- transfers by name, and the files of each by path, none twice
pub record IsInOrder (ledger : Ledger) : Type 0 where
  pub names : AreRising (keys_of ledger)
  pub tags : AllByRecursion
      (λ (entry : List ℕ × Transfer). AreRising (keys_of entry.1.tags)) ledger
  pub items : AllByRecursion
      (λ (entry : List ℕ × Transfer). AreRising (keys_of entry.1.items)) ledger

-- The tables of transfers and their files hold this ledger: they have its rows under some numbers, each number used
-- once, and each payload file is cut into pieces. In format 1 the pieces are joined.
pub record HoldTransfers (layout : Layout) (trees : Trees) (ledger : Ledger) : Type 0 where
  pub transfers : List NumberedTransfer
  pub rows : HaveRows layout trees transfers
  pub numbers : AreApart (λ (transfer : NumberedTransfer). transfer.number) transfers
  pub item_numbers : AreApart (λ (item : NumberedItem). item.number) (items_in transfers)
  pub cut : AllByRecursion (λ (item : NumberedItem). AreCut item.pieces) (items_in transfers)
  pub is : ledger ≡ map without_number transfers
  pub order : IsInOrder ledger

-- the only row of formats has this number
abbrev pub NamesFormat : Trees → ℤ → Type 0
NamesFormat trees number = (id : ℤ) × (trees meta_tree ≡ (Int id ∷ format_row number) ∷ [])

-- the table of format 1 is empty, if the tables of format 2 were made beside it
abbrev pub AreMoved : Layout → Trees → Type 0
AreMoved First trees = ⊤
AreMoved (Second New) trees = ⊤
AreMoved (Second Migrated) trees = trees item_tree ≡ []

-- the tables hold this ledger
pub record AreTablesOf (layout : Layout) (trees : Trees) (ledger : Ledger) : Type 0 where
  pub format : NamesFormat trees (number_of (format_of layout))
  pub held : HoldTransfers layout trees ledger
  pub moved : AreMoved layout trees

-- THE DATABASE

-- these trees list these tables and no others, and obey them
abbrev pub ListLedger : Layout → Trees → Type 0
ListLedger layout trees = IsDatabase (record { schema = schema_of layout; trees = trees })

-- this is the database of a ledger with these tables, and holds this one
pub record IsDatabaseOf (layout : Layout) (trees : Trees) (ledger : Ledger) : Type 0 where
  pub listed : ListLedger layout trees
  pub tables : AreTablesOf layout trees ledger
  pub sound : IsSound ledger

-- the same, in either format
abbrev pub IsLedgerDatabase : Trees → Ledger → Type 0
IsLedgerDatabase trees ledger = (layout : Layout) × IsDatabaseOf layout trees ledger
