-- How a database is opened as a ledger: what its queries show. Which ones are asked goes by the format that it names.
use Rattle.std.specs.Prelude.{◌≡◌, ℕ, ℤ, pos, List, [], ◌∷◌, ◌++◌, Some, IsTrue, IsUtf8, codes, false, length, map, slice_get}
use Rattle.std.specs.List.{AllByRecursion, concat}
use Rattle.bag_rules.specs.Files.{AreTagFiles, Files}
use Rattle.bag_rules.specs.Opening.{Opens}
use Rattle.bag_rules.specs.Transfers.{Passes, with_files}
use Rattle.sqlite.specs.Effect.{Database}
use Rattle.sqlite.specs.Held.{Held, state}
use Rattle.sqlite.specs.Order.{Row, column}
use Rattle.sqlite.specs.State.{HasCleanDisk, State, Survives}
use Rattle.sqlite.specs.Store.{Ghosts}
use Rattle.sqlite.specs.declared.types.Value.{Value}
use Rattle.sqlite.specs.declared.types.Value.TheVariants.{Blob, Int, Text}
use Rattle.sqlite_value.specs.Order.{bytes}
use Rattle.bag_sqlite.specs.LedgersInTables.{AreCut}
use Rattle.bag_sqlite.specs.Reading.{ShowsRows}
use Rattle.bag_sqlite.specs.Tables.{number_of}
use Rattle.bag_sqlite.specs.declared.format.Format.{Format}
use Rattle.bag_sqlite.specs.declared.format.Format.TheVariants as form

-- WHAT A READ CHANGES

-- it shows what was committed, as long as it is open
abbrev pub IsSettled : State → Type 0
IsSettled s = IsTrue s.is_open → s.now ≡ s.committed

-- Nothing was committed, and what showed the last commit still shows it.
pub record IsRead (old new : State) : Type 0 where
  pub was_open : IsTrue new.is_open → IsTrue old.is_open
  pub committed : IsTrue new.is_open → new.committed ≡ old.committed
  pub settled : IsSettled old → IsSettled new

-- The call only reads: if the disk is clean, the database is as before. No transaction is under
-- way, and a crash leaves only what it might have left before.
pub record OnlyReads {S : Type 0} (g : Ghosts S) (old new : Held S) : Type 0 where
  pub read : HasCleanDisk (state g new) → IsRead (state g old) (state g new)
  pub idle : new.in_transaction ≡ false
  pub survives : Survives (state g old) (state g new) (λ _. ⊥)

-- this database was committed, and is shown as long as the connection is open
abbrev pub Stands : State → Database → Type 0
Stands s db = IsTrue s.is_open → (s.now ≡ db) × (s.committed ≡ db)

-- this is so of the database that stood before the call, if the disk is clean after it
abbrev pub SaysOf : {S : Type 0} → Ghosts S → Held S → Held S → (Database → Type 0) → Type 0
SaysOf g old new so = HasCleanDisk (state g new) → (db : Database) → Stands (state g old) db → so db

-- THE QUERIES. Names and paths are ordered by their octets, whatever the collation of their columns.

abbrev pub format_text : List ℕ
format_text = codes "SELECT k, v FROM meta"

abbrev pub transfers_text : List ℕ
transfers_text = codes "SELECT id, name FROM transfer ORDER BY name COLLATE BINARY"

abbrev pub tag_files_text : List ℕ
tag_files_text = codes "SELECT path, body FROM tag WHERE transfer = ?1 ORDER BY path"

abbrev pub items_text : Format → List ℕ
items_text form.First = codes "SELECT rowid, path, size FROM item WHERE transfer = ?1"
    ++ codes " ORDER BY path COLLATE BINARY"
items_text form.Second = codes "SELECT id, path, size FROM held WHERE transfer = ?1"
    ++ codes " ORDER BY path COLLATE BINARY"

-- in format 1
abbrev pub body_text : List ℕ
body_text = codes "SELECT body FROM item WHERE rowid = ?1"

-- in format 2
abbrev pub piece_text : List ℕ
piece_text = codes "SELECT body FROM piece WHERE item = ?1 AND n = ?2"

abbrev pub count_text : List ℕ
count_text = codes "SELECT count(*) FROM piece WHERE item = ?1"

-- Rows of each table that no ledger has: with values of another type, or without an owner. Each column is named, since a
-- ledger has all of them.
abbrev pub stray_transfers_text : List ℕ
stray_transfers_text = codes "SELECT 1 FROM transfer WHERE typeof(id) <> 'integer'"
    ++ codes " OR typeof(name) <> 'text'"

abbrev pub stray_tag_files_text : List ℕ
stray_tag_files_text = codes "SELECT 1 FROM tag WHERE typeof(transfer) <> 'integer'"
    ++ codes " OR typeof(path) <> 'text' OR typeof(body) <> 'blob'"
    ++ codes " OR NOT EXISTS (SELECT 1 FROM transfer WHERE id = tag.transfer)"

abbrev pub stray_whole_items_text : List ℕ
stray_whole_items_text = codes "SELECT rowid, body FROM item WHERE typeof(transfer) <> 'integer'"
    ++ codes " OR typeof(path) <> 'text' OR typeof(size) <> 'integer'"
    ++ codes " OR NOT EXISTS (SELECT 1 FROM transfer WHERE id = item.transfer)"

abbrev pub stray_items_text : List ℕ
stray_items_text = codes "SELECT 1 FROM held WHERE typeof(id) <> 'integer'"
    ++ codes " OR typeof(transfer) <> 'integer' OR typeof(path) <> 'text'"
    ++ codes " OR typeof(size) <> 'integer'"
    ++ codes " OR NOT EXISTS (SELECT 1 FROM transfer WHERE id = held.transfer)"

abbrev pub stray_pieces_text : List ℕ
stray_pieces_text = codes "SELECT body FROM piece WHERE typeof(item) <> 'integer'"
    ++ codes " OR typeof(n) <> 'integer'"
    ++ codes " OR NOT EXISTS (SELECT 1 FROM held WHERE id = piece.item)"

abbrev pub stray_item_texts : Format → List (List ℕ)
stray_item_texts form.First = stray_whole_items_text ∷ []
stray_item_texts form.Second = stray_items_text ∷ stray_pieces_text ∷ []

abbrev pub stray_texts : Format → List (List ℕ)
stray_texts format = stray_transfers_text ∷ stray_tag_files_text ∷ stray_item_texts format

-- all names of transfers, all paths of tag files, and all paths of payload files
abbrev pub all_names_text : List ℕ
all_names_text = codes "SELECT name FROM transfer"

abbrev pub all_tag_paths_text : List ℕ
all_tag_paths_text = codes "SELECT path FROM tag"

abbrev pub all_item_paths_text : Format → List ℕ
all_item_paths_text form.First = codes "SELECT path FROM item"
all_item_paths_text form.Second = codes "SELECT path FROM held"

abbrev pub names_and_paths : Format → List (List ℕ)
names_and_paths format = all_names_text ∷ all_tag_paths_text ∷ all_item_paths_text format ∷ []

-- a tag file as a row shows it
abbrev pub file_in : Row → List ℕ × List ℕ
file_in row = (bytes (column row 0), bytes (column row 1))

-- the tag files of these rows, by path
abbrev pub files_in : List Row → Files
files_in rows = with_files [] (map file_in rows)

-- WHAT A DATABASE SHOWS

-- a text that is UTF-8
abbrev pub IsText : Value → Type 0
IsText value = (text : List ℕ) × (value ≡ Text text) × IsUtf8 text

-- each row begins with one
abbrev pub AreTexts : List Row → Type 0
AreTexts = AllByRecursion (λ row. IsText (column row 0))

module _ {S : Type 0} (g : Ghosts S) (db : Database) where
  -- on a connection that shows this database, the query shows these rows
  pub record Tells (sql : List ℕ) (params : Row) (rows : List Row) : Type 0 where
    pub at : Held S
    pub is : (state g at).now ≡ db
    pub shown : ShowsRows g sql params at rows

  -- it shows one row, which begins with this value
  pub record TellsOne (sql : List ℕ) (params : Row) (value : Value) : Type 0 where
    pub row : Row
    pub told : Tells sql params (row ∷ [])
    pub value_is : column row 0 ≡ value

  -- the query shows texts
  pub record ShowsTexts (sql : List ℕ) : Type 0 where
    pub rows : List Row
    pub told : Tells sql [] rows
    pub texts : AreTexts rows

  -- No row has a value of another type or lacks an owner, and all names and paths are texts.
  pub record HasLedgerRows (format : Format) : Type 0 where
    pub none_stray : AllByRecursion (λ text. Tells text [] []) (stray_texts format)
    pub in_text : AllByRecursion ShowsTexts (names_and_paths format)

  -- these are all pieces of the payload file with this number, in order
  pub record HasPieces (item : ℤ) (pieces : List (List ℕ)) : Type 0 where
    pub each : (n : ℕ) (piece : List ℕ) → slice_get pieces n ≡ Some piece
        → TellsOne piece_text (Int item ∷ Int (pos n) ∷ []) (Blob piece)
    pub count : TellsOne count_text (Int item ∷ []) (Int (pos (length pieces)))
    pub cut : AreCut pieces

  -- this is the whole content of the payload file with this number
  abbrev pub HasContent : Format → ℤ → List ℕ → Type 0
  HasContent form.First item content = TellsOne body_text (Int item ∷ []) (Blob content)
  HasContent form.Second item content = (pieces : List (List ℕ)) × HasPieces item pieces
      × (content ≡ concat pieces)

  -- it names one format, with this number
  pub record HasFormat (number : ℤ) : Type 0 where
    pub row : Row
    pub told : Tells format_text [] (row ∷ [])
    pub name_is : column row 0 ≡ Text (codes "bag-ledger")
    pub number_is : column row 1 ≡ Int number

module _ {S : Type 0} (g : Ghosts S) (db : Database) (format : Format) where
  -- the payload file with this number has this size, and its content is valid for the path
  pub record ItemPasses (tags : Files) (item : ℤ) (path : List ℕ) (size : ℤ) : Type 0 where
    pub content : List ℕ
    pub has : HasContent g db format item content
    pub size_is : size ≡ pos (length content)
    pub passes : Passes tags path content

  -- the same for a row
  pub record RowPasses (tags : Files) (row : Row) : Type 0 where
    pub item : ℤ
    pub path : List ℕ
    pub size : ℤ
    pub row_is : (column row 0 ≡ Int item) × (column row 1 ≡ Text path) × (column row 2 ≡ Int size)
    pub passes : ItemPasses tags item path size

  -- the tag files of the transfer with this number open a transfer, and all of its payload files
  -- are valid
  pub record TransferPasses (transfer : ℤ) : Type 0 where
    pub tag_rows : List Row
    pub tags_told : Tells g db tag_files_text (Int transfer ∷ []) tag_rows
    pub tag_files : AreTagFiles (files_in tag_rows)
    pub opens : Opens (files_in tag_rows)
    pub item_rows : List Row
    pub items_told : Tells g db (items_text format) (Int transfer ∷ []) item_rows
    pub items : AllByRecursion (RowPasses (files_in tag_rows)) item_rows

  -- this is true of every transfer
  pub record TransfersPass : Type 0 where
    pub rows : List Row
    pub told : Tells g db transfers_text [] rows
    pub each : AllByRecursion (λ row. (transfer : ℤ)
        × (column row 0 ≡ Int transfer) × TransferPasses transfer) rows

  -- it is a ledger of this format, its rows are those of a ledger, and all of its transfers are valid
  pub record IsVerifiedAs : Type 0 where
    pub named : HasFormat g db (number_of format)
    pub rows : HasLedgerRows g db format
    pub transfers : TransfersPass

-- the same in one of the formats
abbrev pub IsVerified : {S : Type 0} → Ghosts S → Database → Type 0
IsVerified g db = (format : Format) × IsVerifiedAs g db format
