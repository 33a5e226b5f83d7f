-- Why a database isn't opened as a ledger: what its queries show that those of a ledger don't.
use Rattle.std.specs.Prelude.{◌≡◌, ◌≢◌, ◌⊎◌, ◌<◌, ◌≤◌, ◌-◌, ℕ, ℤ, min, pos, List, [], ◌∷◌, Some, codes, length, slice_get, string_bytes, take}
use Rattle.std.specs.List.{AllByRecursion, concat}
use Rattle.bag_digest.specs.declared.buffers.TheConstants.{PIECE}
use Rattle.bag_path.specs.Paths.{IsPath}
use Rattle.bag_rules.specs.Faults.{Has}
use Rattle.bag_rules.specs.Files.{AreTagFiles, Files}
use Rattle.bag_rules.specs.Opening.{Opens, RefusesTags}
use Rattle.bag_rules.specs.TagSets.{RefusesFile}
use Rattle.bag_rules.specs.Transfers.{IsExpected, Passes}
use Rattle.bag_rules.specs.declared.limits.TheConstants.{LARGEST_ITEM}
use Rattle.bag_rules.specs.declared.plan_fault.PlanFault.{PlanFault}
use Rattle.bag_rules.specs.declared.plan_fault.PlanFault.TheVariants.{Memory as NoMemory}
use Rattle.bag_rules.specs.declared.tag_set.TagSetFault.{TagSetFault}
use Rattle.bag_rules.specs.declared.tag_set.TagSetFault.TheVariants.{Memory as WantOfMemory}
use Rattle.sqlite.specs.Effect.{Database}
use Rattle.sqlite.specs.Given.{IsPlain}
use Rattle.sqlite.specs.Listing.{understood}
use Rattle.sqlite.specs.Order.{Row, column}
use Rattle.sqlite.specs.Schema.{Schema}
use Rattle.sqlite.specs.Store.{Ghosts}
use Rattle.sqlite.specs.Values.{IsInt}
use Rattle.sqlite.specs.declared.error.Error.{Error}
use Rattle.sqlite.specs.declared.error.Error.TheVariants.{SqliteFailure, InvalidParameterCount, ExecuteReturnedResults, InvalidQuery, MultipleStatement, QueryReturnedNoRows}
use Rattle.sqlite.specs.declared.error.ErrorCode.TheVariants.{OutOfMemory, NotADatabase}
use Rattle.sqlite.specs.declared.types.Value.{Value}
use Rattle.sqlite.specs.declared.types.Value.TheVariants.{Blob, Int, Text}
use Rattle.bag_sqlite.specs.Adopting.{AreTexts, HasContent, HasFormat, HasLedgerRows, IsText, RowPasses, Tells, TellsOne, TransferPasses, body_text, count_text, files_in, format_text, items_text, names_and_paths, piece_text, stray_texts, tag_files_text, transfers_text}
use Rattle.bag_sqlite.specs.LedgersInTables.{AreCut}
use Rattle.bag_sqlite.specs.Tables.{number_of}
use Rattle.bag_sqlite.specs.declared.adopting.AdoptFault.{AdoptFault}
use Rattle.bag_sqlite.specs.declared.adopting.AdoptFault.TheVariants.{NotALedger, Damaged, Memory, Store}
use Rattle.bag_sqlite.specs.declared.format.Format.{Format}
use Rattle.bag_sqlite.specs.declared.format.Format.TheVariants as form

-- HOW AN ERROR IS REPORTED

abbrev pub adopt_fault : Error → AdoptFault
adopt_fault (SqliteFailure OutOfMemory) = Memory
adopt_fault (SqliteFailure NotADatabase) = NotALedger
adopt_fault (SqliteFailure code) = Store (SqliteFailure code)
adopt_fault (InvalidParameterCount given wanted) = Store (InvalidParameterCount given wanted)
adopt_fault ExecuteReturnedResults = Store ExecuteReturnedResults
adopt_fault InvalidQuery = Store InvalidQuery
adopt_fault MultipleStatement = Store MultipleStatement
adopt_fault QueryReturnedNoRows = Store QueryReturnedNoRows
adopt_fault error = NotALedger

-- memory ran out, or the store failed
abbrev pub IsNoAnswer : AdoptFault → Type 0
IsNoAnswer Memory = Unit {0}
IsNoAnswer (Store error) = Unit {0}
IsNoAnswer fault = ⊥

-- if the fault is `NotALedger`, this is the reason; out of memory and failures of the store say nothing
abbrev pub IsNoneFor : Type 0 → AdoptFault → Type 0
IsNoneFor reason NotALedger = reason
IsNoneFor reason (Damaged name path) = ⊥
IsNoneFor reason Memory = Unit {0}
IsNoneFor reason (Store error) = Unit {0}

-- If the fault is `NotALedger`, this is the reason; otherwise memory ran out. The store isn't involved.
abbrev pub AreNoneFor : Type 0 → AdoptFault → Type 0
AreNoneFor reason NotALedger = reason
AreNoneFor reason (Damaged name path) = ⊥
AreNoneFor reason Memory = Unit {0}
AreNoneFor reason (Store error) = ⊥

-- the text can't be understood as a query that shows rows, writes nothing and doesn't read the time
abbrev pub IsNoQuery : Schema → List ℕ → Type 0
IsNoQuery schema sql = ¬ IsPlain (understood schema sql)

-- THE QUERIES, AND WHAT A LEDGER SHOWS

abbrev pub IsBlob : Value → Type 0
IsBlob value = (octets : List ℕ) × (value ≡ Blob octets)

-- there is one row, which says that it is a ledger of this format
abbrev pub SaysFormat : List Row → ℤ → Type 0
SaysFormat rows format = (row : Row) × (rows ≡ row ∷ [])
    × (column row 0 ≡ Text (codes "bag-ledger")) × (column row 1 ≡ Int format)

-- they don't say that it is a ledger
abbrev pub SayNoFormat : List Row → Type 0
SayNoFormat rows = (format : ℤ) → ¬ SaysFormat rows format

abbrev pub AreTransfers : List Row → Type 0
AreTransfers = AllByRecursion (λ row. IsInt (column row 0) × IsText (column row 1))

abbrev pub AreTags : List Row → Type 0
AreTags = AllByRecursion (λ row. IsText (column row 0) × IsBlob (column row 1))

abbrev pub AreItems : List Row → Type 0
AreItems = AllByRecursion (λ row. IsInt (column row 0) × IsText (column row 1)
    × IsInt (column row 2))

-- one of the queries, with its parameters
pub data Question : Type 0 where
  the_format : Question
  the_transfers : Question
  tags_under : ℤ → Question
  items_under : ℤ → Question
  body_of : ℤ → Question
  piece_at : ℤ → ℤ → Question
  count_under : ℤ → Question
  strays : (text : List ℕ) → Question
  all_texts : (text : List ℕ) → Question

-- it is asked of a ledger of this format
abbrev pub IsAsked : Format → Question → Type 0
IsAsked format the_format = Unit {0}
IsAsked format the_transfers = Unit {0}
IsAsked format (tags_under transfer) = Unit {0}
IsAsked format (items_under transfer) = Unit {0}
IsAsked format (body_of item) = format ≡ form.First
IsAsked format (piece_at item n) = format ≡ form.Second
IsAsked format (count_under item) = format ≡ form.Second
IsAsked format (strays text) = Has (stray_texts format) text
IsAsked format (all_texts text) = Has (names_and_paths format) text

abbrev pub text_of : Format → Question → List ℕ
text_of format the_format = format_text
text_of format the_transfers = transfers_text
text_of format (tags_under transfer) = tag_files_text
text_of format (items_under transfer) = items_text format
text_of format (body_of item) = body_text
text_of format (piece_at item n) = piece_text
text_of format (count_under item) = count_text
text_of format (strays text) = text
text_of format (all_texts text) = text

abbrev pub params_of : Question → Row
params_of the_format = []
params_of the_transfers = []
params_of (tags_under transfer) = Int transfer ∷ []
params_of (items_under transfer) = Int transfer ∷ []
params_of (body_of item) = Int item ∷ []
params_of (piece_at item n) = Int item ∷ Int n ∷ []
params_of (count_under item) = Int item ∷ []
params_of (strays text) = []
params_of (all_texts text) = []

-- the rows have the types that a ledger's rows have, and as many rows as a ledger can show
abbrev pub MayShow : Question → List Row → Type 0
MayShow the_format rows = SaysFormat rows (pos 1) ⊎ SaysFormat rows (pos 2)
MayShow the_transfers rows = AreTransfers rows
MayShow (tags_under transfer) rows = AreTags rows
MayShow (items_under transfer) rows = AreItems rows
MayShow (body_of item) rows = Unit {0}
MayShow (piece_at item n) rows = Unit {0}
MayShow (count_under item) rows = (row : Row) × (rows ≡ row ∷ []) × IsInt (column row 0)
MayShow (strays text) rows = rows ≡ []
MayShow (all_texts text) rows = AreTexts rows

-- WHAT IS DAMAGED

-- each has 65,536 octets
abbrev pub AreFull : List (List ℕ) → Type 0
AreFull = AllByRecursion (λ piece. length piece ≡ PIECE)

-- there is one row, with this many octets
abbrev pub ShowsOctets : List Row → ℕ → Type 0
ShowsOctets rows n = (row : Row) × (rows ≡ row ∷ [])
    × (octets : List ℕ) × (column row 0 ≡ Blob octets) × (length octets ≡ n)

-- one of the rows is no tag file that is allowed together with those of the rows before it
pub record HasBadTag (rows : List Row) : Type 0 where
  pub at : ℕ
  pub row : Row
  pub here : slice_get rows at ≡ Some row
  pub path : List ℕ
  pub octets : List ℕ
  pub row_is : (column row 0 ≡ Text path) × (column row 1 ≡ Blob octets)
  pub fault : TagSetFault
  pub no_memory : fault ≢ WantOfMemory
  pub refuses : RefusesFile (files_in (take at rows)) path octets fault

-- the tag files in these rows can't open a transfer
abbrev pub DoNotOpen : List Row → Type 0
DoNotOpen rows = HasBadTag rows
    ⊎ ((fault : PlanFault) × (fault ≢ NoMemory) × RefusesTags (files_in rows) fault)

-- a size that is within the limits of a payload file
abbrev pub IsSize : ℤ → Type 0
IsSize size = (octets : ℕ) × (size ≡ pos octets) × (octets ≤ LARGEST_ITEM)

module _ {S : Type 0} (g : Ghosts S) (db : Database) where
  -- the query can't be understood here, or it shows rows of which this isn't true
  abbrev pub DoesNotShow : List ℕ → Row → (List Row → Type 0) → Type 0
  DoesNotShow sql params such = IsNoQuery db.schema sql
      ⊎ ((rows : List Row) × Tells g db sql params rows × ¬ such rows)

  -- one of the queries for this format doesn't show what a ledger may show
  abbrev pub IsNoLedger : Format → Type 0
  IsNoLedger format = (asked : Question) × IsAsked format asked
      × DoesNotShow (text_of format asked) (params_of asked) (MayShow asked)

  -- the tag files of the transfer with this number can't open a transfer
  pub record OpensNone (transfer : ℤ) : Type 0 where
    pub tag_rows : List Row
    pub tags_told : Tells g db tag_files_text (Int transfer ∷ []) tag_rows
    pub none : DoNotOpen tag_rows

  -- there isn't one body with this many octets
  pub record LacksBody (item : ℤ) (size : ℕ) : Type 0 where
    pub rows : List Row
    pub told : Tells g db body_text (Int item ∷ []) rows
    pub other : ¬ ShowsOctets rows size

  -- these are the pieces, in order from the first
  abbrev pub ArePieces : ℤ → List (List ℕ) → Type 0
  ArePieces item pieces = (n : ℕ) (piece : List ℕ) → slice_get pieces n ≡ Some piece
      → TellsOne g db piece_text (Int item ∷ Int (pos n) ∷ []) (Blob piece)

  -- after some full pieces, the next one isn't as a payload file of this size would have it
  pub record LacksPiece (item : ℤ) (size : ℕ) : Type 0 where
    pub pieces : List (List ℕ)
    pub each : ArePieces item pieces
    pub full : AreFull pieces
    pub more : length (concat pieces) < size
    pub rows : List Row
    pub told : Tells g db piece_text (Int item ∷ Int (pos (length pieces)) ∷ []) rows
    pub other : ¬ ShowsOctets rows (min (size - length (concat pieces)) PIECE)

  -- there are more pieces than the ones that have this size in all
  pub record HasMorePieces (item : ℤ) (size : ℕ) : Type 0 where
    pub pieces : List (List ℕ)
    pub each : ArePieces item pieces
    pub cut : AreCut pieces
    pub size_is : size ≡ length (concat pieces)
    pub number : ℤ
    pub count : TellsOne g db count_text (Int item ∷ []) (Int number)
    pub other : number ≢ pos (length pieces)

  -- its body or its pieces aren't as a payload file of this size would have them
  abbrev pub LacksContent : Format → ℤ → ℕ → Type 0
  LacksContent form.First item size = LacksBody item size
  LacksContent form.Second item size = LacksPiece item size ⊎ HasMorePieces item size

module _ {S : Type 0} (g : Ghosts S) (db : Database) (format : Format) where
  -- it is complete, and its content isn't valid
  pub record HasOtherContent (tags : Files) (item : ℤ) (path : List ℕ) (size : ℕ) : Type 0 where
    pub content : List ℕ
    pub has : HasContent g db format item content
    pub size_is : size ≡ length content
    pub other : ¬ Passes tags path content

  -- a payload file isn't listed, isn't complete or isn't valid
  abbrev pub ItemFails : Files → ℤ → List ℕ → ℤ → Type 0
  ItemFails tags item path size = (¬ (IsPath path × IsExpected tags path))
      ⊎ ((¬ IsSize size) ⊎ ((octets : ℕ) × (size ≡ pos octets)
      × (LacksContent g db format item octets ⊎ HasOtherContent tags item path octets)))

  -- the first payload file of the transfer that isn't valid has this path
  pub record HasDamagedItem (tags : Files) (transfer : ℤ) (path : List ℕ) : Type 0 where
    pub rows : List Row
    pub told : Tells g db (items_text format) (Int transfer ∷ []) rows
    pub at : ℕ
    pub row : Row
    pub here : slice_get rows at ≡ Some row
    pub passing : AllByRecursion (RowPasses g db format tags) (take at rows)
    pub item : ℤ
    pub size : ℤ
    pub row_is : (column row 0 ≡ Int item) × (column row 1 ≡ Text path) × (column row 2 ≡ Int size)
    pub fails : ItemFails tags item path size

  -- the tag files open a transfer, and its first payload file that isn't valid has this path
  pub record HasDamage (transfer : ℤ) (path : List ℕ) : Type 0 where
    pub tag_rows : List Row
    pub tags_told : Tells g db tag_files_text (Int transfer ∷ []) tag_rows
    pub tag_files : AreTagFiles (files_in tag_rows)
    pub opens : Opens (files_in tag_rows)
    pub item : HasDamagedItem (files_in tag_rows) transfer path

  abbrev pub TransferFails : ℤ → List ℕ → Type 0
  TransferFails transfer path = (OpensNone g db transfer × (path ≡ [])) ⊎ HasDamage transfer path

  -- the first transfer that isn't valid has this name; the path is that of its first invalid
  -- payload file, or empty if its tag files are at fault
  pub record IsDamaged (name path : List ℕ) : Type 0 where
    pub rows : List Row
    pub told : Tells g db transfers_text [] rows
    pub at : ℕ
    pub row : Row
    pub here : slice_get rows at ≡ Some row
    pub passing : AllByRecursion (λ row. (transfer : ℤ)
        × (column row 0 ≡ Int transfer) × TransferPasses g db format transfer) (take at rows)
    pub transfer : ℤ
    pub row_is : (column row 0 ≡ Int transfer) × (column row 1 ≡ Text name)
    pub fails : TransferFails transfer path

  -- why the transfer with this number and name isn't accepted
  abbrev pub RefusesTransfer : ℤ → List ℕ → AdoptFault → Type 0
  RefusesTransfer transfer name NotALedger = IsNoLedger g db format
  RefusesTransfer transfer name (Damaged named path) = (string_bytes named ≡ name)
      × TransferFails transfer (string_bytes path)
  RefusesTransfer transfer name Memory = Unit {0}
  RefusesTransfer transfer name (Store error) = Unit {0}

  -- why its transfers aren't accepted
  abbrev pub RefusesTransfers : AdoptFault → Type 0
  RefusesTransfers NotALedger = IsNoLedger g db format
  RefusesTransfers (Damaged name path) = IsDamaged (string_bytes name) (string_bytes path)
  RefusesTransfers Memory = Unit {0}
  RefusesTransfers (Store error) = Unit {0}

  -- why it isn't opened as a ledger of this format; if it is damaged, all of its rows are those of a ledger
  abbrev pub RefusesAs : AdoptFault → Type 0
  RefusesAs NotALedger = IsNoLedger g db format
  RefusesAs (Damaged name path) = HasLedgerRows g db format
      × IsDamaged (string_bytes name) (string_bytes path)
  RefusesAs Memory = Unit {0}
  RefusesAs (Store error) = Unit {0}

module _ {S : Type 0} (g : Ghosts S) (db : Database) where
  -- it names no format that there is
  abbrev pub HasNoFormat : Type 0
  HasNoFormat = DoesNotShow g db format_text [] (MayShow the_format)

  -- Why it isn't opened. The format is looked at first, and then the tables of this format alone.
  -- Nothing is said here about memory and the store.
  abbrev pub RefusesToAdopt : AdoptFault → Type 0
  RefusesToAdopt NotALedger = HasNoFormat
      ⊎ ((format : Format) × HasFormat g db (number_of format) × RefusesAs g db format NotALedger)
  RefusesToAdopt (Damaged name path) = (format : Format) × HasFormat g db (number_of format)
      × RefusesAs g db format (Damaged name path)
  RefusesToAdopt Memory = Unit {0}
  RefusesToAdopt (Store error) = Unit {0}
