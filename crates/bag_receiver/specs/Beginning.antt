-- How a transfer is opened.
use Rattle.std.specs.Prelude.{◌≡◌, ◌≢◌, ◌⊎◌, ◌<◌, ◌∷◌, [], ℕ, List, None, Some, Result, Ok, Err, Contains, Vec, length, map, slice_get, string_bytes, take}
use Rattle.std.specs.Map.{keys_of}
use Rattle.std.specs.declared.alloc.Global.{Global}
use Rattle.std.specs.declared.string.String.{String}
use Rattle.bag_rules.specs.declared.limits.TheConstants.{LARGEST_TAG_FILE}
use Rattle.bag_rules.specs.declared.plan_fault.PlanFault.{PlanFault}
use Rattle.bag_rules.specs.declared.plan_fault.PlanFault.TheVariants as plan
use Rattle.bag_rules.specs.Faults.{Has}
use Rattle.bag_rules.specs.Files.{Files, IsTagPath}
use Rattle.bag_rules.specs.Opening.{HasManyLinesAt, IsFirstPath, Opens, RefusesTags}
use Rattle.bag_rules.specs.Transfers.{with_files}
use Rattle.bag_ledger.specs.declared.keeper_faults.KeepFault.{KeepFault}
use Rattle.bag_ledger.specs.declared.keeper_faults.KeepFault.TheVariants.{Memory, Store}
use Rattle.bag_ledger.specs.Keeping.{IsUnused}
use Rattle.bag_ledger.specs.Ledgers.{Ledger, begun, tags_of, transfer_of, with_transfer}
use Rattle.bag_receiver.specs.declared.begin.Begun.{Begun}
use Rattle.bag_receiver.specs.declared.begin.Begun.TheVariants.{New, Again}
use Rattle.bag_receiver.specs.declared.begin.BeginFault.{BeginFault}
use Rattle.bag_receiver.specs.declared.begin.BeginFault.TheVariants.{BadName, TagPath, TagTooLarge, Outside, Rules, Clash, Differs, Keeper}
use Rattle.bag_receiver.specs.TransferNames.{IsTransferName}
use Rattle.bag_receiver.specs.LedgerStates.{Happened, HasTransfer, LeavesOthers, LedgerState, with_doubtful_ledger}
use Rattle.bag_receiver.specs.Stops.{TransferState}

-- THE FILES GIVEN, in any order: each path, as text, with its octets

abbrev pub given_in : List (String Global × Vec ℕ Global) → Files
given_in files = map (λ (file : String Global × Vec ℕ Global).
    (string_bytes file.0, file.1.items)) files

-- the text at index i isn't the path of a tag file, or it is the path of an earlier file
pub record IsMisplaced (given : Files) (i : ℕ) : Type 0 where
  pub file : List ℕ × List ℕ
  pub at : slice_get given i ≡ Some file
  pub misplaced : (¬ IsTagPath file.0) ⊎ Contains (keys_of (take i given)) file.0

abbrev pub NoneMisplaced : Files → Type 0
NoneMisplaced given = (i : ℕ) → ¬ IsMisplaced given i

-- some file with this path has too many octets
abbrev pub IsHeavyAt : Files → List ℕ → Type 0
IsHeavyAt given path = (octets : List ℕ) × Has given (path, octets)
    × (LARGEST_TAG_FILE < length octets)

-- the file has too many octets, or it is a manifest or `fetch.txt` and has too many lines
abbrev pub IsLargeAt : Files → List ℕ → Type 0
IsLargeAt given path = IsHeavyAt given path ⊎ HasManyLinesAt (with_files [] given) path

abbrev pub NoneLarge : Files → Type 0
NoneLarge given = (path : List ℕ) → ¬ IsLargeAt given path

-- a transfer can be opened with these files, and these are its tag files
pub record AreTaken (given tags : Files) : Type 0 where
  pub placed : NoneMisplaced given
  pub within : NoneLarge given
  pub tags_are : tags ≡ with_files [] given
  pub opens : Opens tags

-- no transfer can be opened: the files as tag files don't open, for this first reason
pub record AreRefused (given : Files) (fault : PlanFault) : Type 0 where
  pub placed : NoneMisplaced given
  pub within : NoneLarge given
  pub refused : RefusesTags (with_files [] given) fault

-- the first reason why no transfer can be opened, in this order
abbrev pub RefusesFiles : Files → BeginFault → Type 0
RefusesFiles given (TagPath i) = IsMisplaced given i × ((j : ℕ) → j < i → ¬ IsMisplaced given j)
RefusesFiles given (TagTooLarge path) = NoneMisplaced given × IsFirstPath (IsLargeAt given) path
RefusesFiles given (Outside cause) = AreRefused given (plan.Outside cause)
RefusesFiles given (Rules fault) = AreRefused given (plan.Rules fault)
RefusesFiles given (Clash path) = AreRefused given (plan.Clash path)
RefusesFiles given fault = ⊥

-- THE ANSWER, AND HOW IT CHANGES WHAT IS HELD

-- the transfer exists, with these tag files
abbrev pub IsOpenWith : LedgerState → List ℕ → Files → Type 0
IsOpenWith state name tags = tags_of state.held name ≡ Some tags

-- a transfer may be opened with this name and these files
abbrev pub MayBegin : List ℕ → Files → Type 0
MayBegin name given = IsTransferName name × ((tags : Files) × AreTaken given tags)

-- memory may run out at any time; the store is used only for such a transfer
abbrev pub MayFail : KeepFault → List ℕ → Files → Type 0
MayFail Memory name given = Unit {0}
MayFail (Store fault) name given = MayBegin name given

-- The answer fits the name and the files, whatever the keeper holds.
abbrev pub IsAnswerTo : Result Begun BeginFault → List ℕ → Files → Type 0
IsAnswerTo (Err BadName) name given = ¬ IsTransferName name
IsAnswerTo (Err (Keeper fault)) name given = MayFail fault name given
IsAnswerTo (Err Differs) name given = MayBegin name given
IsAnswerTo (Err fault) name given = IsTransferName name × RefusesFiles given fault
IsAnswerTo (Ok begun) name given = MayBegin name given

-- the ledger with the transfer to be opened
abbrev pub Opened : List ℕ → Files → Ledger → Ledger → Type 0
Opened name given old new = (tags : Files) × IsTransferName name × AreTaken given tags
    × IsUnused name old × (new ≡ with_transfer old name tags)

-- The first refusal is reported: the name, the files, other tag files. If the keeper has no answer, nothing changes, or
-- what it was about to open is doubtful.
abbrev pub BeginStep : Result Begun BeginFault → List ℕ → Files → LedgerState → LedgerState → Type 0
BeginStep (Ok New) name given old new = Opened name given old.held new.held × (new.doubtful ≡ [])
BeginStep (Ok Again) name given old new = (tags : Files) × IsTransferName name
    × AreTaken given tags × IsOpenWith old name tags × (new ≡ old)
BeginStep (Err BadName) name given old new = (¬ IsTransferName name) × (new ≡ old)
BeginStep (Err Differs) name given old new = (tags : Files) × IsTransferName name
    × AreTaken given tags × ((other : Files) × IsOpenWith old name other × (other ≢ tags))
    × (new ≡ old)
BeginStep (Err (Keeper fault)) name given old new = MayFail fault name given
    × ((new ≡ old) ⊎ ((ledger : Ledger) × Opened name given old.held ledger
    × (new ≡ with_doubtful_ledger old ledger)))
BeginStep (Err fault) name given old new = IsTransferName name × RefusesFiles given fault
    × (new ≡ old)

-- These files were given for this name, and nothing else happened.
pub record Begins (name : List ℕ) (given : Files) (result : Result Begun BeginFault)
    (old new : LedgerState) : Type 0 where
  pub step : BeginStep result name given old new
  -- a transfer that was opened holds nothing yet
  pub opened : result ≡ Ok New → Happened new name (with_files [] given) []
  -- the same for a transfer that a stop may show to be open, if the keeper had no answer
  pub left : (crashed : Ledger) → Has new.doubtful crashed → Has old.doubtful crashed
      ⊎ (transfer_of crashed name ≡ Some (begun (with_files [] given)))
  -- a transfer that existed holds what it held
  pub kept : (tags : Files) (files : TransferState) → HasTransfer old name tags files
      → HasTransfer new name tags files
  pub others : LeavesOthers name old new

-- The transfer with this name may be open: each ledger that a stop may leave has no such transfer, or has it with these
-- tag files and no payload files.
abbrev pub MayBeOpen : LedgerState → List ℕ → Files → Type 0
MayBeOpen state name tags = (ledger : Ledger) → Has (state.held ∷ state.doubtful) ledger
    → (transfer_of ledger name ≡ None) ⊎ (transfer_of ledger name ≡ Some (begun tags))
