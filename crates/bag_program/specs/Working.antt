-- Work on a ledger: how it is opened, and what is done with it.
use Rattle.std.specs.Prelude.{◌≡◌, ◌⊎◌, ◌↔◌, ◌∷◌, ◌++◌, [], ℕ, Bool, List, None, Option, Result, Some, codes, false, is_some, map, string_bytes}
use Rattle.std.specs.Option.{option_or}
use Rattle.bag_rules.specs.declared.report.Report.{Report as BagReport}
use Rattle.bag_ledger.specs.declared.keeper.Keeper.{Ghosts}
use Rattle.bag_path.specs.Spellings.{written_spelling}
use Rattle.bag_receiver.specs.declared.receiver.Receiver.{Receiver}
use Rattle.bag_receiver.specs.declared.report.ViewFault.{ViewFault}
use Rattle.bag_receiver.specs.Audits.{IsAuditing}
use Rattle.bag_receiver.specs.declared.begin.BeginFault.{BeginFault}
use Rattle.bag_receiver.specs.BeginningFrom.{BeginsFrom}
use Rattle.bag_receiver.specs.Exporting.{IsExporting}
use Rattle.bag_receiver.specs.Fetching.{IsFetching}
use Rattle.bag_receiver.specs.Listing.{IsListing}
use Rattle.bag_receiver.specs.Receivers.{Does, IsInState, IsKept}
use Rattle.bag_receiver.specs.ReceiversInside.{Same}
use Rattle.bag_receiver.specs.LedgerStates.{LedgerState}
use Rattle.bag_receiver.specs.ViewAnswers.{IsReporting}
use Rattle.bag_sqlite.specs.declared.adopting.AdoptFault.{AdoptFault}
use Rattle.bag_sqlite.specs.declared.adopting.AdoptFault.TheVariants.{Damaged, Memory, NotALedger, Store}
use Rattle.bag_commands.specs.declared.output.Output.{Output}
use Rattle.bag_commands.specs.declared.status.TheConstants.{FAILED}
use Rattle.bag_commands.specs.declared.no_result.NoResult.TheVariants as no_result
use Rattle.bag_commands.specs.Beginning.{PrintedBeginning}
use Rattle.bag_commands.specs.ExportTexts.{export_status, export_text}
use Rattle.bag_commands.specs.FetchTexts.{fetch_lines, fetch_status}
use Rattle.bag_commands.specs.Intakes.{IsRun, TakesIn}
use Rattle.bag_commands.specs.IntakeTexts.{Told, intake_lines, intake_status}
use Rattle.bag_commands.specs.ListTexts.{list_lines, list_status}
use Rattle.bag_commands.specs.Outputs.{Printed, PrintedBy, PrintedOne}
use Rattle.bag_commands.specs.NoResultTexts.{no_result_text}
use Rattle.bag_commands.specs.Viewing.{IsValidIfZero}
use Rattle.bag_commands.specs.ViewTexts.{view_lines, view_status}
use Rattle.bag_folder.specs.declared.fault.OpenFault.{OpenFault}
use Rattle.bag_folder.specs.declared.root.Root.TheVariants.{Base}
use Rattle.bag_program.specs.declared.explanation.Ended.{Ended}
use Rattle.bag_program.specs.declared.explanation.Why.{Why}
use Rattle.bag_program.specs.declared.explanation.Why.TheVariants.{Unfit}
use Rattle.bag_program.specs.declared.command_line.Work.{Work}
use Rattle.bag_program.specs.declared.command_line.Work.TheVariants.{Audit, Begin, Export, Fetch, Intake, List as ListNames, Report}
use Rattle.bag_folder.specs.Bringing.{Bringing, courier_of, to_come}
use Rattle.bag_folder.specs.Folders.{DiskShown, FolderShown, IsOpened, IsRefused}
use Rattle.bag_program.specs.LedgerFiles.{OpensOrMakes}
use Rattle.bag_program.specs.declared.ledgers.Ledgers.{Ghosts as Ledgers}
use Rattle.bag_program.specs.declared.ledgers.ledger_cause.LedgerCause.{LedgerCause}
use Rattle.bag_program.specs.declared.ledgers.unopened_ledger.Unopened.{Unopened}
use Rattle.bag_program.specs.Endings.{IsWhyOf, IsWhyUnbegun, or_why, why_undelivered_of, why_unopened}
use Rattle.bag_program.specs.NoResults.{no_result_of_open}
use Rattle.bag_program.specs.Making.{IsUnmade, MakesInto}
use Rattle.bag_folder.specs.declared.new_folders.NewFolders.{Ghosts as NewFolders}
use Rattle.bag_writer.specs.declared.sink.Sink.{Ghosts as SinkOf}
use Rattle.bag_folder.specs.Supplying.{IsReadyFolder, SupplierShown, supply_of}
use Rattle.bag_folder.specs.Unfits.{UnfitShown}

-- OPENING

-- the ledger that was opened for this work, or that `begin` made
abbrev pub IsOpenFor : {L K F U C : Type 0} → Ledgers L K F U C → List ℕ → Work → Bool → K → Type 0
IsOpenFor l ledger (Begin name folder) is_made kept =
    OpensOrMakes is_made (l.opened ledger kept) (l.made ledger kept)
IsOpenFor l ledger work is_made kept = (is_made ≡ false) × l.opened ledger kept

-- no ledger was opened for this work, nor made by `begin`, and this is why
abbrev pub IsUnopenedFor : {L K F U C : Type 0} → Ledgers L K F U C → List ℕ → Work → Unopened U
    → Type 0
IsUnopenedFor l ledger (Begin name folder) = l.unmade ledger
IsUnopenedFor l ledger work = l.unopened ledger

-- the line that says why it wasn't opened
abbrev pub unopened_line : AdoptFault → List ℕ
unopened_line NotALedger = codes "bag: not a ledger"
unopened_line (Damaged name path) = codes "bag: damaged " ++ written_spelling (string_bytes name)
    ++ codes " " ++ written_spelling (string_bytes path)
unopened_line Memory = no_result_text no_result.Memory
unopened_line (Store error) = no_result_text no_result.Store

-- the transfer that is reported on
abbrev pub viewed : Work → Option (List ℕ)
viewed (Report name) = Some name.now
viewed (Audit name) = Some name.now
viewed work = None

-- FOLDERS

-- What a command on the bag in a folder did. The disk may be known. Either the folder was opened, and this was done
-- with it; or nothing was done, and `bag: files` was printed because something isn't allowed in a bag, which is told,
-- or that memory ran out.
pub data WithFolder {W : Type 0} (contents : W → Option (List ℕ)) (known : DiskShown)
    (folder : List ℕ) (untouched : Type 0) (does : FolderShown → FolderShown → Type 0)
    (old new : Output W) (result : Ended) : Type 0 where
  Opened : (tree later : FolderShown) → IsOpened known folder Base tree → does tree later
      → WithFolder contents known folder untouched does old new result
  Refused : (unfit : UnfitShown) → IsRefused known folder Base unfit → untouched
      → Printed contents old new result.status (no_result_text no_result.Files ∷ []) FAILED
      → result.why ≡ Some (Unfit unfit)
      → WithFolder contents known folder untouched does old new result
  NoMemory : untouched
      → Printed contents old new result.status (no_result_text no_result.Memory ∷ []) FAILED
      → result.why ≡ None
      → WithFolder contents known folder untouched does old new result

-- these folders were opened, in this order
abbrev pub AreOpened : DiskShown → List (List ℕ) → List FolderShown → Type 0
AreOpened known [] [] = Unit {0}
AreOpened known (folder ∷ folders) (tree ∷ trees) =
    IsOpened known folder Base tree × AreOpened known folders trees
AreOpened known folders trees = ⊥

-- the first of the folders that can't be opened, behind those that were
abbrev pub FirstIsRefused : DiskShown → List (List ℕ) → UnfitShown → Type 0
FirstIsRefused known [] unfit = ⊥
FirstIsRefused known (folder ∷ folders) unfit = IsRefused known folder Base unfit
    ⊎ ((tree : FolderShown) × IsOpened known folder Base tree × FirstIsRefused known folders unfit)

-- the same for several folders, and if they were opened, the first is told that has too many payload files or none
pub data WithFolders {W : Type 0} (contents : W → Option (List ℕ)) (known : DiskShown)
    (folders : List (List ℕ)) (untouched : Type 0) (does : List FolderShown → Type 0)
    (old new : Output W) (result : Ended) : Type 0 where
  AllOpened : (trees : List FolderShown) → AreOpened known folders trees → does trees
      → result.why ≡ why_undelivered_of trees
      → WithFolders contents known folders untouched does old new result
  OneRefused : (unfit : UnfitShown) → FirstIsRefused known folders unfit → untouched
      → Printed contents old new result.status (no_result_text no_result.Files ∷ []) FAILED
      → result.why ≡ Some (Unfit unfit)
      → WithFolders contents known folders untouched does old new result
  OutOfMemory : untouched
      → Printed contents old new result.status (no_result_text no_result.Memory ∷ []) FAILED
      → result.why ≡ None
      → WithFolders contents known folders untouched does old new result

-- WORK

-- a receiver that uses this keeper
pub record IsOver {K : Type 0} (k : Ghosts K) (kept : K) (receiver : Receiver K) : Type 0 where
  pub keeper : receiver.keeper ≡ kept
  pub in_state : (now : LedgerState) → IsKept k.holds k.may_leave kept now
      → IsInState k.holds k.may_leave receiver now

-- Such an answer of a report or an audit was printed. The status is 0 only if the transfer holds a
-- valid bag.
pub record Views {K W : Type 0} (k : Ghosts K) (contents : W → Option (List ℕ)) (name : List ℕ)
    (before after : Receiver K) (old new : Output W) (result : Ended)
    (answers : Result BagReport ViewFault → Type 0) : Type 0 where
  pub valid : IsValidIfZero k.holds k.may_leave k.clean name before after result.status
  pub printed : PrintedBy contents view_lines view_status old new result.status answers
  pub untold : result.why ≡ None

-- Either the folder was searched for what `fetch.txt` lists and isn't held, or it couldn't be opened and that was
-- printed and told. The disk may be known.
pub data FetchesFrom {K W : Type 0} (k : Ghosts K) (known : DiskShown)
    (contents : W → Option (List ℕ)) (name folder : List ℕ) (before after : Receiver K)
    (old new : Output W) (result : Ended) : Type 0 where
  Fetched : (supplier later : SupplierShown) → IsReadyFolder folder supplier
      → supplier.standing ≡ known.standing
      → PrintedBy contents fetch_lines fetch_status old new result.status (IsFetching k.holds
      k.may_leave k.clean k.failures supply_of (λ (supplier : SupplierShown). supplier.failures)
      (λ (supplier : SupplierShown). supplier.asks) name before after supplier later)
      → result.why ≡ None
      → FetchesFrom k known contents name folder before after old new result
  NoFolder : (fault : OpenFault) → IsUnmade folder fault → after ≡ before
      → Printed contents old new result.status
      (no_result_text (no_result_of_open fault) ∷ []) FAILED
      → result.why ≡ why_unopened fault
      → FetchesFrom k known contents name folder before after old new result

-- the bag that is held was exported to a folder that was made for it
abbrev pub ExportsInto : {K F S B W : Type 0} → Ghosts K → SinkOf S → NewFolders F S B
    → (W → Option (List ℕ)) → List ℕ → List ℕ → F → F → Receiver K → Receiver K → Output W
    → Output W → Ended → Type 0
ExportsInto k s f contents name folder made now before after old new result =
    MakesInto contents s f (λ sink later. PrintedOne contents export_text export_status old new
    result.status (IsExporting k.holds k.may_leave k.clean k.failures s.stored s.is_open s.failures
    s.sure name before after sink later)) (after ≡ before) folder made now old new result

module _ {K W : Type 0} (k : Ghosts K) (known : DiskShown)
    (contents : W → Option (List ℕ)) where
  abbrev pub BeginsWith : List ℕ → List ℕ → Receiver K → Receiver K → Output W → Output W → Ended
      → Type 0
  BeginsWith name folder before after old new result =
      WithFolder contents known folder (after ≡ before) (λ tree later. (fault : Option BeginFault)
      × PrintedBeginning contents old new (record { status = result.status; fault = fault })
      (BeginsFrom k.holds k.may_leave k.clean k.failures (λ (tree : FolderShown). tree.shown)
      (λ (tree : FolderShown). tree.failures) (λ (tree : FolderShown). ⊥) name before after
      tree later) × IsWhyUnbegun later name fault result.why) old new result

  -- the payload files of these folders were taken in
  abbrev pub TakesInFrom : List ℕ → List (List ℕ) → Receiver K → Receiver K → Output W → Output W
      → Ended → Type 0
  TakesInFrom name folders before after old new result =
      WithFolders contents known folders (after ≡ before) (λ trees.
      (laters : List (Bringing FolderShown)) × (told : List Told)
      × TakesIn (IsRun k.holds k.may_leave k.clean k.failures
      (λ (courier : Bringing FolderShown). to_come courier.tree.shown courier.place)
      (λ (courier : Bringing FolderShown). courier.failures)
      (λ (courier : Bringing FolderShown). courier.nexts)
      (λ (courier : Bringing FolderShown). Unit {0}) name)
      (map courier_of trees) laters told before after
      × Printed contents old new result.status (intake_lines told) (intake_status told)) old new
      result

  -- what was done on the ledger, and where the folder for a bag is made, which only `export` uses
  abbrev pub DoesWork : {F S B : Type 0} → SinkOf S → NewFolders F S B → Work → F → F → Receiver K
      → Receiver K → Output W → Output W → Ended → Type 0
  DoesWork s f (Begin name folder) made now before after old new result = (now ≡ made)
      × BeginsWith name.now folder.now before after old new result
  DoesWork s f (Intake name folders) made now before after old new result = (now ≡ made)
      × TakesInFrom name.now (map string_bytes folders.now) before after old new result
  DoesWork s f (Report name) made now before after old new result = (now ≡ made)
      × Views k contents name.now before after old new result
      (IsReporting k.holds k.may_leave k.clean k.failures name.now before after)
  DoesWork s f (Audit name) made now before after old new result = (now ≡ made)
      × Views k contents name.now before after old new result
      (IsAuditing k.holds k.may_leave k.clean k.failures name.now before after)
  DoesWork s f (Fetch name folder) made now before after old new result = (now ≡ made)
      × FetchesFrom k known contents name.now folder.now before after old new
      result
  DoesWork s f (Export name folder) made now before after old new result =
      ExportsInto k s f contents name.now folder.now made now before after old new
      result
  DoesWork s f ListNames made now before after old new result = (now ≡ made)
      × PrintedBy contents list_lines list_status old new result.status
      (IsListing k.holds k.may_leave k.clean k.failures before after)
      × (result.why ≡ None)

module _ {L K N U C F S B W : Type 0} (k : Ghosts K) (l : Ledgers L K N U C) (s : SinkOf S)
    (f : NewFolders F S B) (known : DiskShown) (contents : W → Option (List ℕ))
    (ledger : List ℕ) where
  -- the ledger was opened, and this was done with it
  pub record Works (work : Work) (folder now : F) (after : Receiver K)
      (old new : Output W) (result : Ended) : Type 0 where
    pub kept : K
    pub is_made : Bool
    pub before : Receiver K
    pub open_for : IsOpenFor l ledger work is_made kept
    pub over : IsOver k kept before
    pub done : DoesWork k known contents s f work folder now before after old new result

  -- The ledger was closed after the work. At most its names were read before that. If the store has
  -- failed, or the log stays beside the file, why is told, unless more is told already or memory ran
  -- out. What failed first comes first.
  pub record IsClosedAfter (after : Receiver K) (ended result : Ended) : Type 0 where
    pub last : Receiver K
    pub only_read : Does k.holds k.may_leave k.clean after last Same
    pub left : C
    pub is_left : l.closed last.keeper left
    pub trouble : Option LedgerCause
    pub failed : (trouble ≡ None) ↔ (k.failures last.keeper ≡ 0)
    pub log : Option LedgerCause
    pub stays : (log ≡ None) ↔ (¬ l.apart left)
    pub why : Option Why
    pub is_why : IsWhyOf ledger (option_or trouble log) why
    pub told : result ≡ or_why ended why

  -- What work on a ledger did: either the ledger was opened, this was done with it and it was
  -- closed; or it wasn't opened, and the fault that its opening had was printed, and its cause is
  -- told, unless memory ran out.
  pub data WorksOn (work : Work) (folder now : F) (old new : Output W)
      (result : Ended) : Type 0 where
    Worked : (after : Receiver K) (ended : Ended) → Works work folder now after old new ended
        → IsClosedAfter after ended result → WorksOn work folder now old new result
    NotOpened : (it : Unopened U) → IsUnopenedFor l ledger work it → now ≡ folder
        → Printed contents old new result.status (unopened_line it.fault ∷ []) FAILED
        → IsWhyOf ledger it.cause result.why → WorksOn work folder now old new result
