-- What a command prints.
use Rattle.std.specs.Prelude.{◌≡◌, ◌≢◌, ℕ, List, [], ◌∷◌, IsTrue, Option, None, Result, Some, codes, map, string_bytes}
use Rattle.bag_ledger.specs.declared.keeper.Keeper.{Ghosts}
use Rattle.bag_rules.specs.declared.outcome.Outcome.{Outcome}
use Rattle.bag_rules.specs.declared.outcome.CheckFault.{CheckFault}
use Rattle.bag_commands.specs.declared.status.TheConstants.{DONE, FAILED, USAGE}
use Rattle.bag_commands.specs.declared.output.Output.{Output}
use Rattle.bag_commands.specs.declared.no_result.NoResult.TheVariants.{Files, Memory}
use Rattle.bag_rules.specs.Checking.{ChecksTree}
use Rattle.bag_commands.specs.Checking.{PrintedChecking}
use Rattle.bag_commands.specs.Outputs.{Printed}
use Rattle.bag_commands.specs.NoResultTexts.{no_result_text}
use Rattle.bag_folder.specs.declared.root.Root.TheVariants.{Base}
use Rattle.bag_folder.specs.declared.new_folders.NewFolders.{Ghosts as NewFolders}
use Rattle.bag_folder.specs.Folders.{DiskShown, FolderShown, IsOpened, IsRefused}
use Rattle.bag_folder.specs.Unfits.{UnfitShown}
use Rattle.bag_writer.specs.declared.sink.Sink.{Ghosts as SinkOf}
use Rattle.bag_program.specs.declared.explanation.Ended.{Ended}
use Rattle.bag_program.specs.declared.ledgers.Ledgers.{Ghosts as Ledgers}
use Rattle.bag_program.specs.declared.explanation.Why.TheVariants.{Unfit}
use Rattle.bag_program.specs.declared.command_line.Request.{Request}
use Rattle.bag_program.specs.declared.command_line.Request.TheVariants.{Check, Ledger, Make}
use Rattle.bag_program.specs.Endings.{why_unchecked}
use Rattle.bag_program.specs.Making.{PrintsMake}
use Rattle.bag_program.specs.CommandLines.{AsksFor, NamesCommand, asks_for_help}
use Rattle.bag_program.specs.Working.{WorksOn}

-- a result of `check` for an open folder, which may fail
abbrev pub IsFolderAnswer : FolderShown → FolderShown → Result Outcome CheckFault → Type 0
IsFolderAnswer = ChecksTree (λ tree. tree.shown) (λ tree. tree.failures) (λ tree. ⊥)

-- What `check` prints for a folder, and what is told of it besides. The disk may be known. Either a
-- result for what was opened under this name, with the reason if the check ended with a fault; or `bag: files` because
-- something isn't allowed in a bag, which is told; or that memory ran out.
pub data PrintsCheck {W : Type 0} (contents : W → Option (List ℕ)) (known : DiskShown)
    (folder : List ℕ) (old new : Output W) (result : Ended) : Type 0 where
  Answered : (tree later : FolderShown) (fault : Option CheckFault)
      → IsOpened known folder Base tree
      → PrintedChecking contents old new (record { status = result.status; fault = fault })
      (IsFolderAnswer tree later)
      → result.why ≡ why_unchecked later fault
      → PrintsCheck contents known folder old new result
  Refused : (unfit : UnfitShown) → IsRefused known folder Base unfit
      → Printed contents old new result.status (no_result_text Files ∷ []) FAILED
      → result.why ≡ Some (Unfit unfit)
      → PrintsCheck contents known folder old new result
  NoMemory : Printed contents old new result.status (no_result_text Memory ∷ []) FAILED
      → result.why ≡ None
      → PrintsCheck contents known folder old new result

-- The answer to arguments that are no known command: help, if they ask for it; a usage error on standard error; or that
-- memory ran out.
pub data RefusesWords {W : Type 0} (contents : W → Option (List ℕ)) (words : List (List ℕ))
    (old new : Output W) (result : ℕ) : Type 0 where
  Helped : (text : List ℕ) → IsTrue (asks_for_help words)
      → Printed contents old new result (text ∷ []) DONE
      → RefusesWords contents words old new result
  Told : new ≡ old → result ≡ USAGE → RefusesWords contents words old new result
  Unsaid : Printed contents old new result (no_result_text Memory ∷ []) FAILED
      → RefusesWords contents words old new result

-- the line for an empty command line
abbrev pub usage_line : List ℕ
usage_line = codes "bag: check, make, begin, intake, report, audit, fetch, export, list"

module _ {L K N U C F S B W : Type 0} (k : Ghosts K) (l : Ledgers L K N U C) (s : SinkOf S)
    (f : NewFolders F S B) (contents : W → Option (List ℕ)) where
  -- What a command did: what it printed, what is told of it besides, and where the folder for a bag
  -- is made, which only `make` and `export` use.
  abbrev pub Runs : DiskShown → Request → F → F → Output W → Output W → Ended → Type 0
  Runs known (Check folder) before after old new result =
      (after ≡ before) × PrintsCheck contents known folder.now old new result
  Runs known (Make source destination algorithms) before after old new result =
      PrintsMake contents s f known (record {
        source = source.now;
        destination = destination.now;
        names = map string_bytes algorithms.now;
      }) before after old new result
  Runs known (Ledger ledger work) before after old new result =
      WorksOn k l s f known contents ledger.now work before after old new result

  -- What a command line did: either it ran the command that its arguments ask for, or they are no
  -- known command, which was reported.
  pub data RunsCommand (known : DiskShown) (words : List (List ℕ))
      (before after : F) (old new : Output W) (result : Ended) : Type 0 where
    Named : (request : Request) → AsksFor words request
        → Runs known request before after old new result
        → RunsCommand known words before after old new result
    NoWords : words ≡ [] → after ≡ before
        → Printed contents old new result.status (usage_line ∷ []) USAGE → result.why ≡ None
        → RunsCommand known words before after old new result
    NoCommand : words ≢ [] → ¬ NamesCommand words → after ≡ before
        → RefusesWords contents words old new result.status → result.why ≡ None
        → RunsCommand known words before after old new result
    NoMemory : words ≢ [] → after ≡ before
        → Printed contents old new result.status (no_result_text Memory ∷ []) FAILED
        → result.why ≡ None
        → RunsCommand known words before after old new result

  -- this command line was run, on a disk that may be known, and ended with this status
  abbrev pub RanWords : DiskShown → List (List ℕ) → F → Output W → Output W → ℕ → Type 0
  RanWords known words before old new result = (after : F) × (ended : Ended)
      × RunsCommand known words before after old new ended × (result ≡ ended.status)

  -- some command line was
  abbrev pub Ran : DiskShown → F → Output W → Output W → ℕ → Type 0
  Ran known before old new result =
      (words : List (List ℕ)) × RanWords known words before old new result
