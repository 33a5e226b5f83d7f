-- A report or an audit that answers that a transfer is valid.
use Rattle.std.proofs.Common.{◌≡◌, Bool, ℕ, List, Option, Result, Some, subst}
use Rattle.std.proofs.lemmas.Option.{same_Some}
use Rattle.bag_rules.specs.declared.report.Report.{Report as BagReport}
use Rattle.bag_ledger.specs.declared.keeper.Keeper.{Ghosts}
use Rattle.bag_commands.specs.declared.output.Output.{Output}
use Rattle.bag_commands.specs.declared.status.TheConstants.{VALID}
use Rattle.bag_commands.specs.Viewing.{HoldsValidBag}
use Rattle.bag_receiver.specs.declared.receiver.Receiver.{Receiver}
use Rattle.bag_receiver.specs.declared.report.ViewFault.{ViewFault}
use Rattle.bag_receiver.specs.Receivers.{IsInState}
use Rattle.bag_receiver.specs.LedgerStates.{LedgerState}
use Rattle.bag_receiver.specs.ViewAnswers.{IsReporting}
use Rattle.bag_folder.specs.declared.new_folders.NewFolders.{Ghosts as NewFolders}
use Rattle.bag_folder.specs.Folders.{DiskShown}
use Rattle.bag_writer.specs.declared.sink.Sink.{Ghosts as SinkOf}
use Rattle.bag_program.specs.declared.explanation.Ended.{Ended}
use Rattle.bag_program.specs.declared.ledgers.Ledgers.{Ghosts as Ledgers}
use Rattle.bag_program.specs.declared.command_line.Work.{Work}
use Rattle.bag_program.specs.declared.command_line.Work.TheVariants.{Audit, Begin, Export, Fetch, Intake, List as ListNames, Report}
use Rattle.bag_program.specs.Working.{DoesWork, IsOpenFor, Views, viewed}

module _ {K W : Type 0} (k : Ghosts K) (known : DiskShown) (contents : W → Option (List ℕ)) (before after : Receiver K) (old new : Output W) (result : Ended) (valid : result.status ≡ VALID)
    (clean : k.clean after.keeper) (name : List ℕ) where
  -- the keeper was clean before, and whatever the receiver held, it held a valid bag
  abbrev Valid : Type 0
  Valid = k.clean before.keeper × ((state : LedgerState) → IsInState k.holds k.may_leave before state → HoldsValidBag state.held name)

  by_view : (given : List ℕ) (answers : Result BagReport ViewFault → Type 0) → ((answer : Result BagReport ViewFault) → answers answer → IsReporting k.holds k.may_leave k.clean k.failures given before after answer)
      → ◌≡◌ {A = Option (List ℕ)} (Some given) (Some name) → Views k contents given before after old new result answers → Valid
  by_view given answers reports is views = ((reports _ views.printed.1).looks.was_clean clean, λ state in_state. subst (HoldsValidBag state.held) (same_Some given name is) (views.valid valid clean state in_state))

  pub valid_by : {F S B : Type 0} (s : SinkOf S) (f : NewFolders F S B) (made now : F) (work : Work) → viewed work ≡ Some name → DoesWork k known contents s f work made now before after old new result → Valid
  valid_by s f made now (Report given) is does = by_view _ _ (λ answer reports. reports) is does.1
  valid_by s f made now (Audit given) is does = by_view _ _ (λ answer audits. audits.reporting) is does.1
  valid_by s f made now (Begin given folder) is does = absurd (cc)
  valid_by s f made now (Intake given folders) is does = absurd (cc)
  valid_by s f made now (Fetch given folder) is does = absurd (cc)
  valid_by s f made now (Export given folder) is does = absurd (cc)
  valid_by s f made now ListNames is does = absurd (cc)

-- the ledger was opened, and not made
pub opened_by : {L K F U C : Type 0} (l : Ledgers L K F U C) (ledger name : List ℕ) (is_made : Bool) (kept : K) (work : Work) → viewed work ≡ Some name → IsOpenFor l ledger work is_made kept → l.opened ledger kept
opened_by l ledger name is_made kept (Begin given folder) is open_for = absurd (cc)
opened_by l ledger name is_made kept work is open_for = open_for.1
