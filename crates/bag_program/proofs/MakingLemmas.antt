-- What is held of a ledger that was made, after the work for which it was made.
use Rattle.std.proofs.Common.{◌≡◌, ◌∙◌, Bool, ℕ, List, Option, Result, false, inl, inr, subst, sym, true}
use Rattle.bag_ledger.specs.declared.keeper.Keeper.{Ghosts}
use Rattle.bag_commands.specs.declared.output.Output.{Output}
use Rattle.bag_folder.specs.declared.new_folders.NewFolders.{Ghosts as NewFolders}
use Rattle.bag_folder.specs.Folders.{DiskShown, FolderShown}
use Rattle.bag_receiver.specs.declared.receiver.Receiver.{Receiver}
use Rattle.bag_receiver.specs.declared.begin.BeginFault.{BeginFault}
use Rattle.bag_receiver.specs.declared.begin.Begun.{Begun}
use Rattle.bag_receiver.specs.BeginningFrom.{Answered, AnswersTree, IsBeginning, NotRead, Unnamed}
use Rattle.bag_receiver.specs.Receivers.{IsInState}
use Rattle.bag_receiver.specs.LedgerStates.{LedgerState}
use Rattle.bag_rules.specs.Trees.{Shown}
use Rattle.bag_writer.specs.declared.sink.Sink.{Ghosts as SinkOf}
use Rattle.bag_program.specs.declared.explanation.Ended.{Ended}
use Rattle.bag_program.specs.declared.ledgers.Ledgers.{Ghosts as Ledgers}
use Rattle.bag_program.specs.declared.command_line.Work.{Work}
use Rattle.bag_program.specs.declared.command_line.Work.TheVariants.{Audit, Begin, Export, Fetch, Intake, List as ListNames, Report}
use Rattle.bag_program.specs.Working.{DoesWork, IsOpenFor, NoMemory, Opened, Refused, WithFolder}

module _ {K W : Type 0} (k : Ghosts K) (known : DiskShown) (contents : W → Option (List ℕ)) (before after : Receiver K) (old new : Output W) (result : Ended) where
  -- if the keeper is clean now it was before, and if it was known what was held, it is known what is
  abbrev pub GoesOn : Type 0
  GoesOn = k.clean after.keeper → k.clean before.keeper
      × ((state : LedgerState) → IsInState k.holds k.may_leave before state → (later : LedgerState) × IsInState k.holds k.may_leave after later)

  stayed : after ≡ before → GoesOn
  stayed same clean = (subst (λ (r : Receiver K). k.clean r.keeper) same clean, λ state is. (state, subst (λ r. IsInState k.holds k.may_leave r state) (sym same) is))

  began : (shown : Shown) (name : List ℕ) (answer : Result Begun BeginFault) → AnswersTree shown (IsBeginning k.holds k.may_leave k.clean k.failures name before after) (after ≡ before) name answer → GoesOn
  began shown name answer (Answered given are begins) = λ clean. (begins.begun.was_clean clean, λ state is. let it = begins.begun.leads clean state is in (it.0, it.1))
  began shown name answer (Unnamed not is same) = stayed same
  began shown name answer (NotRead fault named is met same) = stayed same

  in_folder : (folder : List ℕ) (does : FolderShown → FolderShown → Type 0) → ((tree later : FolderShown) → does tree later → GoesOn)
      → WithFolder contents known folder (after ≡ before) does old new result → GoesOn
  in_folder folder does went (Opened tree later opened did) = went tree later did
  in_folder folder does went (Refused unfit refused same printed why) = stayed same
  in_folder folder does went (NoMemory same printed why) = stayed same

  -- only `begin` makes a ledger
  pub goes_on : {L N U C F S B : Type 0} (l : Ledgers L K N U C) (s : SinkOf S) (f : NewFolders F S B) (made now : F) (ledger : List ℕ) (is_made : Bool) (kept : K) (work : Work) → is_made ≡ true → IsOpenFor l ledger work is_made kept
      → DoesWork k known contents s f work made now before after old new result → l.made ledger kept × GoesOn
  goes_on l s f was now ledger is_made kept (Begin name folder) is open_for does = elim open_for [
    | inl not ↦ absurd (let e : false ≡ true = sym not.0 ∙ is in cc)
    | inr made ↦ (made.1, in_folder _ _ (λ tree later did. began _ _ did.1.0 did.1.1.0.answers) does.1)
  ]
  goes_on l s f was now ledger is_made kept (Intake name folders) is open_for does = absurd (let e : false ≡ true = sym open_for.0 ∙ is in cc)
  goes_on l s f was now ledger is_made kept (Report name) is open_for does = absurd (let e : false ≡ true = sym open_for.0 ∙ is in cc)
  goes_on l s f was now ledger is_made kept (Audit name) is open_for does = absurd (let e : false ≡ true = sym open_for.0 ∙ is in cc)
  goes_on l s f was now ledger is_made kept (Fetch name folder) is open_for does = absurd (let e : false ≡ true = sym open_for.0 ∙ is in cc)
  goes_on l s f was now ledger is_made kept (Export name folder) is open_for does = absurd (let e : false ≡ true = sym open_for.0 ∙ is in cc)
  goes_on l s f was now ledger is_made kept ListNames is open_for does = absurd (let e : false ≡ true = sym open_for.0 ∙ is in cc)
