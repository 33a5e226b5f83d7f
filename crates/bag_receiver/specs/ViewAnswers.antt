-- What is answered when a report on a transfer is asked for, or an audit of it.
use Rattle.std.specs.Prelude.{◌≡◌, ℕ, List, None, IfOk, IsErrOf, MatchResult, Result, map}
use Rattle.bag_digest.specs.Failures.{CountsIf}
use Rattle.bag_rules.specs.Files.{Files}
use Rattle.bag_rules.specs.declared.report.Report.{Report}
use Rattle.bag_ledger.specs.Ledgers.{Ledger}
use Rattle.bag_ledger.specs.declared.keeper_faults.KeepFault.TheVariants.{Store}
use Rattle.bag_ledger.specs.declared.keeper_faults.StoreFault.{StoreFault}
use Rattle.bag_receiver.specs.declared.receiver.Receiver.{Receiver}
use Rattle.bag_receiver.specs.declared.report.ViewFault.{ViewFault}
use Rattle.bag_receiver.specs.declared.report.ViewFault.TheVariants.{NoTransfer, Keeper}
use Rattle.bag_receiver.specs.Deliveries.{AreAccepted, Delivery, OneContent}
use Rattle.bag_receiver.specs.TransferNames.{IsNamed, IsTransferName}
use Rattle.bag_receiver.specs.Receivers.{Does, SaysOfState}
use Rattle.bag_receiver.specs.ReceiversInside.{Same}
use Rattle.bag_receiver.specs.LedgerStates.{Happened}
use Rattle.bag_receiver.specs.Reports.{IsReportOf, Reports}
use Rattle.bag_receiver.specs.Stops.{Answered, Event, StopRun}

-- If the keeper is clean, the answer is the report on the bag that the transfer with this name holds, or that there is
-- no such transfer. Nothing changes.
pub record IsReporting {K : Type 0} (holds may_leave : K → Ledger → Type 0) (clean : K → Type 0)
    (failures : K → ℕ) (name : List ℕ) (old new : Receiver K) (answer : Result Report ViewFault)
    : Type 0 where
  pub looks : Does holds may_leave clean old new Same
  pub reported : SaysOfState holds may_leave clean old new (λ now.
      MatchResult answer (Reports now.held name)
      (λ fault. fault ≡ NoTransfer → IsNamed now.held name None))
  -- An invalid name names no transfer, whatever the store would answer.
  pub judged : ¬ IsTransferName name → IsErrOf answer NoTransfer
  -- After a transfer was opened, for any list of deliveries with losses, repeats and reordering,
  -- the report is that of its tag files with each distinct accepted delivery once, provided that
  -- no two different contents offered for one path are valid.
  pub headline : SaysOfState holds may_leave clean old new (λ now.
      (tags : Files) (deliveries : List Delivery)
      → Happened now name tags (map Answered deliveries) → OneContent tags deliveries
      → IfOk answer (λ report. (held : Files) × AreAccepted deliveries held
      × IsReportOf tags held report))
  -- The same for everything that happened since then, including stops.
  pub stopped : SaysOfState holds may_leave clean old new (λ now.
      (tags : Files) (events : List Event) → Happened now name tags events
      → IfOk answer (λ report. (held : Files) × StopRun tags events held
      × IsReportOf tags held report))
  -- The answer is a failure of the store exactly if the keeper counted one.
  pub store : CountsIf ((fault : StoreFault) × IsErrOf answer (Keeper (Store fault)))
      (failures old.keeper) (failures new.keeper)
