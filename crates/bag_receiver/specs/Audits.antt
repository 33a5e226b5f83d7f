-- What an audit answers.
use Rattle.std.specs.Prelude.{◌≡◌, ℕ, List, Result, Some, IfOk}
use Rattle.std.specs.Map.{lookup}
use Rattle.std.specs.Str.{bytes_eq}
use Rattle.bag_rules.specs.declared.plan.Plan.{Plan}
use Rattle.bag_rules.specs.declared.report.Report.{Report}
use Rattle.bag_rules.specs.Files.{Files}
use Rattle.bag_rules.specs.Plans.{IsPlanOf}
use Rattle.bag_rules.specs.Transfers.{AreHeldFor}
use Rattle.bag_ledger.specs.Ledgers.{Ledger}
use Rattle.bag_receiver.specs.declared.receiver.Receiver.{Receiver}
use Rattle.bag_receiver.specs.declared.report.ViewFault.{ViewFault}
use Rattle.bag_receiver.specs.Receivers.{plans_in}
use Rattle.bag_receiver.specs.Reports.{IsReportOf}
use Rattle.bag_receiver.specs.ViewAnswers.{IsReporting}

-- Whatever the store gave, clean or not, the report is that of the bag with these tag files and
-- payload files that are valid. A proof has to name their octets, and has none to name but those
-- that were read and hashed.
abbrev pub IsAuditOf : Files → Report → Type 0
IsAuditOf tags report = (items : Files) × AreHeldFor tags items × IsReportOf tags items report

-- the receiver has a plan of the transfer with this name, and this is such a report for its tag files
abbrev pub Audits : {K : Type 0} → Receiver K → List ℕ → Report → Type 0
Audits receiver name report = (plan : Plan)
    × (lookup (bytes_eq name) (plans_in receiver.plans) ≡ Some plan)
    × ((tags : Files) → IsPlanOf tags plan → IsAuditOf tags report)

-- What `report` promises holds of it too.
pub record IsAuditing {K : Type 0} (holds may_leave : K → Ledger → Type 0) (clean : K → Type 0)
    (failures : K → ℕ) (name : List ℕ) (old new : Receiver K) (answer : Result Report ViewFault)
    : Type 0 where
  pub reporting : IsReporting holds may_leave clean failures name old new answer
  pub read : IfOk answer (Audits new name)
