-- What is reported of a transfer.
use Rattle.std.specs.Prelude.{ℕ, List, Some}
use Rattle.bag_rules.specs.declared.fault.Fault.{Fault}
use Rattle.bag_rules.specs.declared.outcome.Outcome.TheVariants.{Judged}
use Rattle.bag_rules.specs.declared.report.Report.{Report}
use Rattle.bag_rules.specs.Faults.{Has}
use Rattle.bag_rules.specs.Files.{Files}
use Rattle.bag_rules.specs.Opening.{MayBeMended}
use Rattle.bag_rules.specs.Transfers.{held_bag}
use Rattle.bag_rules.specs.Validity.{Means}
use Rattle.bag_rules.specs.Verdicts.{IsVerdict}
use Rattle.bag_ledger.specs.Ledgers.{Ledger, Transfer}
use Rattle.bag_receiver.specs.TransferNames.{IsNamed}

-- The report has exactly the faults of the bag with these tag files and payload files; so it says valid or complete
-- exactly if that bag is (RFC 8493 section 3).
pub record IsReportOf (tags items : Files) (report : Report) : Type 0 where
  pub faults : IsVerdict (held_bag tags items) (Judged report)
  pub means : Means (held_bag tags items) (Judged report)
  -- the faults are missing payload files and a wrong Oxum
  pub mended : (fault : Fault) → Has report fault → MayBeMended fault

-- it is that of the transfer with this name
abbrev pub Reports : Ledger → List ℕ → Report → Type 0
Reports ledger name report = (transfer : Transfer) × IsNamed ledger name (Some transfer)
    × IsReportOf transfer.tags transfer.items report
