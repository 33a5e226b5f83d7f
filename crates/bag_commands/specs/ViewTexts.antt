-- A report on a transfer as printed, and its status.
use Rattle.std.specs.Prelude.{ℕ, List, [], ◌∷◌, Result, Ok, Err, codes}
use Rattle.bag_receiver.specs.declared.report.ViewFault.{ViewFault}
use Rattle.bag_receiver.specs.declared.report.ViewFault.TheVariants.{NoTransfer, Keeper}
use Rattle.bag_rules.specs.declared.report.Report.{Report}
use Rattle.bag_commands.specs.declared.status.TheConstants.{FAILED, REFUSED}
use Rattle.bag_commands.specs.NoResultTexts.{no_result_of_keep, no_result_text}
use Rattle.bag_commands.specs.VerdictTexts.{report_lines, report_status}

-- why there is no report
abbrev pub view_fault_line : ViewFault → List ℕ
view_fault_line NoTransfer = codes "bag: no transfer"
view_fault_line (Keeper why) = no_result_text (no_result_of_keep why)

abbrev pub view_fault_status : ViewFault → ℕ
view_fault_status NoTransfer = REFUSED
view_fault_status (Keeper why) = FAILED

abbrev pub view_lines : Result Report ViewFault → List (List ℕ)
view_lines (Ok report) = report_lines report
view_lines (Err fault) = view_fault_line fault ∷ []

abbrev pub view_status : Result Report ViewFault → ℕ
view_status (Ok report) = report_status report
view_status (Err fault) = view_fault_status fault
