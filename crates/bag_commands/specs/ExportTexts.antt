-- The result of `export` as printed, and its status.
use Rattle.std.specs.Prelude.{ℕ, List, ◌++◌, Result, Ok, Err, codes}
use Rattle.std.specs.Fmt.{decimal}
use Rattle.bag_receiver.specs.declared.export.ExportFault.{ExportFault}
use Rattle.bag_receiver.specs.declared.export.ExportFault.TheVariants as fault
use Rattle.bag_commands.specs.declared.status.TheConstants.{DONE, FAILED, REFUSED}
use Rattle.bag_commands.specs.declared.no_result.NoResult.TheVariants as no_result
use Rattle.bag_commands.specs.NoResultTexts.{no_result_of_keep, no_result_text}

-- why no bag, or only part of one, was exported
abbrev pub export_fault_line : ExportFault → List ℕ
export_fault_line fault.NoTransfer = codes "bag: no transfer"
export_fault_line fault.Sink = no_result_text no_result.Files
export_fault_line (fault.Keeper why) = no_result_text (no_result_of_keep why)

-- its line: the number of all files of the bag, or the fault
abbrev pub export_text : Result ℕ ExportFault → List ℕ
export_text (Ok count) = codes "exported " ++ decimal count ++ codes " files"
export_text (Err why) = export_fault_line why

abbrev pub export_status : Result ℕ ExportFault → ℕ
export_status (Ok count) = DONE
export_status (Err fault.NoTransfer) = REFUSED
export_status (Err why) = FAILED
