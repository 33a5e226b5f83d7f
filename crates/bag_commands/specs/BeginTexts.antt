-- The result of `begin` as printed, and its status.
use Rattle.std.specs.Prelude.{ℕ, List, ◌++◌, Result, Ok, Err, codes}
use Rattle.bag_path.specs.Spellings.{written_spelling}
use Rattle.bag_receiver.specs.declared.begin.BeginFault.{BeginFault}
use Rattle.bag_receiver.specs.declared.begin.BeginFault.TheVariants as fault
use Rattle.bag_receiver.specs.declared.begin.Begun.{Begun}
use Rattle.bag_receiver.specs.declared.begin.Begun.TheVariants.{Again, New}
use Rattle.bag_commands.specs.declared.status.TheConstants.{DONE, FAILED, OUTSIDE, REFUSED}
use Rattle.bag_commands.specs.CheckTexts.{outside_text}
use Rattle.bag_commands.specs.FaultTexts.{fault_text}
use Rattle.bag_commands.specs.declared.no_result.NoResult.TheVariants as no_result
use Rattle.bag_commands.specs.NoResultTexts.{no_result_of_keep, no_result_text}

-- why no transfer was opened
abbrev pub begin_fault_line : BeginFault → List ℕ
begin_fault_line fault.BadName = codes "refused: name"
begin_fault_line (fault.TagPath i) = codes "refused: tag path"
begin_fault_line (fault.TagTooLarge path) = codes "refused: tag too large"
begin_fault_line (fault.Outside cause) = outside_text cause
begin_fault_line (fault.Rules why) = codes "refused: " ++ fault_text why
begin_fault_line (fault.Clash path) = codes "refused: clash " ++ written_spelling path
begin_fault_line fault.Differs = codes "refused: differs"
begin_fault_line fault.Tree = no_result_text no_result.Files
begin_fault_line (fault.Keeper why) = no_result_text (no_result_of_keep why)

abbrev pub begin_line : Result Begun BeginFault → List ℕ
begin_line (Ok New) = codes "new"
begin_line (Ok Again) = codes "again"
begin_line (Err why) = begin_fault_line why

abbrev pub begin_fault_status : BeginFault → ℕ
begin_fault_status (fault.Outside cause) = OUTSIDE
begin_fault_status fault.Tree = FAILED
begin_fault_status (fault.Keeper why) = FAILED
begin_fault_status why = REFUSED

abbrev pub begin_status : Result Begun BeginFault → ℕ
begin_status (Ok begun) = DONE
begin_status (Err why) = begin_fault_status why
