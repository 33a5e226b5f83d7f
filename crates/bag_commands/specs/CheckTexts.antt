-- The result of a check as printed, and its status.
use Rattle.std.specs.Prelude.{ℕ, List, [], ◌∷◌, ◌++◌, Result, Ok, Err, codes, string_bytes}
use Rattle.bag_rules.specs.declared.outcome.Outcome.{Outcome}
use Rattle.bag_rules.specs.declared.outcome.Outcome.TheVariants.{Judged, Outside}
use Rattle.bag_rules.specs.declared.scope.OutsideCause.{OutsideCause}
use Rattle.bag_rules.specs.declared.scope.OutsideCause.TheVariants.{Version, Encoding, Algorithm}
use Rattle.bag_rules.specs.declared.outcome.CheckFault.{CheckFault}
use Rattle.bag_commands.specs.declared.status.TheConstants.{OUTSIDE, FAILED}
use Rattle.bag_commands.specs.NoResultTexts.{no_result_text, no_result_of_check}
use Rattle.bag_commands.specs.VerdictTexts.{report_lines, report_status}

-- why a bag can't be judged
abbrev pub outside_text : OutsideCause → List ℕ
outside_text Version = codes "outside: version"
outside_text Encoding = codes "outside: encoding"
outside_text (Algorithm name) = codes "outside: algorithm " ++ string_bytes name

-- its lines: those of the report on a bag that was judged; otherwise a single line
abbrev pub check_lines : Result Outcome CheckFault → List (List ℕ)
check_lines (Ok (Judged faults)) = report_lines faults
check_lines (Ok (Outside why)) = outside_text why ∷ []
check_lines (Err fault) = no_result_text (no_result_of_check fault) ∷ []

abbrev pub check_status : Result Outcome CheckFault → ℕ
check_status (Ok (Judged faults)) = report_status faults
check_status (Ok (Outside why)) = OUTSIDE
check_status (Err fault) = FAILED
