-- A report as printed, and its status.
use Rattle.std.specs.Prelude.{ℕ, Bool, List, [], ◌∷◌, ◌++◌, codes, map, nat_lt, if◌then◌else◌}
use Rattle.std.specs.List.{list_all}
use Rattle.bag_rules.specs.Faults.{last_of_completeness, number_of}
use Rattle.bag_rules.specs.declared.fault.Fault.{Fault}
use Rattle.bag_commands.specs.declared.status.TheConstants.{VALID, NOT_VALID}
use Rattle.bag_commands.specs.FaultTexts.{fault_text}

-- a bag whose only faults are wrong digests is complete (RFC 8493 section 3)
abbrev pub is_complete : List Fault → Bool
is_complete faults = list_all (λ fault. nat_lt last_of_completeness (number_of fault)) faults

-- the verdict for a list of faults
abbrev pub verdict_text : List Fault → List ℕ
verdict_text [] = codes "valid"
verdict_text faults =
    if is_complete faults then codes "complete, not valid" else codes "not complete"

-- a line for each fault, in order, and the verdict
abbrev pub report_lines : List Fault → List (List ℕ)
report_lines faults = map fault_text faults ++ verdict_text faults ∷ []

abbrev pub report_status : List Fault → ℕ
report_status [] = VALID
report_status faults = NOT_VALID
