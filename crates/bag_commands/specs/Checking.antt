-- What `check` printed, and what it tells besides.
use Rattle.std.specs.Prelude.{◌≡◌, ℕ, List, Option, Result}
use Rattle.std.specs.Result.{result_err}
use Rattle.bag_rules.specs.declared.outcome.CheckFault.{CheckFault}
use Rattle.bag_rules.specs.declared.outcome.Outcome.{Outcome}
use Rattle.bag_commands.specs.CheckTexts.{check_lines, check_status}
use Rattle.bag_commands.specs.declared.check.CheckEnd.{CheckEnd}
use Rattle.bag_commands.specs.declared.output.Output.{Output}
use Rattle.bag_commands.specs.Outputs.{PrintedBy}

-- an answer of this kind was printed, with its status, and its fault is told
abbrev pub PrintedChecking : {W : Type 0} → (W → Option (List ℕ)) → Output W → Output W → CheckEnd
    → (Result Outcome CheckFault → Type 0) → Type 0
PrintedChecking contents old new result kind =
    PrintedBy contents check_lines check_status old new result.status
    (λ answer. kind answer × (result.fault ≡ result_err answer))
