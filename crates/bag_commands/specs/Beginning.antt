-- What `begin` printed, and what it tells besides.
use Rattle.std.specs.Prelude.{◌≡◌, ℕ, List, Option, Result}
use Rattle.std.specs.Result.{result_err}
use Rattle.bag_receiver.specs.declared.begin.BeginFault.{BeginFault}
use Rattle.bag_receiver.specs.declared.begin.Begun.{Begun}
use Rattle.bag_commands.specs.BeginTexts.{begin_line, begin_status}
use Rattle.bag_commands.specs.declared.begin.BeginEnd.{BeginEnd}
use Rattle.bag_commands.specs.declared.output.Output.{Output}
use Rattle.bag_commands.specs.Outputs.{PrintedOne}

-- an answer of this kind was printed, with its status, and its fault is told
abbrev pub PrintedBeginning : {W : Type 0} → (W → Option (List ℕ)) → Output W → Output W → BeginEnd
    → (Result Begun BeginFault → Type 0) → Type 0
PrintedBeginning contents old new result kind =
    PrintedOne contents begin_line begin_status old new result.status
    (λ answer. kind answer × (result.fault ≡ result_err answer))
