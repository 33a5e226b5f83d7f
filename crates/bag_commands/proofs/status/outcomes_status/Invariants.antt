use Rattle.std.proofs.Common.{◌≡◌, map, take}
use Rattle.bag_commands.specs.FetchTexts.{outcome_status}
use Rattle.bag_commands.specs.IntakeTexts.{greatest}
use Rattle.bag_commands.proofs.status.outcomes_status.Given as goal

abbrev pub invariant-loop-outcome : goal.invariant-loop-outcome
invariant-loop-outcome l = l.status ≡ greatest (map outcome_status (take l.outcome-index l.outcomes))
