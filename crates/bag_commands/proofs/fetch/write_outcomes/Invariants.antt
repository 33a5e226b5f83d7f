use Rattle.std.proofs.Common.{map, take}
use Rattle.bag_commands.specs.FetchTexts.{outcome_text}
use Rattle.bag_commands.specs.Outputs.{WroteLines}
use Rattle.bag_commands.proofs.fetch.write_outcomes.Given as goal

abbrev pub invariant-loop-outcome : goal.invariant-loop-outcome
invariant-loop-outcome g l = WroteLines g.W.Write.contents l.fn.out l.out (map outcome_text (take l.outcome-index l.outcomes))
