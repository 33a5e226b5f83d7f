use Rattle.std.proofs.Common.{take}
use Rattle.bag_commands.specs.IntakeTexts.{answer_lines}
use Rattle.bag_commands.specs.Outputs.{WroteLines}
use Rattle.bag_commands.proofs.intake.write_answers.Given as goal

abbrev pub invariant-loop-n : goal.invariant-loop-n
invariant-loop-n g l = WroteLines g.W.Write.contents l.fn.out l.out (answer_lines (take l.n l.paths) (take l.n l.answers))
