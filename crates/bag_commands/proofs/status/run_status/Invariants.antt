use Rattle.std.proofs.Common.{◌≡◌, map, take}
use Rattle.bag_commands.specs.AnswerTexts.{answer_status}
use Rattle.bag_commands.specs.IntakeTexts.{greatest}
use Rattle.bag_commands.proofs.status.run_status.Given as goal

abbrev pub invariant-loop-answer : goal.invariant-loop-answer
invariant-loop-answer l = l.status ≡ greatest (map answer_status (take l.answer-index l.run.answers.items))
