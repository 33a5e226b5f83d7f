use Rattle.std.proofs.Common.{get_or, rules, take}
use Rattle.bag_receiver.specs.declared.answer.Answer.TheVariants.{Taken}
use Rattle.bag_commands.specs.AnswerTexts.{answer_text}
use Rattle.bag_commands.specs.IntakeTexts.{answer_lines}
use Rattle.bag_commands.proofs.IntakeLemmas.{answers_more, wrote_line}
use Rattle.bag_commands.proofs.intake.write_answers.Goals as goal

pub loop-n-preserved : goal.loop-n-preserved
loop-n-preserved g c =
    rw (answers_more c.args.paths.now c.args.answers.now c.loop-n.n c.index-paths-n.result Taken c.loop-n-test.true (search rules) c.index-paths-n.is)
    (wrote_line g.W.Write.contents c.args.out.now c.loop-n.out c.line.new.self (answer_lines (take c.loop-n.n c.args.paths.now) (take c.loop-n.n c.args.answers.now))
    (answer_text c.index-paths-n.result (get_or c.args.answers.now c.loop-n.n Taken)) c.loop-n.invariant c.in_ok-line.ensures.ok (search rules))
