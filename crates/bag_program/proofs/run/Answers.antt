use Rattle.std.proofs.Common.{inl, inr}
use Rattle.bag_program.proofs.run.Goals as goal

pub returns-in-Ok : goal.returns-in-Ok
returns-in-Ok g c = λ other. (c.in-Ok.out, c.run_words.new.out, c.run_words.ensures other)

pub returns-in-Err : goal.returns-in-Err
returns-in-Err g c = λ other. absurd (other (elim c.print_no_result.ensures [ inl failed ↦ failed.1 | inr printed ↦ printed.2 ]))
