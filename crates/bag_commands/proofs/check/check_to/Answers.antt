use Rattle.bag_commands.proofs.VerdictLemmas.{some_valid_if_0, valid_if_0}
use Rattle.bag_commands.proofs.check.check_to.Goals as goal

pub returns-clause-valid : goal.returns-clause-valid
returns-clause-valid g c = λ zero bag is. valid_if_0 bag _ _ zero c.print_outcome.ensures (c.check-answer.ensures.meaning bag is)

pub returns-clause-some : goal.returns-clause-some
returns-clause-some g c = λ zero. some_valid_if_0 _ _ _ zero c.print_outcome.ensures c.check-answer.ensures.some

pub returns-clause-printed : goal.returns-clause-printed
returns-clause-printed g c = (c.check-answer.result, (c.check-answer.ensures, c.err.ensures.value), c.print_outcome.ensures)
