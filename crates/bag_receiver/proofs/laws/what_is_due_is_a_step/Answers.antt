use Rattle.bag_receiver.proofs.DueLemmas.{other_step, taken_step}
use Rattle.bag_receiver.proofs.laws.what_is_due_is_a_step.Goals as goal

pub returns-clause-taken : goal.returns-clause-taken
returns-clause-taken c = taken_step

pub returns-clause-other : goal.returns-clause-other
returns-clause-other c = other_step
