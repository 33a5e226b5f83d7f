use Rattle.bag_receiver.proofs.DueLemmas.{one_due}
use Rattle.bag_receiver.proofs.laws.one_answer_is_due_at_most.Goals as goal

pub returns : goal.returns
returns c = one_due
