use Rattle.bag_receiver.proofs.SomeDue.{some_due}
use Rattle.bag_receiver.proofs.laws.some_answer_is_due_to_what_was_read.Goals as goal

pub returns : goal.returns
returns c = some_due
