use Rattle.bag_receiver.proofs.DueLemmas.{due_passes}
use Rattle.bag_receiver.proofs.laws.what_is_due_to_be_accepted_passes.Goals as goal

pub returns : goal.returns
returns c = due_passes
