use Rattle.bag_receiver.proofs.HeldLemmas.{held_accepted}
use Rattle.bag_receiver.proofs.laws.what_is_held_is_what_was_accepted.Goals as goal

pub returns : goal.returns
returns c = held_accepted
