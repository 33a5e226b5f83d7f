use Rattle.bag_receiver.proofs.HeldLemmas.{held_passes}
use Rattle.bag_receiver.proofs.laws.what_is_held_passes.Goals as goal

pub returns : goal.returns
returns c = held_passes
