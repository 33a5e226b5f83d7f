use Rattle.bag_writer.proofs.HeldLemmas.{adds_after}
use Rattle.bag_writer.proofs.items.Items.hold.Goals as goal

pub returns-clause-held : goal.returns-clause-held
returns-clause-held c = λ set. adds_after c.with_held.result set _ c.args.self c.in_ok-items.items (c.in_ok-items.ensures.same set) (c.with_held.ensures.held set)
