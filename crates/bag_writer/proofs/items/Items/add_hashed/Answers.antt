use Rattle.bag_writer.proofs.HeldLemmas.{adds_hashed}
use Rattle.bag_writer.proofs.items.Items.add_hashed.Goals as goal

pub returns-clause-added : goal.returns-clause-added
returns-clause-added c = λ set octets is.
    adds_hashed set c.args.item octets c.args.self c.of.result c.in_ok-ready.ready.items c.push.new.self.items is (c.in_ok-ready.ensures.all set) c.in_ok-push.ensures.items c.of.ensures.all
