use Rattle.std.proofs.Common.{refl}
use Rattle.bag_rules.proofs.MemoryShown.{started_from, started_there}
use Rattle.bag_rules.proofs.mem_tree.MemTreeTree.start.Goals as goal

pub returns-clause-started : goal.returns-clause-started
returns-clause-started c = started_from c.args.self.now c.self.inside c.args.i c.self.view_is

pub returns-clause-open : goal.returns-clause-open
returns-clause-open c = (refl, started_there c.args.self.now c.self.inside c.args.i c.self.view_is c.requires)
