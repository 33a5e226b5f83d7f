use Rattle.std.proofs.Common.{sym, subst}
use Rattle.bag_rules.proofs.Words.{AreRising}
use Rattle.bag_rules.proofs.MemoryShown.{shown_is}
use Rattle.bag_rules.proofs.mem_tree.MemTreePaths.count.Goals as goal

pub returns-clause-rising : goal.returns-clause-rising
returns-clause-rising c = subst AreRising (sym (shown_is c.args.self.now c.self.inside c.self.view_is)) c.self.invariant.rising
