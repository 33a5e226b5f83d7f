use Rattle.std.proofs.Common.{ap, sym, subst, ◌∙◌}
use Rattle.bag_rules.proofs.Words.{AreRising, keys_of}
use Rattle.bag_rules.proofs.TreeLemmas.{all_paths}
use Rattle.bag_rules.proofs.tag_set.TagSetPaths.count.Goals as goal

pub returns-clause-rising : goal.returns-clause-rising
returns-clause-rising c = subst AreRising (ap keys_of c.self.view_is ∙ sym (all_paths c.args.self.now)) c.self.invariant.rising
