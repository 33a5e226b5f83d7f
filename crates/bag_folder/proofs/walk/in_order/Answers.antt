use Rattle.bag_folder.proofs.Listings.{rising_once, kept_once}
use Rattle.bag_folder.proofs.walk.in_order.Goals as goal

pub returns-clause-rising : goal.returns-clause-rising
returns-clause-rising c = rising_once c.sort_unstable.new.self.items c.dedup.new.self.items c.sort_unstable.ensures.sorted c.dedup.ensures.filtered

pub returns-clause-kept : goal.returns-clause-kept
returns-clause-kept c = kept_once c.args.paths.items c.sort_unstable.new.self.items c.dedup.new.self.items c.sort_unstable.ensures.permutation c.dedup.ensures.filtered
