use Rattle.std.proofs.Common.{◌≡◌}
use Rattle.bag_rules.proofs.Words.{Adds, AreTextsOf, HasBadLine}
use Rattle.bag_rules.specs.Bags.{version_of}
use Rattle.bag_rules.specs.Transfers.{tag_bag}
use Rattle.bag_rules.proofs.plan_fault.read_tags.Given as goal

abbrev pub invariant-loop-file : goal.invariant-loop-file
invariant-loop-file l = record {
  read : version_of (tag_bag l.tags) ≡ l.version → AreTextsOf l.file-index (tag_bag l.tags) l.texts;
  faulty : version_of (tag_bag l.tags) ≡ l.version → Adds l.fn.faults.items l.faults.items (HasBadLine l.file-index (tag_bag l.tags));
}
