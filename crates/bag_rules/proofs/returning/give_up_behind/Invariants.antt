use Rattle.std.proofs.Common.{◌≡◌, ◌<◌, ◌≤◌, length, take}
use Rattle.bag_rules.specs.Returning.{LeavesOut}
use Rattle.bag_rules.proofs.returning.give_up_behind.Given as goal

abbrev pub invariant-files : goal.invariant-files
invariant-files g l = record {
  some : l.stopped.place < length l.streams.items;
  fewer : length l.streams.items ≤ length l.fn.streams.items;
  left : l.streams.items ≡ take (length l.streams.items) l.fn.streams.items;
  out : LeavesOut g.T.Paths.shown g.T.Source.failures g.T.Tree.sure (length l.fn.streams.items) (length l.streams.items) l.fn.tree l.tree;
}

abbrev pub decreases-files : goal.decreases-files
decreases-files g l = length l.streams.items
