use Rattle.std.proofs.Common.{◌≡◌, ◌<◌, ◌≤◌, length, take}
use Rattle.bag_rules.specs.Returning.{LeavesOut}
use Rattle.bag_writer.specs.Returned.{LeavesCopies}
use Rattle.bag_writer.proofs.returning.give_up_behind.Given as goal

abbrev pub invariant-files : goal.invariant-files
invariant-files g l = record {
  some : l.stop.place < length l.copies.items;
  fewer : length l.copies.items ≤ length l.fn.copies.items;
  left : l.copies.items ≡ take (length l.copies.items) l.fn.copies.items;
  out : LeavesOut g.T.Paths.shown g.T.Source.failures g.T.Tree.sure (length l.fn.copies.items) (length l.copies.items) l.fn.tree l.tree;
  copies_out : LeavesCopies g.S.Sink.stored g.S.Sink.is_open g.S.Sink.failures g.S.Sink.sure (length l.fn.copies.items) (length l.copies.items) l.fn.sink l.sink;
}

abbrev pub decreases-files : goal.decreases-files
decreases-files g l = length l.copies.items
