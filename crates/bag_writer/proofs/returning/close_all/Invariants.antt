use Rattle.std.proofs.Common.{◌+◌, ℕ, length}
use Rattle.bag_rules.specs.Returning.{LeavesOut}
use Rattle.bag_writer.specs.Returned.{AreUnfailed, LeavesCopies}
use Rattle.bag_writer.proofs.returning.close_all.Given as goal

abbrev pub invariant-files : goal.invariant-files
invariant-files g l = record {
  unfailed : AreUnfailed g.T.File.Source.failures g.S.File.SinkFile.failures l.copies.items;
  out : (n : ℕ) → LeavesOut g.T.Paths.shown g.T.Source.failures g.T.Tree.sure (n + length l.fn.copies.items) (n + length l.copies.items) l.fn.tree l.tree;
  copies_out : (n : ℕ) → LeavesCopies g.S.Sink.stored g.S.Sink.is_open g.S.Sink.failures g.S.Sink.sure (n + length l.fn.copies.items) (n + length l.copies.items) l.fn.sink l.sink;
}

abbrev pub decreases-files : goal.decreases-files
decreases-files g l = length l.copies.items
