use Rattle.std.proofs.Common.{◌+◌, ℕ, length}
use Rattle.bag_rules.specs.Returning.{AreUnfailed, LeavesOut}
use Rattle.bag_rules.proofs.returning.close_all.Given as goal

abbrev pub invariant-files : goal.invariant-files
invariant-files g l = record {
  unfailed : AreUnfailed g.T.File.Source.failures l.streams.items;
  out : (n : ℕ) → LeavesOut g.T.Paths.shown g.T.Source.failures g.T.Tree.sure (n + length l.fn.streams.items) (n + length l.streams.items) l.fn.tree l.tree;
}

abbrev pub decreases-files : goal.decreases-files
decreases-files g l = length l.streams.items
