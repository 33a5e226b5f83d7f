use Rattle.std.proofs.Common.{◌<◌, length, take}
use Rattle.bag_rules.specs.Files.{AreTagFiles}
use Rattle.bag_rules.specs.Trees.{UsesTree}
use Rattle.bag_receiver.specs.BeginningFrom.{AreGiven, tag_files}
use Rattle.bag_receiver.proofs.begin_from.read_each.Given as goal

abbrev pub invariant-loop-i : goal.invariant-loop-i
invariant-loop-i g l = (0 < length l.buffer) × UsesTree g.T.Paths.shown g.T.Source.failures g.T.Tree.sure l.fn.tree l.tree ⊥
    × AreTagFiles l.tags × AreGiven (tag_files (take l.i (g.T.Paths.shown l.fn.tree).files)) l.tags
