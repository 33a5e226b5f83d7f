use Rattle.std.proofs.Common.{take}
use Rattle.std.specs.List.{AllByRecursion}
use Rattle.bag_path.specs.Paths.{IsPath}
use Rattle.bag_rules.specs.Trees.{paths_in}
use Rattle.bag_writer.proofs.laws.paths_are_paths.Given as goal

abbrev pub invariant-loop-i : goal.invariant-loop-i
invariant-loop-i g l = AllByRecursion IsPath (take l.i (paths_in (g.P.Paths.shown l.fn.tree)))
