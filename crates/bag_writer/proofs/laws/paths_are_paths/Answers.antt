use Rattle.std.proofs.Common.{arith}
use Rattle.bag_path.specs.Paths.{IsPath}
use Rattle.bag_rules.specs.Trees.{paths_in}
use Rattle.bag_tags.proofs.WritingLemmas.{facts}
use Rattle.bag_writer.proofs.FittingLemmas.{path_more}
use Rattle.bag_writer.proofs.laws.paths_are_paths.Goals as goal

pub loop-i-init : goal.loop-i-init
loop-i-init g c = tt

pub loop-i-preserved : goal.loop-i-preserved
loop-i-preserved g c = path_more (paths_in (g.P.Paths.shown c.args.tree.now)) c.loop-i.i c.path.result.now c.path.ensures c.loop-i.invariant c.as_str-path.ensures.path

pub returns-clause-paths : goal.returns-clause-paths
returns-clause-paths g c =
    facts IsPath (paths_in (g.P.Paths.shown c.args.tree.now)) c.loop-i.i (omega (arith, c.loop-i-test.false)) c.loop-i.invariant
