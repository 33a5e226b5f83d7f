use Rattle.std.proofs.Common.{◌≡◌, [], false, take}
use Rattle.bag_rules.specs.Files.{Files}
use Rattle.bag_rules.specs.Trees.{UsesTree}
use Rattle.bag_writer.specs.Sinks.{UsesSink}
use Rattle.bag_writer.specs.Writing.{payload_paths}
use Rattle.bag_writer.proofs.PayloadSoFar.{HasWritten}
use Rattle.bag_writer.proofs.payload_in_turn.write_in_turn.Given as goal

abbrev pub invariant-loop-i : goal.invariant-loop-i
invariant-loop-i g l =
    let tree = g.T.Tree in
    let sink = g.S.Sink in
    record {
      written : (files : Files) × HasWritten l.fn.spec (take l.i (g.T.Paths.shown l.fn.tree).files) (sink.stored l.fn.sink) (sink.stored l.sink) l.items files;
      read : UsesTree g.T.Paths.shown g.T.Source.failures tree.sure l.fn.tree l.tree ⊥;
      unread : payload_paths (g.T.Paths.shown l.fn.tree) ≡ [] → l.tree ≡ l.fn.tree;
      closed : sink.is_open l.fn.sink ≡ false → sink.is_open l.sink ≡ false;
      used : UsesSink sink.failures sink.sure l.fn.sink l.sink (Unit {0}) ⊥;
    }
