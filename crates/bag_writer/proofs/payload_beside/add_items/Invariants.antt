use Rattle.std.proofs.Common.{take}
use Rattle.bag_digest.specs.declared.algorithm.AlgSet.{AlgSet}
use Rattle.bag_rules.specs.Files.{Files}
use Rattle.bag_writer.specs.Finishing.{AddsFiles, AreTakenOf}
use Rattle.bag_writer.proofs.payload_beside.add_items.Given as goal

abbrev pub invariant-loop-copy : goal.invariant-loop-copy
invariant-loop-copy g l = record {
  added : (set : AlgSet) (files : Files) → AreTakenOf g.F.OpenFile.place (g.T.Paths.shown l.tree) set l.copies files → AddsFiles set (take l.copy-index files) l.fn.items l.items;
}
