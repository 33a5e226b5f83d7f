use Rattle.std.proofs.Common.{◌≡◌, ◌++◌, length, take}
use Rattle.bag_digest.specs.declared.algorithm.AlgSet.{AlgSet}
use Rattle.bag_rules.specs.Files.{Files}
use Rattle.bag_writer.specs.HeldFiles.{AreItemsSoFar}
use Rattle.bag_writer.specs.Steps.{AreItemsOf}
use Rattle.bag_writer.proofs.items.Items.finish.Given as goal

abbrev pub invariant-loop-path : goal.invariant-loop-path
invariant-loop-path l = record {
  can_next : (goal.iterator-loop-path).can_next l.path-iterator;
  is_finite : (goal.iterator-loop-path).is_finite l.path-iterator;
  count : l.place ≡ length l.yielded;
  taken : (set : AlgSet) (files : Files) (so_far : AreItemsSoFar set l.fn.self files) → AreItemsOf set l.items.items (so_far.first ++ take l.place so_far.held);
}
