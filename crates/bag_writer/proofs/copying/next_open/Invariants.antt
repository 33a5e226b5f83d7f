use Rattle.bag_writer.specs.Copying.{AreDone}
use Rattle.bag_writer.proofs.copying.next_open.Given as goal

abbrev pub invariant-loop-k : goal.invariant-loop-k
invariant-loop-k g l = AreDone l.copies l.first l.k
