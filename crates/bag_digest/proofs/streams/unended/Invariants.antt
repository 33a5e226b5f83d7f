use Rattle.bag_digest.specs.Streams.{AreDone}
use Rattle.bag_digest.proofs.streams.unended.Given as goal

abbrev pub invariant-loop-k : goal.invariant-loop-k
invariant-loop-k g l = AreDone l.streams l.first l.k
