use Rattle.std.proofs.Common.{◌≡◌, ◌≤◌, true}
use Rattle.bag_digest.specs.Algorithm.{has, place_of}
use Rattle.bag_digest.specs.declared.algorithm.Alg.{Alg}
use Rattle.bag_digest.proofs.algorithm.AlgSet.first.Given as goal

abbrev pub invariant-loop-alg : goal.invariant-loop-alg
invariant-loop-alg l = (other : Alg) → has l.self other ≡ true → l.alg-index ≤ place_of other
