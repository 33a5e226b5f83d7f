use Rattle.std.proofs.Common.{◌≡◌, take}
use Rattle.bag_rules.proofs.Words.{Alg, has, lists_by}
use Rattle.bag_rules.proofs.want.Want.algs.Given as goal

abbrev pub invariant-loop-manifest : goal.invariant-loop-manifest
invariant-loop-manifest l = (alg : Alg) → has l.set alg ≡ lists_by (take l.manifest-index l.manifest-items) l.self.path.now alg
