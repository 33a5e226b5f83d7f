use Rattle.bag_digest.proofs.Sets.{has_all}
use Rattle.bag_digest.proofs.algorithm.AlgSet.covers.Goals as goal

pub returns : goal.returns
returns c = has_all c.args.self c.args.other c.union.result c.eq.result c.eq.ensures c.union.ensures
