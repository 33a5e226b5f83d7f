use Rattle.bag_digest.proofs.Spelled.{one_digest_spelled}
use Rattle.bag_digest.proofs.laws.one_digest_is_spelled.Goals as goal

pub returns : goal.returns
returns c = one_digest_spelled
