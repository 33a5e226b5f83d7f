use Rattle.sha2.specs.Sha256.{sha256}
use Rattle.bag_lanes.specs.Standard.{digest, sha256_function}
use Rattle.bag_lanes.proofs.SameDigests.{map_same, sha256_is}
use Rattle.bag_lanes.proofs.digests.sha256_digests.Goals as goal

pub returns : goal.returns
returns c = rw (← map_same (digest sha256_function) sha256 sha256_is c.args.messages.now) c.digests_of.ensures
