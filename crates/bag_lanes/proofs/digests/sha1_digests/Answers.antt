use Rattle.sha1.specs.Sha1.{sha1}
use Rattle.bag_lanes.specs.Standard.{digest, sha1_function}
use Rattle.bag_lanes.proofs.SameDigests.{map_same, sha1_is}
use Rattle.bag_lanes.proofs.digests.sha1_digests.Goals as goal

pub returns : goal.returns
returns c = rw (← map_same (digest sha1_function) sha1 sha1_is c.args.messages.now) c.digests_of.ensures
