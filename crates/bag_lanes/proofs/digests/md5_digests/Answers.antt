use Rattle.md5.specs.Md5.{md5}
use Rattle.bag_lanes.specs.Standard.{digest, md5_function}
use Rattle.bag_lanes.proofs.SameDigests.{map_same, md5_is}
use Rattle.bag_lanes.proofs.digests.md5_digests.Goals as goal

pub returns : goal.returns
returns c = rw (← map_same (digest md5_function) md5 md5_is c.args.messages.now) c.digests_of.ensures
