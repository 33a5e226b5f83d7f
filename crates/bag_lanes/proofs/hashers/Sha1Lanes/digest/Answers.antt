use Rattle.std.proofs.Common.{◌∙◌, ◌++◌}
use Rattle.bag_lanes.proofs.SameDigests.{sha1_is}
use Rattle.bag_lanes.proofs.hashers.Sha1Lanes.digest.Goals as goal

pub returns : goal.returns
returns c = λ octets held. c.digest_at.ensures octets (rw c.state.ensures held.value) held.count ∙ sha1_is (octets ++ c.args.rest.now)
