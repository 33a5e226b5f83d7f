use Rattle.std.proofs.Common.{◌++◌}
use Rattle.bag_digest.specs.declared.algorithm.Alg.TheVariants.{Md5, Sha1, Sha256, Sha512}
use Rattle.bag_digest.specs.Algorithm.{has}
use Rattle.bag_digest.proofs.EachLemmas.{all_digests}
use Rattle.bag_digest.proofs.multi_lanes.MultiLanes.finish_block.Goals as goal

pub returns-clause-digests : goal.returns-clause-digests
returns-clause-digests c = λ set octets held.
    all_digests set _ (octets ++ c.args.rest.now)
    (c.md5_at.ensures (has set Md5) octets held.md5) (c.sha1_at.ensures (has set Sha1) octets held.sha1)
    (c.sha256_at.ensures (has set Sha256) octets held.sha256) (c.finish_sha512.ensures (has set Sha512) octets held.sha512)
