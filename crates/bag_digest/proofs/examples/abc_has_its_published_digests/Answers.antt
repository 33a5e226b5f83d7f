use Rattle.std.proofs.Common.{ap}
use Rattle.md5.proofs.StandardFacts as md5
use Rattle.sha1.proofs.StandardFacts as sha1
use Rattle.sha2.proofs.Facts512.{digest_of_abc_512}
use Rattle.bag_digest.specs.declared.digest.Digest.TheVariants as digest
use Rattle.bag_digest.proofs.Published.{digest_of_abc}
use Rattle.bag_digest.proofs.examples.abc_has_its_published_digests.Goals as goal

pub returns : goal.returns
returns c = (
  ap (λ octets. digest.Md5 octets) md5.digest_of_abc,
  ap (λ octets. digest.Sha1 octets) sha1.digest_of_abc,
  digest_of_abc,
  ap (λ octets. digest.Sha512 octets) digest_of_abc_512,
)
