use Rattle.std.proofs.Common.{[]}
use Rattle.bag_digest.proofs.Filling.{if_ok}
use Rattle.bag_digest.proofs.reading.digest_through.Goals as goal

pub returns-clause-digests : goal.returns-clause-digests
returns-clause-digests g c = if_ok c.digest_on.result (λ found h. (h.0, h.1, (h.2, h.3 c.args.set [] c.new.ensures))) c.digest_on.ensures.digests
