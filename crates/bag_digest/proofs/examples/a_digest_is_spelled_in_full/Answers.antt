use Rattle.std.proofs.Common.{codes, refl}
use Rattle.hex.specs.Hex.{decode_pairs}
use Rattle.bag_digest.specs.declared.algorithm.Alg.TheVariants.{Md5}
use Rattle.bag_digest.specs.declared.digest.Digest.{Digest}
use Rattle.bag_digest.specs.Spelling.{SpellsDigest}
use Rattle.bag_digest.proofs.examples.a_digest_is_spelled_in_full.Goals as goal

too_short : (other : Digest) → ¬ SpellsDigest Md5 (codes "900150983cd24fb0d6963f7d28e17f7") other
unfolding decode_pairs
too_short other h = let e = h.digits in cc

too_long : (other : Digest) → ¬ SpellsDigest Md5 (codes "900150983cd24fb0d6963f7d28e17f7200") other
unfolding decode_pairs
too_long other h = let e = h.digits in cc

no_digit : (other : Digest) → ¬ SpellsDigest Md5 (codes "900150983cd24fb0d6963f7d28e17f7g") other
unfolding decode_pairs
no_digit other h = let e = h.digits in cc

pub returns : goal.returns
unfolding decode_pairs
returns c = (record { by_alg = refl; digits = refl }, too_short, too_long, no_digit)
