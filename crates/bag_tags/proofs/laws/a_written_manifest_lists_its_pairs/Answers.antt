use Rattle.std.proofs.Common.{refl}
use Rattle.bag_tags.specs.ManifestWriting.{written_manifest}
use Rattle.bag_tags.proofs.ManifestWritingLemmas.{manifest_reads}
use Rattle.bag_tags.proofs.laws.a_written_manifest_lists_its_pairs.Goals as goal

pub returns : goal.returns
returns c alg kind pairs good fit none_twice = manifest_reads (written_manifest pairs) alg kind pairs refl good fit none_twice
