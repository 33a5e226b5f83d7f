use Rattle.bag_tags.proofs.ManifestTextLemmas.{pairs_or_fault}
use Rattle.bag_tags.proofs.laws.a_manifest_has_its_pairs_or_a_faulty_line.Goals as goal

pub returns : goal.returns
returns c = pairs_or_fault
