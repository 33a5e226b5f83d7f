use Rattle.bag_tags.proofs.ExactTexts.{one_manifest_fault}
use Rattle.bag_tags.proofs.laws.a_manifest_has_one_first_fault_at_most.Goals as goal

pub returns : goal.returns
returns c = one_manifest_fault
