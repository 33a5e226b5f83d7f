use Rattle.bag_tags.proofs.DeclarationLemmas.{one_fault}
use Rattle.bag_tags.proofs.declaration.octets_have_one_declaration_fault_at_most.Goals as goal

pub returns : goal.returns
returns c = one_fault
