use Rattle.bag_tags.proofs.DeclarationLemmas.{excludes}
use Rattle.bag_tags.proofs.declaration.a_declaration_has_no_fault.Goals as goal

pub returns : goal.returns
returns c = excludes
