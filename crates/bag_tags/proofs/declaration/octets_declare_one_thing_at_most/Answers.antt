use Rattle.bag_tags.proofs.DeclarationLemmas.{one_declaration}
use Rattle.bag_tags.proofs.declaration.octets_declare_one_thing_at_most.Goals as goal

pub returns : goal.returns
returns c = one_declaration
