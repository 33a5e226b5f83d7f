use Rattle.bag_tags.proofs.DeclaredVersionLemmas.{begins_with_version}
use Rattle.bag_tags.proofs.declaration.a_declaration_begins_with_its_version.Goals as goal

pub returns : goal.returns
returns c = begins_with_version
