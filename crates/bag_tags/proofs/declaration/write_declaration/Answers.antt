use Rattle.bag_tags.proofs.DeclarationLemmas.{copy_declares}
use Rattle.bag_tags.proofs.declaration.write_declaration.Goals as goal

pub returns-clause-declares : goal.returns-clause-declares
returns-clause-declares c = copy_declares (λ v. v.items) c.to_vec.result c.to_vec.ensures.items_if_clones_equal
