use Rattle.bag_tags.proofs.DeclarationLemmas.{written_declares}
use Rattle.bag_tags.proofs.examples.the_current_version_is_declared.Goals as goal

pub returns : goal.returns
returns c = written_declares
