use Rattle.bag_tags.proofs.EarlierDeclaration.{earlier_declares}
use Rattle.bag_tags.proofs.examples.an_earlier_version_is_declared.Goals as goal

pub returns : goal.returns
returns c = earlier_declares
