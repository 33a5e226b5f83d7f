use Rattle.std.proofs.Common.{refl}
use Rattle.bag_tags.proofs.EarlierDeclaration.{utf8_declares}
use Rattle.bag_tags.proofs.examples.version_0_97_is_known.Goals as goal

pub returns : goal.returns
returns c = (utf8_declares, refl, refl)
