use Rattle.std.proofs.Common.{subst, sym}
use Rattle.bag_receiver.specs.Holdings.{AreValidSizes}
use Rattle.bag_receiver.proofs.ValidSizes.{none_valid}
use Rattle.bag_receiver.proofs.audit.Audited.none.Goals as goal

pub returns-clause-sound : goal.returns-clause-sound
returns-clause-sound c = λ tags. c.of.ensures.sound tags (subst (λ xs. AreValidSizes tags xs) (sym c.new.ensures.items) (none_valid tags))
