use Rattle.std.proofs.Common.{subst}
use Rattle.bag_receiver.specs.Auditeds.{AreWhole}
use Rattle.bag_receiver.proofs.audit.Audited.with_room.Goals as goal

pub returns-clause-sound : goal.returns-clause-sound
returns-clause-sound c = λ tags sound. c.of.ensures.sound tags (c.in_ok-settle.ensures.sound tags sound)

pub returns-clause-whole : goal.returns-clause-whole
returns-clause-whole c = λ tags sizes sound whole rising. subst (λ s. AreWhole s c.of.result) (c.in_ok-settle.ensures.whole tags sizes sound whole rising) c.of.ensures.whole
