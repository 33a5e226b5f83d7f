use Rattle.std.proofs.Common.{◌∙◌, ◌++◌, ◌∷◌, [], ap, subst, sym}
use Rattle.bag_rules.specs.Plans.{item_paths}
use Rattle.bag_receiver.specs.Auditeds.{AreWhole}
use Rattle.bag_receiver.proofs.ValidSizes.{rising_without}
use Rattle.bag_receiver.proofs.Words.{AreRising}
use Rattle.bag_receiver.proofs.audit.Audited.add.Goals as goal

pub returns-in_ok-push_next-in-Valid-clause-sound : goal.returns-in_ok-push_next-in-Valid-clause-sound
returns-in_ok-push_next-in-Valid-clause-sound c = λ tags sound some.
    c.of.ensures.sound tags (c.in_ok-push_next-in-Valid.ensures.sound tags (c.in_ok-valid-in-Valid.ensures.sound tags sound) (rw c.in-Valid.is at some))

pub returns-in_ok-push_next-in-Valid-clause-whole : goal.returns-in_ok-push_next-in-Valid-clause-whole
returns-in_ok-push_next-in-Valid-clause-whole c = λ tags sizes sound whole rising passes.
    let size = c.args.size in
    let all = c.in_ok-valid-in-Valid.ensures.whole tags sizes sound whole (rising_without sizes size rising) in
    let pushed = c.in_ok-push_next-in-Valid.ensures.whole (subst (λ s. AreRising (item_paths (s ++ size ∷ []))) (sym all) rising) in
    subst (λ s. AreWhole s c.of.result) (pushed ∙ ap (λ s. s ++ size ∷ []) all) c.of.ensures.whole

pub returns-in_ok-audited-in-Untested-clause-whole : goal.returns-in_ok-audited-in-Untested-clause-whole
returns-in_ok-audited-in-Untested-clause-whole c = λ tags sizes sound whole rising passes.
    c.hold.ensures.whole sizes (c.in_ok-audited-in-Untested.ensures.whole tags sizes sound whole (rising_without sizes c.args.size rising)) (rw c.in-Untested.is at passes)
