use Rattle.std.proofs.Common.{◌≡◌, ◌++◌, ◌∷◌, [], rules, sym}
use Rattle.bag_receiver.proofs.ValidSizes.{valid_more, valid_rising}
use Rattle.bag_receiver.proofs.audit.push_next.Goals as goal

pub returns-clause-sound : goal.returns-clause-sound
returns-clause-sound c = λ tags valid some.
    let before = c.args.valid.now.items in
    let pushed : c.push.new.self.items ≡ before ++ c.args.size ∷ [] = search rules in
    let after = c.comes_after.ensures.rising c.if-not-comes_after.false (rw c.as_slice.ensures.value (valid_rising tags before valid)) in
    rw pushed (valid_more tags before c.args.size valid some (rw (sym c.as_slice.ensures.value) after))
