use Rattle.std.proofs.Common.{◌≡◌, sym, ◌∙◌, false, true, rules}
use Rattle.bag_receiver.proofs.BeginFiles.{IsHeavy, emptied_heavy, emptied_light}
use Rattle.bag_receiver.proofs.begin.lightened.Goals as goal

pub returns-then-is_heavy-clause-body : goal.returns-then-is_heavy-clause-body
returns-then-is_heavy-clause-body c = c.new.ensures.items ∙ sym (emptied_heavy c.args.octets.now (c.is_heavy.ensures.0 c.if-is_heavy.true))

pub returns-in-Ok-clause-body : goal.returns-in-Ok-clause-body
returns-in-Ok-clause-body c =
    let same : c.in-Ok.body.items ≡ c.args.octets.now = search rules in
    let light : ¬ IsHeavy c.args.octets.now = λ heavy. (let e : true ≡ false = sym (c.is_heavy.ensures.1 heavy) ∙ c.if-is_heavy.false in cc) in
    same ∙ sym (emptied_light c.args.octets.now light)
