use Rattle.std.proofs.Common.{◌≡◌, ◌++◌, ◌∷◌, ◌∙◌, [], true, false, ap, sym, rules}
use Rattle.bag_rules.specs.Plans.{item_paths}
use Rattle.bag_rules.proofs.Words.{Missing}
use Rattle.bag_rules.proofs.MissingLemmas.{pair_away}
use Rattle.bag_rules.proofs.transfer_faults.add_missing_pair.Goals as goal

pub returns-in_ok-push : goal.returns-in_ok-push
returns-in_ok-push c = λ rising.
    let path = c.args.pair.now.path in
    let held = c.is_held.ensures rising in
    let own : c.in_ok-path.path ≡ path = search rules in
    pair_away (item_paths c.args.sizes.now) c.args.manifest path _ _ (λ there. (let k : true ≡ false = sym (held.1 there) ∙ c.if-not-is_held.true in cc))
    (c.in_ok-push.ensures.items ∙ ap (λ p. c.args.faults.now.items ++ Missing c.args.manifest p ∷ []) own)
