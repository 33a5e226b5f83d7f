use Rattle.std.proofs.Common.{◌≡◌, Contains, subst, rules}
use Rattle.bag_rules.proofs.Words.{paths_in}
use Rattle.bag_rules.proofs.MissingLemmas.{pair_away}
use Rattle.bag_rules.proofs.listing_faults.add_missing_pair.Goals as goal

pub returns-in_ok-push-in-None : goal.returns-in_ok-push-in-None
returns-in_ok-push-in-None g c =
    let own : c.in_ok-path-in-None.path ≡ c.args.pair.now.path = search rules in
    let text : c.as_str.result.now ≡ c.args.pair.now.path = c.as_str.ensures.text in
    pair_away (paths_in (g.T.Paths.shown c.args.tree.now)) c.args.manifest c.args.pair.now.path _ _
    (subst (λ p. ¬ Contains (paths_in (g.T.Paths.shown c.args.tree.now)) p) text c.in-None.ensures.absent) (rw (← own) c.in_ok-push-in-None.ensures.items)
