use Rattle.std.proofs.Common.{◌≡◌, ◌∙◌, refl, subst, rules}
use Rattle.bag_rules.specs.Wants.{IsWanted}
use Rattle.bag_ledger.specs.Ledgers.{with_item}
use Rattle.bag_ledger.proofs.SoundLemmas.{puts}
use Rattle.bag_ledger.proofs.map_keeper.MapKeeperKeeper.put.Goals as goal

pub returns-clause-put : goal.returns-clause-put
returns-clause-put c =
    let content = c.args.content.now in
    let test = c.in_ok-test_content.ensures.test in
    let wanted : IsWanted c.args.want.now content = subst (IsWanted c.args.want.now) test.1.0.0 test.1.1 in
    let path : c.in_ok-path.path ≡ c.args.want.now.path.now = search rules in (
      content,
      record {
        is_given = ((refl, test.1.0.1), wanted);
        writes = puts c.args.self.now _ c.args.name.now content c.args.want.now
            (c.in_ok-add_item.ensures.added ∙ (λ t. with_item (c.self.view_is t) c.args.name.now (path t) (c.in_ok-copy.ensures.items t))) test.1.0.1 wanted;
      },
    )
