use Rattle.std.proofs.Common.{◌≡◌, ◌∙◌, subst, rules}
use Rattle.bag_rules.specs.Wants.{IsWanted}
use Rattle.bag_ledger.specs.Ledgers.{with_item}
use Rattle.bag_ledger.proofs.SoundLemmas.{puts}
use Rattle.bag_ledger.proofs.map_keeper.MapKeeperKeeper.put_from.Goals as goal

pub returns-clause-put : goal.returns-clause-put
returns-clause-put g c =
    let content = c.in_ok-body.body.items in
    let gave = c.in_ok-body.ensures.octets in
    let wanted : IsWanted c.args.want.now content = subst (IsWanted c.args.want.now) c.as_slice.ensures.value c.in_ok-test_octets.ensures in
    let path : c.in_ok-path.path ≡ c.args.want.now.path.now = search rules in (
      content,
      record {
        is_given = (gave, wanted);
        writes = puts c.args.self.now _ c.args.name.now content c.args.want.now
            (c.in_ok-add_item.ensures.added ∙ (λ t. with_item (c.self.view_is t) c.args.name.now (path t) content)) gave.within wanted;
      },
    )
