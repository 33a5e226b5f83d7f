use Rattle.std.proofs.Common.{◌≡◌, ◌∙◌, Some, None, sym, ap, rules}
use Rattle.bag_ledger.specs.Ledgers.{tags_of}
use Rattle.bag_ledger.proofs.StoredLemmas.{tags_at}
use Rattle.bag_ledger.proofs.map_keeper.MapKeeperKeeper.tags.Goals as goal

pub returns-in_default-clause-tags : goal.returns-in_default-clause-tags
returns-in_default-clause-tags c = λ clean ledger holds.
    sym (ap (λ l. tags_of l c.args.name.now) (holds.0 ∙ sym c.self.view_is) ∙ tags_at c.args.name.now c.self.inside.transfers None c.in_default.ensures.value)

pub returns-clause-tags : goal.returns-clause-tags
returns-clause-tags c = λ clean ledger holds.
    let copy : c.in_ok-tags.tags ≡ c.in-Some.stored.now.tags = search rules in
    ap Some copy ∙ sym (ap (λ l. tags_of l c.args.name.now) (holds.0 ∙ sym c.self.view_is) ∙ tags_at c.args.name.now c.self.inside.transfers (Some c.in-Some.stored.now) c.in-Some.ensures.value)
