use Rattle.std.proofs.Common.{◌≡◌, ◌∙◌, [], Some, None, sym, ap, rules}
use Rattle.bag_rules.specs.Plans.{sizes_of}
use Rattle.bag_ledger.specs.Ledgers.{items_of, transfer_of}
use Rattle.bag_ledger.proofs.StoredLemmas.{items_at, transfer_there, none_is_not_some}
use Rattle.bag_ledger.proofs.map_keeper.MapKeeperKeeper.sizes.Goals as goal

pub returns-in_default-clause-sizes : goal.returns-in_default-clause-sizes
returns-in_default-clause-sizes c = λ clean ledger holds.
    let nothing : sizes_of (items_of ledger c.args.name.now) ≡ [] = ap sizes_of (ap (λ l. items_of l c.args.name.now) (holds.0 ∙ sym c.self.view_is) ∙ items_at c.args.name.now c.self.inside.transfers None c.in_default.ensures.value) in
    search (rules, nothing)

pub returns-clause-sizes : goal.returns-clause-sizes
returns-clause-sizes c = λ clean ledger holds.
    c.in_ok-sizes.ensures ∙ sym (ap sizes_of (ap (λ l. items_of l c.args.name.now) (holds.0 ∙ sym c.self.view_is) ∙ items_at c.args.name.now c.self.inside.transfers (Some c.in-Some.stored.now) c.in-Some.ensures.value))

pub returns-in_err-sizes-clause-none : goal.returns-in_err-sizes-clause-none
returns-in_err-sizes-clause-none c = λ absent.
    absurd (none_is_not_some _ _ (transfer_there c.args.name.now c.self.inside.transfers c.in-Some.stored.now c.in-Some.ensures.value)
    (ap (λ l. transfer_of l c.args.name.now) c.self.view_is ∙ absent))
