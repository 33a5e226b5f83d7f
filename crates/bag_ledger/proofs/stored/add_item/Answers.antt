use Rattle.std.proofs.Common.{◌∙◌, sym, ap}
use Rattle.bag_ledger.specs.Stored.{ledger_in}
use Rattle.bag_ledger.proofs.StoredLemmas.{holds_one_more, holds_the_same, item_added, item_nowhere, same_stored, transfer_there, none_is_not_some}
use Rattle.bag_ledger.proofs.stored.add_item.Goals as goal

pub returns-in_default-clause-added : goal.returns-in_default-clause-added
returns-in_default-clause-added c =
    ap ledger_in c.get_mut.follows.holds-at-none ∙ item_nowhere c.args.transfers.now c.args.name.now c.args.path c.args.body.items (sym c.in_default.ensures.value)

pub returns-in-Ok-clause-added : goal.returns-in-Ok-clause-added
returns-in-Ok-clause-added c =
    let stored = c.in-Some.stored.now in
    item_added c.args.transfers.now (c.get_mut.follows.lender (record stored { items = c.insert.new.self })) c.args.name.now c.args.path c.args.body.items stored (record stored { items = c.insert.new.self })
    (c.get_mut.follows.holds (record stored { items = c.insert.new.self })).0 (sym c.in-Some.ensures.value) c.get_mut.ensures.ordered
    (holds_one_more stored.tags stored.items c.insert.new.self c.args.path c.args.body c.in-Ok.ensures.entries)

pub returns-clause-unchanged : goal.returns-clause-unchanged
returns-clause-unchanged c =
    let stored = c.in-Some.stored.now in
    same_stored c.args.transfers.now (c.get_mut.follows.lender (record stored { items = c.insert.new.self })) c.args.name.now stored (record stored { items = c.insert.new.self })
    (c.get_mut.follows.holds (record stored { items = c.insert.new.self })).0 (sym c.in-Some.ensures.value) c.get_mut.ensures.ordered
    (holds_the_same stored.tags stored.items c.insert.new.self c.in-Err.ensures.err)

pub returns-clause-none : goal.returns-clause-none
returns-clause-none c = λ absent.
    absurd (none_is_not_some _ _ (transfer_there c.args.name.now c.args.transfers.now c.in-Some.stored.now c.in-Some.ensures.value) absent)
