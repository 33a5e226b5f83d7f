use Rattle.std.proofs.Common.{rules}
use Rattle.bag_ledger.proofs.StoredLemmas.{new_transfer, transfer_added}
use Rattle.bag_ledger.proofs.stored.add_transfer.Goals as goal

pub returns-in-Ok-clause-added : goal.returns-in-Ok-clause-added
returns-in-Ok-clause-added c =
    transfer_added c.args.transfers.now c.insert.new.self c.in_ok-key.key _ c.args.name.now c.args.tags.now c.in-Ok.ensures.entries
    c.in_ok-key.ensures.ok (new_transfer c.in_ok-tags.tags c.args.tags.now c.new-items.result (search rules) c.new-items.ensures.empty)
