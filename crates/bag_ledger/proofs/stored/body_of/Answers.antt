use Rattle.std.proofs.Common.{◌∙◌, sym}
use Rattle.bag_ledger.proofs.StoredLemmas.{held_at, held_nowhere}
use Rattle.bag_ledger.proofs.stored.body_of.Goals as goal

pub returns-in-Some : goal.returns-in-Some
returns-in-Some c = c.body_in.ensures ∙ sym (held_at c.args.name.now c.args.path.now c.args.transfers.now c.in-Some.stored.now (sym c.in-Some.ensures.value))

pub returns-in-None : goal.returns-in-None
returns-in-None c = sym (held_nowhere c.args.name.now c.args.path.now c.args.transfers.now (sym c.in-None.ensures.value))
