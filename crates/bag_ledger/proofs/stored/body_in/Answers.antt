use Rattle.std.proofs.Common.{◌∙◌, Some, sym, ap}
use Rattle.std.specs.Option.{option_map}
use Rattle.bag_ledger.proofs.StoredLemmas.{body, file_at}
use Rattle.bag_ledger.proofs.stored.body_in.Goals as goal

pub returns-in-Some : goal.returns-in-Some
returns-in-Some c = ap Some c.as_slice.ensures.value ∙ ap (option_map body) c.in-Some.ensures.value ∙ sym (file_at c.args.path.now c.args.items.now)

pub returns-in-None : goal.returns-in-None
returns-in-None c = ap (option_map body) c.in-None.ensures.value ∙ sym (file_at c.args.path.now c.args.items.now)
