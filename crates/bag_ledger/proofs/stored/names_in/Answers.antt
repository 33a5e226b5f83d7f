use Rattle.std.proofs.Common.{◌≡◌, ◌∙◌, map, rules}
use Rattle.std.specs.BTreeMap.{keys}
use Rattle.std.specs.Map.Iter.{deref}
use Rattle.std.proofs.lemmas.Map.Iter.{iter_end}
use Rattle.bag_ledger.proofs.StoredLemmas.{names_shown}
use Rattle.bag_ledger.proofs.stored.names_in.Goals as goal

pub returns : goal.returns
returns c =
    let all : map deref c.loop-name.yielded ≡ keys c.args.transfers.now = search (rules, iter_end) in
    c.loop-name.invariant ∙ names_shown c.args.transfers.now c.loop-name.yielded all
