use Rattle.std.proofs.Common.{◌≡◌, ◌∙◌, map, rules}
use Rattle.std.specs.Map.Iter.{deref_pair}
use Rattle.std.proofs.lemmas.Map.Iter.{iter_end}
use Rattle.bag_ledger.proofs.StoredLemmas.{sizes_shown}
use Rattle.bag_ledger.proofs.stored.sizes_in.Goals as goal

pub returns : goal.returns
returns c =
    let all : map deref_pair c.loop-path.yielded ≡ c.args.items.now.entries = search (rules, iter_end) in
    c.loop-path.invariant ∙ sizes_shown c.args.items.now c.loop-path.yielded all
