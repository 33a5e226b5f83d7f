use Rattle.std.proofs.Common.{take}
use Rattle.bag_rules.proofs.Words.{Adds, FetchLine, IsEntryUnlisted, OfSome}
use Rattle.bag_rules.proofs.listing_faults.add_fetch_unlisted.Given as goal

abbrev pub invariant-loop-line : goal.invariant-loop-line
invariant-loop-line l = Adds l.fn.faults.items l.faults.items (OfSome (take l.line-index l.line-items) (λ (line : FetchLine). IsEntryUnlisted l.version l.texts.manifests.items line.entry.path))
