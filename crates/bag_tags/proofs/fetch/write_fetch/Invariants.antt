use Rattle.std.proofs.Common.{◌≡◌, take}
use Rattle.std.specs.List.{AllByRecursion}
use Rattle.bag_tags.specs.Fetches.{CanBeFetched, written_fetch}
use Rattle.bag_tags.proofs.fetch.write_fetch.Given as goal

abbrev pub invariant-loop-line : goal.invariant-loop-line
invariant-loop-line l = record {
  written : l.octets.items ≡ written_fetch (take l.line-index l.line-items);
  entries : AllByRecursion CanBeFetched (take l.line-index l.line-items);
}
