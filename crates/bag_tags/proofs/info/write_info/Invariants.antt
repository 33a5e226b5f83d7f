use Rattle.std.proofs.Common.{◌≡◌, take}
use Rattle.std.specs.List.{AllByRecursion}
use Rattle.bag_tags.specs.Infos.{IsElement, written_info}
use Rattle.bag_tags.proofs.info.write_info.Given as goal

abbrev pub invariant-loop-element : goal.invariant-loop-element
invariant-loop-element l = record {
  written : l.octets.items ≡ written_info (take l.element-index l.element-items);
  elements : AllByRecursion IsElement (take l.element-index l.element-items);
}
