use Rattle.std.proofs.Common.{take}
use Rattle.std.specs.List.{AllByRecursion}
use Rattle.bag_tags.specs.Infos.{IsElement}
use Rattle.bag_writer.proofs.laws.elements_are_elements.Given as goal

abbrev pub invariant-loop-element : goal.invariant-loop-element
invariant-loop-element l = AllByRecursion IsElement (take l.element-index l.element-items)
