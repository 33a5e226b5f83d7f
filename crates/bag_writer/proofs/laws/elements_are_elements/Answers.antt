use Rattle.std.proofs.Common.{◌≡◌, List, length, arith, subst}
use Rattle.std.specs.List.{AllByRecursion}
use Rattle.bag_tags.specs.Infos.{IsElement, MetadataElement}
use Rattle.bag_tags.proofs.WritingLemmas.{facts}
use Rattle.bag_writer.proofs.laws.elements_are_elements.Goals as goal

pub returns : goal.returns
returns c =
    let all : c.loop-element.element-index ≡ length c.elements-element-items.result.now = omega arith in
    subst (λ (elements : List MetadataElement). AllByRecursion IsElement elements) c.elements-element-items.ensures
    (facts IsElement c.elements-element-items.result.now c.loop-element.element-index all c.loop-element.invariant)
