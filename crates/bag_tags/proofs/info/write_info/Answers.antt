use Rattle.std.proofs.Common.{◌≡◌, List, length, ap, ◌∙◌, subst, arith}
use Rattle.bag_tags.specs.Infos.{MetadataElement, IsElement, written_info}
use Rattle.bag_tags.specs.InfoText.{InfoText}
use Rattle.bag_path.specs.declared.version.Version.TheVariants.{V1}
use Rattle.bag_tags.proofs.WritingLemmas.{facts, all_of}
use Rattle.bag_tags.proofs.InfoWritingLemmas.{info_reads}
use Rattle.bag_tags.proofs.info.write_info.Goals as goal

pub returns-clause-reads : goal.returns-clause-reads
returns-clause-reads c =
    let all : c.loop-element.element-index ≡ length c.elements-element-items.result.now = omega arith in
    let good = facts IsElement _ _ all c.loop-element.invariant.elements in
    subst (λ (elements : List MetadataElement). InfoText V1 c.loop-element.octets.items elements) c.elements-element-items.ensures
    (info_reads _ _ (c.loop-element.invariant.written ∙ ap written_info (all_of _ _ all)) good)
