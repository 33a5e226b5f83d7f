use Rattle.std.proofs.Common.{ap, subst}
use Rattle.bag_tags.specs.Infos.{MetadataElement, IsFit}
use Rattle.bag_tags.proofs.InfoLineLemmas.{is_label_of, is_value_of, gives_of}
use Rattle.bag_tags.proofs.info.read_element.Goals as goal

pub unreachable-requires : goal.unreachable-requires
unreachable-requires c =
    let refused = rw c.in-Err-BadValue.field-0-is at c.in-Err-BadValue.ensures.refused in
    refused.1 (is_value_of _ _ _ _ c.in-Some.ensures c.requires)

pub returns-in-Ok-clause-ok : goal.returns-in-Ok-clause-ok
returns-in-Ok-clause-ok c =
    gives_of _ _ _ _ _ c.in-Some.ensures c.in-Ok.ensures.made (subst IsFit (ap (λ (e : MetadataElement). e.label) c.in-Ok.ensures.made) c.in-Ok.ensures.is_element.is_label.fit)

pub returns-in-Err-BadLabel-clause-err : goal.returns-in-Err-BadLabel-clause-err
returns-in-Err-BadLabel-clause-err c =
    let refused = rw c.in-Err-BadLabel.field-0-is at c.in-Err-BadLabel.ensures.refused in
    (_, (_, c.in-Some.ensures, λ fit. refused (is_label_of _ _ _ _ c.in-Some.ensures c.requires fit)))
