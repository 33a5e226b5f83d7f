use Rattle.std.proofs.Common.{◌∙◌, List, ℕ, subst}
use Rattle.bag_tags.specs.Oxums.{OxumText}
use Rattle.bag_writer.proofs.OxumElement.{fits}
use Rattle.bag_writer.proofs.tag_files.texts.oxum_element.Goals as goal

pub unreachable-requires : goal.unreachable-requires
unreachable-requires c =
    let refused = rw c.in-Err-BadLabel.field-0-is at c.in-Err-BadLabel.ensures.refused in
    let oxum = c.args.oxum in
    let says = subst (λ (text : List ℕ). OxumText text oxum.octets oxum.streams) c.in_ok-value.ensures.written c.in_ok-value.ensures.says in
    refused (fits c.as_str.result.now oxum.octets oxum.streams (c.as_str.ensures.value ∙ c.in_ok-value.ensures.written) says).0

pub unreachable-requires-in-Err-BadValue : goal.unreachable-requires-in-Err-BadValue
unreachable-requires-in-Err-BadValue c =
    let refused = rw c.in-Err-BadValue.field-0-is at c.in-Err-BadValue.ensures.refused in
    let oxum = c.args.oxum in
    let says = subst (λ (text : List ℕ). OxumText text oxum.octets oxum.streams) c.in_ok-value.ensures.written c.in_ok-value.ensures.says in
    refused.1 (fits c.as_str.result.now oxum.octets oxum.streams (c.as_str.ensures.value ∙ c.in_ok-value.ensures.written) says).1
