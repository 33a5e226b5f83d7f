use Rattle.std.proofs.Common.{◌∙◌, sym}
use Rattle.bag_rules.proofs.OxumReading.{unread, read}
use Rattle.bag_rules.proofs.form_faults.is_bad_oxum.Goals as goal

pub returns-then-is_oxum : goal.returns-then-is_oxum
returns-then-is_oxum c =
    let text = c.value.ensures.value in
    let is = sym c.is_oxum.ensures ∙ c.if-is_oxum.true in (
      λ none. (is, unread c.args.element.now.value c.value.result.now c.parse.result c.is_none.result text c.parse.ensures.only c.is_none.ensures none),
      λ bad. read c.args.element.now.value c.value.result.now c.parse.result c.is_none.result text c.parse.ensures.read c.is_none.ensures bad.1,
    )
