use Rattle.std.proofs.Common.{◌≡◌, ◌∙◌, false, true, Some, None, sym, rules}
use Rattle.bag_rules.proofs.Words.{is_oxum}
use Rattle.bag_rules.proofs.PayloadLemmas.{unread_other, other_streams}
use Rattle.bag_rules.proofs.oxum_faults.is_other_oxum.Goals as goal

pub returns-in-None : goal.returns-in-None
returns-in-None c =
    let none : c.parse.result ≡ None = c.in-None.is in (
      λ h. absurd (let k : false ≡ true = h in cc),
      λ h. absurd (unread_other c.args.element.now c.args.size c.value.result.now c.parse.result c.value.ensures.value c.parse.ensures.only none h),
    )

pub returns-else-from-size : goal.returns-else-from-size
returns-else-from-size c =
    let some : c.parse.result ≡ Some c.in-Some.oxum = c.in-Some.is in
    let is : is_oxum c.args.element.now ≡ true = sym c.is_oxum.ensures ∙ c.if-not-is_oxum.false in
    let octets : c.in-Some.oxum.octets ≡ c.args.size.octets = search rules in
    other_streams c.args.element.now c.args.size c.value.result.now c.parse.result c.value.ensures.value c.parse.ensures.only c.in-Some.oxum some c.in-Some.ensures.read is octets
