use Rattle.std.proofs.Common.{◌≡◌, true, false, sym, ◌∙◌}
use Rattle.bag_tags.proofs.ValueLemmas.{value_more, value_stops, value_ends, value_is, is_ok}
use Rattle.bag_tags.proofs.info.is_value.Goals as goal

pub loop-octet-preserved : goal.loop-octet-preserved
loop-octet-preserved c = value_more _ _ _ c.loop-octet-test.true (sym c.stops_value.ensures ∙ c.if-stops_value.false) c.loop-octet.invariant

pub returns-then-stops_value : goal.returns-then-stops_value
returns-then-stops_value c =
    let bad = value_stops _ _ _ c.loop-octet-test.true (sym c.stops_value.ensures ∙ c.if-stops_value.true) c.loop-octet.invariant in
    (λ t. absurd (let k : false ≡ true = t in cc), λ v. sym bad ∙ is_ok _ v)

pub returns : goal.returns
returns c =
    let end = value_ends _ _ _ c.loop-octet-test.false c.loop-octet.invariant in
    (λ t. value_is _ (end ∙ t), λ v. sym end ∙ is_ok _ v)
