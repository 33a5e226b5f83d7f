use Rattle.std.proofs.Common.{Some, sym, ap, ◌∙◌, rules}
use Rattle.bag_tags.specs.WordsReading.{until, is_not_blank}
use Rattle.bag_tags.specs.declared.oxum.Oxum.{Oxum}
use Rattle.bag_tags.proofs.OxumLemmas.{cut_by, no_dot, no_back, no_octets, no_streams, oxum_read, oxum_same}
use Rattle.bag_tags.proofs.oxum.Oxum.parse.Goals as goal

pub returns-in_err-rest-clause-only : goal.returns-in_err-rest-clause-only
returns-in_err-rest-clause-only c = λ oxum o. absurd (no_dot _ _ _ _ _ (ap (until is_not_blank) (sym c.as_bytes.ensures.value) ∙ c.split_at_first.ensures) c.split_at_first-2.ensures c.in_err-rest.ensures.cases oxum.octets oxum.streams o)

pub returns-then-not-is_blank_line-clause-only : goal.returns-then-not-is_blank_line-clause-only
returns-then-not-is_blank_line-clause-only c = λ oxum o.
    let cut = cut_by _ _ _ _ _ _ _ _ (ap (until is_not_blank) (sym c.as_bytes.ensures.value) ∙ c.split_at_first.ensures) c.split_at_first-2.ensures c.in_ok-rest.ensures.cases.0 c.in_ok-rest.ensures.cases.1 c.split_at_first-3.ensures in
    absurd (no_back _ _ _ _ cut (sym c.is_blank_line.ensures ∙ c.if-not-is_blank_line.true) oxum.octets oxum.streams o)

pub returns-in_err-read_number-clause-only : goal.returns-in_err-read_number-clause-only
returns-in_err-read_number-clause-only c = λ oxum o.
    let cut = cut_by _ _ _ _ _ _ _ _ (ap (until is_not_blank) (sym c.as_bytes.ensures.value) ∙ c.split_at_first.ensures) c.split_at_first-2.ensures c.in_ok-rest.ensures.cases.0 c.in_ok-rest.ensures.cases.1 c.split_at_first-3.ensures in
    absurd (no_octets _ _ _ _ cut c.in_err-read_number.ensures oxum.octets oxum.streams o)

pub returns-in_err-read_number-2-clause-only : goal.returns-in_err-read_number-2-clause-only
returns-in_err-read_number-2-clause-only c = λ oxum o.
    let cut = cut_by _ _ _ _ _ _ _ _ (ap (until is_not_blank) (sym c.as_bytes.ensures.value) ∙ c.split_at_first.ensures) c.split_at_first-2.ensures c.in_ok-rest.ensures.cases.0 c.in_ok-rest.ensures.cases.1 c.split_at_first-3.ensures in
    absurd (no_streams _ _ _ _ cut c.in_err-read_number-2.ensures oxum.octets oxum.streams o)

pub returns-clause-read : goal.returns-clause-read
returns-clause-read c =
    let cut = cut_by _ _ _ _ _ _ _ _ (ap (until is_not_blank) (sym c.as_bytes.ensures.value) ∙ c.split_at_first.ensures) c.split_at_first-2.ensures c.in_ok-rest.ensures.cases.0 c.in_ok-rest.ensures.cases.1 c.split_at_first-3.ensures in
    oxum_read _ _ _ _ _ _ cut (sym c.is_blank_line.ensures ∙ c.if-not-is_blank_line.false) c.in_ok-read_number.ensures (search rules) c.in_ok-read_number-2.ensures (search rules)

pub returns-clause-only : goal.returns-clause-only
returns-clause-only c = λ oxum o.
    let cut = cut_by _ _ _ _ _ _ _ _ (ap (until is_not_blank) (sym c.as_bytes.ensures.value) ∙ c.split_at_first.ensures) c.split_at_first-2.ensures c.in_ok-rest.ensures.cases.0 c.in_ok-rest.ensures.cases.1 c.split_at_first-3.ensures in
    let read = oxum_read _ _ _ _ _ _ cut (sym c.is_blank_line.ensures ∙ c.if-not-is_blank_line.false) c.in_ok-read_number.ensures (search rules) c.in_ok-read_number-2.ensures (search rules) in
    let made : Oxum = record { octets = c.in_ok-read_number.field-0; streams = c.in_ok-read_number-2.field-0 } in
    ap Some (oxum_same _ made oxum read o)
