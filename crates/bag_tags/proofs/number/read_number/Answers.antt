use Rattle.std.proofs.Common.{sym, ◌∙◌, rules}
use Rattle.std.proofs.lemmas.Str.Parse.{parse_digits}
use Rattle.bag_tags.proofs.NumeralLemmas.{digits_model, digits_utf8, ok_some, ok_none, number_read, not_empty}
use Rattle.bag_tags.proofs.number.read_number.Goals as goal

pub returns-in_err-ok : goal.returns-in_err-ok
returns-in_err-ok c =
    let none = ok_none _ _ c.from_utf8.result c.from_utf8.ensures.cases (sym c.in_err-ok.was ∙ c.ok.ensures.value) in
    rw c.from_residual.ensures (λ n h below. none.1.0 (digits_utf8 c.args.text.now h.digits))

pub returns : goal.returns
returns c =
    let text = c.args.text.now in
    let same = ok_some _ _ c.from_utf8.result _ c.from_utf8.ensures.cases (sym c.in_ok-ok.was ∙ c.ok.ensures.value) in
    let digits = c.are_digits.ensures.0 (search rules) in
    rw c.ok-2.ensures.value
    (number_read text c.parse.result (not_empty text (sym c.is_empty.ensures ∙ c.if-is_empty.false)) digits
    (parse_digits digits_model 64 text c.parse.result (rw same.0 at c.parse.ensures.value.0) digits))
