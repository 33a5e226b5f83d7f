use Rattle.std.proofs.Common.{inl, inr, rules}
use Rattle.bag_sqlite.proofs.Words.{AreTexts, err_from_is_err_and}
use Rattle.bag_sqlite.proofs.RefusingLemmas.{none_for}
use Rattle.bag_sqlite.proofs.adopting.test_column.Goals as goal

pub returns-then-are_texts-clause-texts : goal.returns-then-are_texts-clause-texts
returns-then-are_texts-clause-texts g c clean db stands =
    let rows = c.in_ok-rows_of.field-0.items in
    let texts : AreTexts rows = search rules in
    record { rows = rows; told = c.in_ok-rows_of.ensures.rows clean db stands; texts = texts }

pub returns-in_err-rows_of-clause-refused : goal.returns-in_err-rows_of-clause-refused
returns-in_err-rows_of-clause-refused g c clean db stands =
    let p = err_from_is_err_and c.from_residual.result c.from_residual.ensures.1 in
    rw (p.1, p.2) (none_for _ _ (λ no. inl no) _ (c.in_err-rows_of.ensures.refused clean db stands))

pub returns-else-are_texts-clause-refused : goal.returns-else-are_texts-clause-refused
returns-else-are_texts-clause-refused g c clean db stands =
    let rows = c.in_ok-rows_of.field-0.items in
    let other : ¬ AreTexts rows = search rules in
    inr (rows, c.in_ok-rows_of.ensures.rows clean db stands, other)
