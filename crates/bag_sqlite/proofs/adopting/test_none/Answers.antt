use Rattle.std.proofs.Common.{◌≡◌, ◌≢◌, [], ap, inl, inr, length, rules, subst}
use Rattle.bag_sqlite.proofs.Words.{err_from_is_err_and, Tells}
use Rattle.bag_sqlite.proofs.AdoptingLemmas.{no_row}
use Rattle.bag_sqlite.proofs.RefusingLemmas.{none_for}
use Rattle.bag_sqlite.proofs.adopting.test_none.Goals as goal

pub returns-then-is_empty-clause-none : goal.returns-then-is_empty-clause-none
returns-then-is_empty-clause-none g c clean db stands =
    let rows = c.in_ok-rows_of.field-0.items in
    let none : length rows ≡ 0 = search rules in
    subst (Tells g.S.Store db c.args.sql.now []) (no_row rows none) (c.in_ok-rows_of.ensures.rows clean db stands)

pub returns-in_err-rows_of-clause-refused : goal.returns-in_err-rows_of-clause-refused
returns-in_err-rows_of-clause-refused g c clean db stands =
    let p = err_from_is_err_and c.from_residual.result c.from_residual.ensures.1 in
    rw (p.1, p.2) (none_for _ _ (λ no. inl no) _ (c.in_err-rows_of.ensures.refused clean db stands))

pub returns-else-is_empty-clause-refused : goal.returns-else-is_empty-clause-refused
returns-else-is_empty-clause-refused g c clean db stands =
    let rows = c.in_ok-rows_of.field-0.items in
    let many : length rows ≢ 0 = search rules in
    inr (rows, c.in_ok-rows_of.ensures.rows clean db stands, λ none. many (ap length none))
