use Rattle.std.proofs.Common.{◌≡◌, ◌∙◌, [], ◌∷◌, ap, length, rules, w64, ◌≢◌, inr, refl, subst, sym, FitsSigned, slice_index_or}
use Rattle.bag_sqlite.proofs.Words.{column, count_text, count_under, err_from_is_err_and, Int, IsInt, to_z-of_z}
use Rattle.bag_sqlite.specs.declared.format.Format.TheVariants as form
use Rattle.bag_sqlite.proofs.AdoptingLemmas.{one_told, row_at}
use Rattle.bag_sqlite.proofs.RefusingLemmas.{no_column, no_query, null_int}
use Rattle.bag_sqlite.proofs.verifying.count_of.Goals as goal

pub returns-clause-count : goal.returns-clause-count
returns-clause-count g c clean db stands =
    let rows = c.in_ok-rows.rows.items in
    let count = c.in_ok-get.field-0 in
    let one : length rows ≡ 1 = search rules in
    let first : column (slice_index_or rows 0 []) 0 ≡ Int count = ap (λ r. column r 0) (row_at rows c.index.result.now one c.index.ensures) ∙ c.in_ok-get.ensures.ok.1 in
    let fits : FitsSigned w64 count = search rules in
    let told = rw (c.params-to_sql.ensures, to_z-of_z w64 c.args.item c.ranges.item) at (c.in_ok-rows.ensures.rows clean db stands) in
    rw (to_z-of_z w64 count fits) (one_told g.S.Store db count_text (Int c.args.item ∷ []) rows (Int count) one first told)

pub returns-in_err-rows-clause-count : goal.returns-in_err-rows-clause-count
returns-in_err-rows-clause-count g c clean db stands =
    let p = err_from_is_err_and c.from_residual.result c.from_residual.ensures.1 in
    rw (p.1, p.2) (no_query g.S.Store db form.Second (count_under c.args.item) refl _ (c.in_err-rows.ensures.refused clean db stands))

pub returns-then-len-ne1-clause-count : goal.returns-then-len-ne1-clause-count
returns-then-len-ne1-clause-count g c clean db stands =
    let rows = c.in_ok-rows.rows.items in
    let many : length rows ≢ 1 = search rules in
    let told = rw (c.params-to_sql.ensures, to_z-of_z w64 c.args.item c.ranges.item) at (c.in_ok-rows.ensures.rows clean db stands) in
    (count_under c.args.item, refl, inr (rows, told, λ one. many (ap length one.1)))

pub returns-in_err-get-clause-count : goal.returns-in_err-get-clause-count
returns-in_err-get-clause-count g c clean db stands =
    let p = err_from_is_err_and c.from_residual-in_err-get.result c.from_residual-in_err-get.ensures.1 in
    let rows = c.in_ok-rows.rows.items in
    let one : length rows ≡ 1 = search rules in
    let told = rw (c.params-to_sql.ensures, to_z-of_z w64 c.args.item c.ranges.item) at (c.in_ok-rows.ensures.rows clean db stands) in
    let first = row_at rows c.index.result.now one c.index.ensures in
    rw (p.1, p.2) (no_column g.S.Store db form.Second (count_under c.args.item) refl IsInt null_int c.index.result.now 0 _ rows told
    (λ may. subst (λ r. IsInt (column r 0)) (sym (ap (λ rs. slice_index_or rs 0 []) may.1) ∙ first) may.2) c.in_err-get.ensures.named c.in_err-get.ensures.kind)
