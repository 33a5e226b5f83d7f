use Rattle.std.proofs.Common.{◌≡◌, ◌≢◌, ◌∙◌, [], ◌∷◌, ap, length, refl, rules, slice_index_or, sym}
use Rattle.std.proofs.Math.Facts.{to_z-of_z}
use Rattle.bag_sqlite.proofs.Words.{Blob, body_of, body_text, column, err_from_is_err_and, Int}
use Rattle.bag_sqlite.specs.declared.format.Format.TheVariants as form
use Rattle.bag_sqlite.proofs.AdoptingLemmas.{one_told, row_at}
use Rattle.bag_sqlite.proofs.RefusingLemmas.{no_query}
use Rattle.bag_sqlite.proofs.verifying.whole_content.Goals as goal

pub returns-in_err-rows-clause-refused : goal.returns-in_err-rows-clause-refused
returns-in_err-rows-clause-refused g c clean db stands =
    let p = err_from_is_err_and c.from_residual.result c.from_residual.ensures.1 in
    rw (p.1, p.2) (no_query g.S.Store db form.First (body_of c.args.item) refl _ (c.in_err-rows.ensures.refused clean db stands))

pub returns-then-len-ne1-clause-refused : goal.returns-then-len-ne1-clause-refused
returns-then-len-ne1-clause-refused g c clean db stands =
    let rows = c.in_ok-rows.rows.items in
    let many : length rows ≢ 1 = search rules in
    let told = rw (c.params-to_sql.ensures ∙ ap Int (to_z-of_z c.ranges.item)) at (c.in_ok-rows.ensures.rows clean db stands) in
    record { rows = rows; told = told; other = λ one. many (ap length one.1) }

pub returns-in_default-clause-refused : goal.returns-in_default-clause-refused
returns-in_default-clause-refused g c clean db stands =
    let rows = c.in_ok-rows.rows.items in
    let one : length rows ≡ 1 = search rules in
    let told = rw (c.params-to_sql.ensures ∙ ap Int (to_z-of_z c.ranges.item)) at (c.in_ok-rows.ensures.rows clean db stands) in
    let first = row_at rows c.index.result.now one c.index.ensures in
    let none = rw c.in_default.is at c.blob_in.ensures in
    record { rows = rows; told = told; other = λ shows. none (shows.2, ap (λ r. column r 0) (sym first ∙ ap (λ rs. slice_index_or rs 0 []) shows.1) ∙ shows.3) }

pub returns-then-body-size-clause-refused : goal.returns-then-body-size-clause-refused
returns-then-body-size-clause-refused g c clean db stands =
    let rows = c.in_ok-rows.rows.items in
    let one : length rows ≡ 1 = search rules in
    let told = rw (c.params-to_sql.ensures ∙ ap Int (to_z-of_z c.ranges.item)) at (c.in_ok-rows.ensures.rows clean db stands) in
    let first = row_at rows c.index.result.now one c.index.ensures in
    let other : length c.in-Some.body.now ≢ c.args.size = search rules in
    let blob = rw c.in-Some.is at c.blob_in.ensures in
    record {
      rows = rows;
      told = told;
      other = λ shows.
          let read : Blob shows.2 ≡ Blob c.in-Some.body.now = sym shows.3 ∙ ap (λ r. column r 0) (sym (ap (λ rs. slice_index_or rs 0 []) shows.1) ∙ first) ∙ blob in
          let same : c.in-Some.body.now ≡ shows.2 = cc in
          other (ap length same ∙ shows.4);
    }

pub returns-clause-content : goal.returns-clause-content
returns-clause-content g c clean db stands =
    let rows = c.in_ok-rows.rows.items in
    let one : length rows ≡ 1 = search rules in
    let told = rw (c.params-to_sql.ensures ∙ ap Int (to_z-of_z c.ranges.item)) at (c.in_ok-rows.ensures.rows clean db stands) in
    let blob = rw c.in-Some.is at c.blob_in.ensures in
    let first : column (slice_index_or rows 0 []) 0 ≡ Blob c.in-Some.body.now = ap (λ r. column r 0) (row_at rows c.index.result.now one c.index.ensures) ∙ blob in
    let long : c.args.size ≡ length c.in-Some.body.now = search rules in
    (c.in-Some.body.now, one_told g.S.Store db body_text (Int c.args.item ∷ []) rows _ one first told, long, c.in_ok-take.ensures.taken c.args.set [] c.none-content.ensures.taken)
