use Rattle.std.proofs.Common.{◌≡◌, ◌∙◌, [], ◌∷◌, ap, length, refl, rules, ◌≢◌, sym, slice_index_or}
use Rattle.std.proofs.Math.Facts.{to_z-of_z}
use Rattle.bag_sqlite.proofs.Words.{Blob, column, err_from_is_err_and, Int, piece_at, piece_text}
use Rattle.bag_sqlite.specs.declared.format.Format.TheVariants as form
use Rattle.bag_sqlite.proofs.AdoptingLemmas.{one_told, row_at}
use Rattle.bag_sqlite.proofs.RefusingLemmas.{no_query}
use Rattle.bag_sqlite.proofs.verifying.take_piece.Goals as goal

pub returns-in_err-rows-clause-refused : goal.returns-in_err-rows-clause-refused
returns-in_err-rows-clause-refused g c clean db stands =
    let p = err_from_is_err_and c.from_residual.result c.from_residual.ensures.1 in
    rw (p.1, p.2) (no_query g.S.Store db form.Second (piece_at c.args.item c.args.n) refl _ (c.in_err-rows.ensures.refused clean db stands))

pub returns-then-len-ne1-clause-refused : goal.returns-then-len-ne1-clause-refused
returns-then-len-ne1-clause-refused g c clean db stands =
    let rows = c.in_ok-rows.rows.items in
    let many : length rows ≢ 1 = search rules in
    let told = rw (c.params-to_sql.ensures ∙ ap Int (to_z-of_z c.ranges.item), c.params-to_sql-2.ensures ∙ ap Int (to_z-of_z c.ranges.n)) at (c.in_ok-rows.ensures.rows clean db stands) in
    λ e. (rows, told, λ one. many (ap length one.1))

pub returns-in_default-clause-refused : goal.returns-in_default-clause-refused
returns-in_default-clause-refused g c clean db stands _ =
    let rows = c.in_ok-rows.rows.items in
    let one : length rows ≡ 1 = search rules in
    let told = rw (c.params-to_sql.ensures ∙ ap Int (to_z-of_z c.ranges.item), c.params-to_sql-2.ensures ∙ ap Int (to_z-of_z c.ranges.n)) at (c.in_ok-rows.ensures.rows clean db stands) in
    let first = row_at rows c.index.result.now one c.index.ensures in
    let none = rw c.in_default.is at c.blob_in.ensures in
    (rows, told, λ shows. none (shows.2, ap (λ r. column r 0) (sym first ∙ ap (λ rs. slice_index_or rs 0 []) shows.1) ∙ shows.3))

pub returns-then-piece-octets-clause-refused : goal.returns-then-piece-octets-clause-refused
returns-then-piece-octets-clause-refused g c clean db stands _ =
    let rows = c.in_ok-rows.rows.items in
    let one : length rows ≡ 1 = search rules in
    let told = rw (c.params-to_sql.ensures ∙ ap Int (to_z-of_z c.ranges.item), c.params-to_sql-2.ensures ∙ ap Int (to_z-of_z c.ranges.n)) at (c.in_ok-rows.ensures.rows clean db stands) in
    let first = row_at rows c.index.result.now one c.index.ensures in
    let other : length c.in-Some.piece.now ≢ c.args.octets = search rules in
    let blob = rw c.in-Some.is at c.blob_in.ensures in (
      rows,
      told,
      λ shows.
          let read : Blob shows.2 ≡ Blob c.in-Some.piece.now = sym shows.3 ∙ ap (λ r. column r 0) (sym (ap (λ rs. slice_index_or rs 0 []) shows.1) ∙ first) ∙ blob in
          let same : c.in-Some.piece.now ≡ shows.2 = cc in
          other (ap length same ∙ shows.4),
    )

pub returns-clause-taken : goal.returns-clause-taken
returns-clause-taken g c clean db stands _ =
    let rows = c.in_ok-rows.rows.items in
    let one : length rows ≡ 1 = search rules in
    let told = rw (c.params-to_sql.ensures ∙ ap Int (to_z-of_z c.ranges.item), c.params-to_sql-2.ensures ∙ ap Int (to_z-of_z c.ranges.n)) at (c.in_ok-rows.ensures.rows clean db stands) in
    let blob = rw c.in-Some.is at c.blob_in.ensures in
    let first : column (slice_index_or rows 0 []) 0 ≡ Blob c.in-Some.piece.now = ap (λ r. column r 0) (row_at rows c.index.result.now one c.index.ensures) ∙ blob in
    let long : length c.in-Some.piece.now ≡ c.args.octets = search rules in
    (c.in-Some.piece.now, one_told g.S.Store db piece_text (Int c.args.item ∷ Int c.args.n ∷ []) rows _ one first told, long, λ set before. c.in_ok-take.ensures.taken set before)

pub returns-clause-held : goal.returns-clause-held
returns-clause-held g c _ size before held =
    let long : length c.in-Some.piece.now ≡ c.args.octets = search rules in
    rw long at (c.in_ok-take.ensures.held size before held)
