use Rattle.std.proofs.Common.{◌≡◌, ◌≢◌, ◌∙◌, [], ◌∷◌, FitsSigned, ap, codes, length, refl, rules, sym, w64}
use Rattle.bag_sqlite.proofs.Words.{column, err_from_is_err_and, Int, IsInt, IsText, SayNoFormat, Text, to_z-of_z}
use Rattle.bag_sqlite.proofs.AdoptingLemmas.{only_row, row_at}
use Rattle.bag_sqlite.proofs.RefusingLemmas.{misread, null_int, null_text, rows_for, says_at}
use Rattle.bag_sqlite.proofs.format.format_in.Goals as goal

pub returns : goal.returns
returns c =
    let rows = c.args.rows.now in
    let row = c.index-rows-0.result in
    let number = c.in_ok-get.field-0 in
    let fits : FitsSigned w64 number = search rules in
    let same : c.as_str.result.now ≡ codes "bag-ledger" = search rules in
    let named : column row 0 ≡ Text (codes "bag-ledger") = c.in_ok-name.ensures.ok.1 ∙ ap Text (sym c.as_str.ensures.value ∙ same) in
    let numbered : column row 1 ≡ Int number = ap (λ r. column r 1) (sym (row_at rows row c.if-rows-ne1.false c.index-rows-0.is) ∙ row_at rows c.index-rows-0-2.result c.if-rows-ne1.false c.index-rows-0-2.is) ∙ c.in_ok-get.ensures.ok.1 in
    rw (to_z-of_z w64 number fits) (row, only_row rows c.if-rows-ne1.false ∙ ap (λ r. r ∷ []) (row_at rows row c.if-rows-ne1.false c.index-rows-0.is), named, numbered)

pub returns-then-rows-ne1 : goal.returns-then-rows-ne1
returns-then-rows-ne1 c =
    let many : length c.args.rows.now ≢ 1 = search rules in
    λ format says. many (ap length says.1)

pub returns-in_err-name : goal.returns-in_err-name
unfolding lib.Utf8.encode
returns-in_err-name c =
    let p = err_from_is_err_and c.from_residual.result c.from_residual.ensures.1 in
    let rows = c.args.rows.now in
    let row = c.index-rows-0.result in
    rw (p.1, p.2) (rows_for (¬ IsText (column row 0)) (SayNoFormat rows)
    (λ none format says. none (codes "bag-ledger", (says_at rows row format c.if-rows-ne1.false c.index-rows-0.is says).0, (codes "bag-ledger", (refl, refl)))) _
    (misread IsText null_text row 0 _ c.in_err-name.ensures.named c.in_err-name.ensures.kind))

pub returns-then-ne : goal.returns-then-ne
returns-then-ne c =
    let rows = c.args.rows.now in
    let row = c.index-rows-0.result in
    let other : c.as_str.result.now ≢ codes "bag-ledger" = search rules in
    λ format says. let named = (says_at rows row format c.if-rows-ne1.false c.index-rows-0.is says).0 in
    other (cc (named, c.in_ok-name.ensures.ok.1, c.as_str.ensures.value))

pub returns-in_err-get : goal.returns-in_err-get
returns-in_err-get c =
    let p = err_from_is_err_and c.from_residual-in_err-get.result c.from_residual-in_err-get.ensures.1 in
    let rows = c.args.rows.now in
    let row = c.index-rows-0-2.result in
    rw (p.1, p.2) (rows_for (¬ IsInt (column row 1)) (SayNoFormat rows)
    (λ none format says. none (format, (says_at rows row format c.if-rows-ne1.false c.index-rows-0-2.is says).1)) _
    (misread IsInt null_int row 1 _ c.in_err-get.ensures.named c.in_err-get.ensures.kind))
