use Rattle.std.proofs.Common.{◌∙◌, [], rules, sym, ap, take_all, refl, take, subst}
use Rattle.bag_sqlite.proofs.Words.{AreTags, column, err_from_is_err_and, IsBlob, IsText, RefusesFile, slice_get_read, Text}
use Rattle.bag_sqlite.proofs.TransferRows.{files_put, files_read, put_more}
use Rattle.bag_sqlite.proofs.AdoptingLemmas.{put_as_with}
use Rattle.bag_sqlite.proofs.RefusingLemmas.{all_at, none_for, not_damage, not_read, null_blob, null_text}
use Rattle.bag_sqlite.proofs.transfer_queries.tag_set_in.Goals as goal

pub loop-row-preserved : goal.loop-row-preserved
loop-row-preserved c =
    put_more c.args.rows.now c.loop-row.row-index c.row-item.result c.loop-row.tags c.add.new.self c.as_str.result.now c.in_ok-get.field-0.items c.loop-row-test.true c.row-item.is (c.in_ok-path.ensures.ok.1 ∙ ap Text (sym c.as_str.ensures.value)) c.in_ok-get.ensures.ok.1 c.loop-row.invariant c.in-Ok.ensures.added

pub returns-clause-shown : goal.returns-clause-shown
returns-clause-shown c = c.loop-row.invariant ∙ ap (files_put []) (take_all c.loop-row.row-index c.args.rows.now c.loop-row-test.false) ∙ put_as_with [] c.args.rows.now

pub returns-clause-files : goal.returns-clause-files
returns-clause-files c files rising is = files_read files c.args.rows.now c.loop-row.tags rising is (c.loop-row.invariant ∙ ap (files_put []) (take_all c.loop-row.row-index c.args.rows.now c.loop-row-test.false))

pub returns-in_err-path-clause-refused : goal.returns-in_err-path-clause-refused
returns-in_err-path-clause-refused c =
    let p = err_from_is_err_and c.from_residual.result c.from_residual.ensures.1 in
    rw (p.1, p.2) (
      (λ damage. absurd (not_damage 0 (column c.row-item.result 0) _ c.in_err-path.ensures.named damage)),
      none_for (¬ IsText (column c.row-item.result 0)) (¬ AreTags c.args.rows.now) (λ none all. none (all_at _ c.args.rows.now c.loop-row.row-index c.row-item.result all c.loop-row-test.true c.row-item.is).0) _
          (not_read IsText null_text c.row-item.result 0 _ c.in_err-path.ensures.named c.in_err-path.ensures.kind),
    )

pub returns-in_err-get-clause-refused : goal.returns-in_err-get-clause-refused
returns-in_err-get-clause-refused c =
    let p = err_from_is_err_and c.from_residual-in_err-get.result c.from_residual-in_err-get.ensures.1 in
    rw (p.1, p.2) (
      (λ damage. absurd (not_damage 1 (column c.row-item.result 1) _ c.in_err-get.ensures.named damage)),
      none_for (¬ IsBlob (column c.row-item.result 1)) (¬ AreTags c.args.rows.now) (λ none all. none (all_at _ c.args.rows.now c.loop-row.row-index c.row-item.result all c.loop-row-test.true c.row-item.is).1) _
          (not_read IsBlob null_blob c.row-item.result 1 _ c.in_err-get.ensures.named c.in_err-get.ensures.kind),
    )

pub returns-in-Err-clause-refused : goal.returns-in-Err-clause-refused
returns-in-Err-clause-refused c = (
  λ _. record {
    at = c.loop-row.row-index;
    row = c.row-item.result;
    here = slice_get_read c.args.rows.now _ c.loop-row.row-index c.row-item.result refl c.loop-row-test.true c.row-item.is;
    path = c.as_str.result.now;
    octets = c.in_ok-get.field-0.items;
    row_is = (c.in_ok-path.ensures.ok.1 ∙ ap Text (sym c.as_str.ensures.value), c.in_ok-get.ensures.ok.1);
    fault = c.in-Err.field-0;
    no_memory = search rules;
    refuses = subst (λ files. RefusesFile files c.as_str.result.now c.in_ok-get.field-0.items c.in-Err.field-0) (c.loop-row.invariant ∙ put_as_with [] (take c.loop-row.row-index c.args.rows.now)) c.in-Err.ensures.fault;
  },
  tt,
)
