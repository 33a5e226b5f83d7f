use Rattle.std.proofs.Common.{◌≡◌, ◌≢◌, ◌∙◌, [], ap, inl, inr, pos, rules, subst, sym}
use Rattle.bag_sqlite.proofs.Words.{err_from_is_err_and, format_text, HasNoFormat, Int, MayShow, SayNoFormat, Tells, the_format}
use Rattle.bag_sqlite.proofs.RefusingLemmas.{by_rows, none_for, one_format}
use Rattle.bag_sqlite.proofs.format.format_of.Goals as goal

pub returns-in-1-clause-format : goal.returns-in-1-clause-format
returns-in-1-clause-format g c clean db stands =
    let it = c.in_ok-format_in.ensures in
    let one : c.in_ok-format_in.field-0 ≡ pos 1 = search rules in
    record { row = it.0; told = subst (Tells g.S.Store db format_text []) (sym c.as_slice.ensures.value ∙ it.1) (c.in_ok-rows.ensures.rows clean db stands); name_is = it.2; number_is = it.3 ∙ ap Int one }

pub returns-in-2-clause-format : goal.returns-in-2-clause-format
returns-in-2-clause-format g c clean db stands =
    let it = c.in_ok-format_in.ensures in
    let two : c.in_ok-format_in.field-0 ≡ pos 2 = search rules in
    record { row = it.0; told = subst (Tells g.S.Store db format_text []) (sym c.as_slice.ensures.value ∙ it.1) (c.in_ok-rows.ensures.rows clean db stands); name_is = it.2; number_is = it.3 ∙ ap Int two }

pub returns-in_err-rows-clause-refused : goal.returns-in_err-rows-clause-refused
returns-in_err-rows-clause-refused g c clean db stands =
    let p = err_from_is_err_and c.from_residual.result c.from_residual.ensures.1 in
    rw (p.1, p.2) (none_for _ (HasNoFormat g.S.Store db) (λ no. inl no) _ (c.in_err-rows.ensures.refused clean db stands))

pub returns-in_err-format_in-clause-refused : goal.returns-in_err-format_in-clause-refused
returns-in_err-format_in-clause-refused g c clean db stands =
    let p = err_from_is_err_and c.from_residual-in_err-format_in.result c.from_residual-in_err-format_in.ensures.1 in
    let rows = c.as_slice.result.now in
    let told = subst (Tells g.S.Store db format_text []) (sym c.as_slice.ensures.value) (c.in_ok-rows.ensures.rows clean db stands) in
    rw (p.1, p.2) (by_rows (SayNoFormat rows) (HasNoFormat g.S.Store db)
    (λ none. inr (rows, told, λ may. elim may [ inl old ↦ none (pos 1) old | inr new ↦ none (pos 2) new ])) _ c.in_err-format_in.ensures)

pub returns-clause-refused : goal.returns-clause-refused
returns-clause-refused g c clean db stands =
    let rows = c.as_slice.result.now in
    let says = c.in_ok-format_in.ensures in
    let number = c.in_ok-format_in.field-0 in
    let not_one : number ≢ pos 1 = search rules in
    let not_two : number ≢ pos 2 = search rules in
    let told = subst (Tells g.S.Store db format_text []) (sym c.as_slice.ensures.value) (c.in_ok-rows.ensures.rows clean db stands) in
    let neither : ¬ MayShow the_format rows = λ may. elim may [
      | inl old ↦ not_one (one_format rows number (pos 1) says old)
      | inr new ↦ not_two (one_format rows number (pos 2) says new)
    ] in
    inr (rows, told, neither)
