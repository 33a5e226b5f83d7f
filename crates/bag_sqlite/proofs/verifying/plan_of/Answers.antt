use Rattle.std.proofs.Common.{w64, inl, inr, IfNone}
use Rattle.bag_sqlite.proofs.Words.{AreTags, DoNotOpen, err_from_is_err_and, files_in, Format, IsNoLedger, IsNoneFor, IsPlanOf, OpensNone, tags_under, to_z-of_z}
use Rattle.bag_sqlite.proofs.AdoptingLemmas.{ok_some}
use Rattle.bag_sqlite.proofs.RefusingLemmas.{match_map, none_for, none_map}
use Rattle.bag_sqlite.proofs.verifying.plan_of.Goals as goal

pub returns-clause-plan : goal.returns-clause-plan
returns-clause-plan g c clean db stands =
    let rows = c.in_ok-rows.rows.items in
    let told = rw (c.params-to_sql.ensures, to_z-of_z w64 c.args.transfer c.ranges.transfer) at (c.in_ok-rows.ensures.rows clean db stands) in
    ok_some c.plan_in.result (IsPlanOf (files_in rows)) _ (λ plan is. (rows, told, is)) (rw c.as_slice.ensures.value at c.plan_in.ensures.plan)

pub returns-in_err-rows-clause-refused : goal.returns-in_err-rows-clause-refused
returns-in_err-rows-clause-refused g c clean db stands =
    let p = err_from_is_err_and c.from_residual.result c.from_residual.ensures.1 in
    rw (p.1, p.2) (none_for _ ((format : Format) → IsNoLedger g.S.Store db format) (λ no format. (tags_under c.args.transfer, tt, inl no)) _ (c.in_err-rows.ensures.refused clean db stands))

pub returns-clause-refused : goal.returns-clause-refused
returns-clause-refused g c clean db stands =
    let rows = c.in_ok-rows.rows.items in
    let told = rw (c.params-to_sql.ensures, to_z-of_z w64 c.args.transfer c.ranges.transfer) at (c.in_ok-rows.ensures.rows clean db stands) in
    match_map c.plan_in.result (λ plan. IfNone plan (DoNotOpen rows)) (λ plan. IfNone plan (OpensNone g.S.Store db c.args.transfer)) (IsNoneFor (¬ AreTags rows)) (IsNoneFor ((format : Format) → IsNoLedger g.S.Store db format))
    (λ plan none. none_map plan (λ not. record { tag_rows = rows; tags_told = told; none = not }) none)
    (λ fault h. none_for (¬ AreTags rows) ((format : Format) → IsNoLedger g.S.Store db format) (λ no format. (tags_under c.args.transfer, tt, inr (rows, told, no))) fault h)
    (rw c.as_slice.ensures.value at c.plan_in.ensures.refused)
