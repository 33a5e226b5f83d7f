use Rattle.std.proofs.Common.{List, IfSome, [], ◌∷◌, arith, subst, w64, inl, inr, refl, rules}
use Rattle.bag_sqlite.proofs.Words.{err_from_is_err_and, files_in, Format, HasCleanDisk, Int, IsNoLedger, IsPlanOf, Plan, Row, state, tag_files_text, Tells, to_z-of_z}
use Rattle.bag_sqlite.proofs.AdoptingLemmas.{reads_then, stands_still}
use Rattle.bag_sqlite.proofs.RefusingLemmas.{none_for, to_transfer}
use Rattle.bag_sqlite.proofs.verifying.verify_transfer.Goals as goal

pub returns-in-None-clause-verified : goal.returns-in-None-clause-verified
returns-in-None-clause-verified g c clean db stands =
    let old = state g.S.Store c.args.connection.now in
    let mid = state g.S.Store c.plan_of.new.connection in
    let early : HasCleanDisk mid = omega (arith, clean, c.first_damaged.ensures.reads.survives.clean) in
    let so : Plan → Type 0 = λ plan. (rows : List Row) × Tells g.S.Store db tag_files_text (Int c.args.transfer ∷ []) rows × IsPlanOf (files_in rows) plan in
    let given : IfSome c.in_ok-plan.field-0 so = rw (to_z-of_z w64 c.args.transfer c.ranges.transfer) at (c.in_ok-plan.ensures.plan early db stands) in
    let plan = subst (λ o. IfSome o so) c.in-Some.is given in
    let still = stands_still old mid db (c.in_ok-plan.ensures.reads.read early) stands in
    let items = rw (c.in-None.is, to_z-of_z w64 c.args.transfer c.ranges.transfer) at (c.in_ok-path.ensures.passing clean db still (files_in plan.0) plan.2) in
    record {
      tag_rows = plan.0;
      tags_told = plan.1;
      tag_files = plan.2.tag_files;
      opens = plan.2.opens;
      item_rows = items.0;
      items_told = items.1;
      items = items.2;
    }

pub returns-in_err-plan-clause-refused : goal.returns-in_err-plan-clause-refused
returns-in_err-plan-clause-refused g c clean db stands =
    let p = err_from_is_err_and c.from_residual.result c.from_residual.ensures.1 in
    rw (p.1, p.2) (to_transfer g.S.Store db c.args.format c.args.transfer _ _ (none_for ((format : Format) → IsNoLedger g.S.Store db format) (IsNoLedger g.S.Store db c.args.format) (λ no. no c.args.format) _ (c.in_err-plan.ensures.refused clean db stands)))

pub returns-in_default-clause-refused : goal.returns-in_default-clause-refused
returns-in_default-clause-refused g c clean db stands =
    let none = rw (c.in_default.is, to_z-of_z w64 c.args.transfer c.ranges.transfer) at (c.in_ok-plan.ensures.refused clean db stands) in
    (refl, inl (none, search rules))

pub returns-in_err-path-clause-refused : goal.returns-in_err-path-clause-refused
returns-in_err-path-clause-refused g c clean db stands =
    let old = state g.S.Store c.args.connection.now in
    let mid = state g.S.Store c.plan_of.new.connection in
    let p = err_from_is_err_and c.from_residual-in_err-path.result c.from_residual-in_err-path.ensures.1 in
    let early : HasCleanDisk mid = omega (arith, clean, c.first_damaged.ensures.reads.survives.clean) in
    let so : Plan → Type 0 = λ plan. (rows : List Row) × Tells g.S.Store db tag_files_text (Int c.args.transfer ∷ []) rows × IsPlanOf (files_in rows) plan in
    let given : IfSome c.in_ok-plan.field-0 so = rw (to_z-of_z w64 c.args.transfer c.ranges.transfer) at (c.in_ok-plan.ensures.plan early db stands) in
    let plan = subst (λ o. IfSome o so) c.in-Some.is given in
    let still = stands_still old mid db (c.in_ok-plan.ensures.reads.read early) stands in
    rw (p.1, p.2) (to_transfer g.S.Store db c.args.format c.args.transfer _ _ (c.in_err-path.ensures.refused clean db still (files_in plan.0) plan.2))

pub returns-in-Some-2-clause-refused : goal.returns-in-Some-2-clause-refused
returns-in-Some-2-clause-refused g c clean db stands =
    let old = state g.S.Store c.args.connection.now in
    let mid = state g.S.Store c.plan_of.new.connection in
    let early : HasCleanDisk mid = omega (arith, clean, c.first_damaged.ensures.reads.survives.clean) in
    let so : Plan → Type 0 = λ plan. (rows : List Row) × Tells g.S.Store db tag_files_text (Int c.args.transfer ∷ []) rows × IsPlanOf (files_in rows) plan in
    let given : IfSome c.in_ok-plan.field-0 so = rw (to_z-of_z w64 c.args.transfer c.ranges.transfer) at (c.in_ok-plan.ensures.plan early db stands) in
    let plan = subst (λ o. IfSome o so) c.in-Some.is given in
    let still = stands_still old mid db (c.in_ok-plan.ensures.reads.read early) stands in
    let item = rw (c.in-Some-2.is, to_z-of_z w64 c.args.transfer c.ranges.transfer) at (c.in_ok-path.ensures.refused clean db still (files_in plan.0) plan.2) in
    (refl, inr (record { tag_rows = plan.0; tags_told = plan.1; tag_files = plan.2.tag_files; opens = plan.2.opens; item = item }))

pub returns-in_err-path-clause-reads : goal.returns-in_err-path-clause-reads
returns-in_err-path-clause-reads g c = reads_then c.plan_of.ensures.reads c.first_damaged.ensures.reads

pub returns-in-Some-2-clause-reads : goal.returns-in-Some-2-clause-reads
returns-in-Some-2-clause-reads g c = reads_then c.plan_of.ensures.reads c.first_damaged.ensures.reads

pub returns-in-None-clause-reads : goal.returns-in-None-clause-reads
returns-in-None-clause-reads g c = reads_then c.plan_of.ensures.reads c.first_damaged.ensures.reads
