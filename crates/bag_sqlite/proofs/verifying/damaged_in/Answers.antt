use Rattle.std.proofs.Common.{◌∙◌, arith, ap, rules, FitsSigned, sym, take_all, w64, subst, string_bytes}
use Rattle.bag_sqlite.proofs.Words.{err_from_is_err_and, HasCleanDisk, HasMisfit, IsInt, IsText, items_under, state, Text, to_z-of_z}
use Rattle.bag_sqlite.proofs.AdoptingLemmas.{reads_then, stands_still}
use Rattle.bag_sqlite.proofs.BatchLemmas.{IsFirst, Shows, SoFar, either_path, first_at, if_none, if_some, none_left, one_added, one_passes}
use Rattle.bag_sqlite.proofs.RefusingLemmas.{all_at, no_column, null_int, null_text}
use Rattle.bag_sqlite.proofs.verifying.damaged_in.Goals as goal
use Rattle.bag_sqlite.proofs.verifying.damaged_in.Goals.{then-is_full+in_ok-first+in_default, else-is_full+else-size, in-Valid, in-Untested+in_ok-batch-in-Untested}

pub loop-row-preserved : goal.loop-row-preserved
loop-row-preserved g c = record {
  reads = reads_then c.loop-row.invariant.reads c.read_item.ensures.reads;
  so_far = λ clean db stands tags plan.
      let old = state g.S.Store c.args.connection.now in
      let mid = state g.S.Store c.loop-row.connection in
      let early : HasCleanDisk mid = omega (arith, clean, c.read_item.ensures.reads.survives.clean) in
      let still = stands_still old mid db (c.loop-row.invariant.reads.read early) stands in
      let so_far = c.loop-row.invariant.so_far early db stands tags plan in
      let tested : SoFar g.S.Store db c.args.format tags c.args.rows.now c.if-is_full.batch c.loop-row.row-index = elim c.if-is_full.branch [
        | then-is_full+in_ok-first+in_default w ↦ rw w.batch-is (none_left g.S.Store db c.args.format tags c.args.rows.now w.none-batch-then-is_full.result c.loop-row.row-index w.none-batch-then-is_full.ensures (so_far.passing (rw w.in_default.is at (w.in_ok-first.ensures so_far.covered))))
        | else-is_full+else-size w ↦ rw w.batch-is so_far
      ] in
      let item = c.in_ok-item.item in
      let size = c.in_ok-size.size in
      let item_fits : FitsSigned w64 item = search rules in
      let size_fits : FitsSigned w64 size = search rules in
      let row_is : Shows c.row-item.result item c.as_str.result.now size = (c.in_ok-item.ensures.ok.1, c.in_ok-path.ensures.ok.1 ∙ ap Text (sym c.as_str.ensures.value), c.in_ok-size.ensures.ok.1) in
      let found = rw (to_z-of_z w64 item item_fits, to_z-of_z w64 size size_fits) at (c.in_ok-finding.ensures.found clean db still tags plan) in
      elim c.match-finding.branch [
        | in-Valid w ↦ rw w.batch-is (one_passes g.S.Store db c.args.format tags c.args.rows.now c.loop-row.row-index c.row-item.result c.loop-row-test.true c.row-item.is item c.as_str.result.now size row_is c.if-is_full.batch tested (rw w.in-Valid.is at found))
        | in-Untested+in_ok-batch-in-Untested w ↦ rw w.batch-is (one_added g.S.Store db c.args.format tags c.args.rows.now c.loop-row.row-index c.row-item.result c.loop-row-test.true c.row-item.is item c.as_str.result.now size row_is w.in-Untested.want w.in-Untested.content c.if-is_full.batch w.in_ok-batch-in-Untested.batch tested w.in_ok-batch-in-Untested.ensures (rw w.in-Untested.is at found))
      ];
}

pub returns-in_err-item-clause-refused : goal.returns-in_err-item-clause-refused
returns-in_err-item-clause-refused g c clean db stands tags plan transfer told =
    let p = err_from_is_err_and c.from_residual.result c.from_residual.ensures.1 in
    rw (p.1, p.2) (no_column g.S.Store db c.args.format (items_under transfer) tt IsInt null_int c.row-item.result 0 _ c.args.rows.now told
    (λ may. (all_at _ c.args.rows.now c.loop-row.row-index c.row-item.result may c.loop-row-test.true c.row-item.is).0) c.in_err-item.ensures.named c.in_err-item.ensures.kind)

pub returns-in_err-path-clause-refused : goal.returns-in_err-path-clause-refused
returns-in_err-path-clause-refused g c clean db stands tags plan transfer told =
    let p = err_from_is_err_and c.from_residual-in_err-path.result c.from_residual-in_err-path.ensures.1 in
    rw (p.1, p.2) (no_column g.S.Store db c.args.format (items_under transfer) tt IsText null_text c.row-item.result 1 _ c.args.rows.now told
    (λ may. (all_at _ c.args.rows.now c.loop-row.row-index c.row-item.result may c.loop-row-test.true c.row-item.is).1) c.in_err-path.ensures.named c.in_err-path.ensures.kind)

pub returns-in_err-size-clause-refused : goal.returns-in_err-size-clause-refused
returns-in_err-size-clause-refused g c clean db stands tags plan transfer told =
    let p = err_from_is_err_and c.from_residual-in_err-size.result c.from_residual-in_err-size.ensures.1 in
    rw (p.1, p.2) (no_column g.S.Store db c.args.format (items_under transfer) tt IsInt null_int c.row-item.result 2 _ c.args.rows.now told
    (λ may. (all_at _ c.args.rows.now c.loop-row.row-index c.row-item.result may c.loop-row-test.true c.row-item.is).2) c.in_err-size.ensures.named c.in_err-size.ensures.kind)

pub returns-in-Some-clause-refused : goal.returns-in-Some-clause-refused
returns-in-Some-clause-refused g c clean db stands tags plan transfer told =
    let so_far = c.loop-row.invariant.so_far clean db stands tags plan in
    so_far.damaged _ (rw c.in-Some.is at (c.in_ok-first.ensures so_far.covered)) transfer told

pub returns-in_err-finding-clause-refused : goal.returns-in_err-finding-clause-refused
returns-in_err-finding-clause-refused g c clean db stands tags plan transfer told =
    let old = state g.S.Store c.args.connection.now in
    let mid = state g.S.Store c.loop-row.connection in
    let early : HasCleanDisk mid = omega (arith, clean, c.read_item.ensures.reads.survives.clean) in
    let still = stands_still old mid db (c.loop-row.invariant.reads.read early) stands in
    let p = err_from_is_err_and c.from_residual-in_err-finding.result c.from_residual-in_err-finding.ensures.1 in
    rw (p.1, p.2) (c.in_err-finding.ensures.found clean db still tags plan)

pub returns-in-Damaged-clause-refused : goal.returns-in-Damaged-clause-refused
returns-in-Damaged-clause-refused g c clean db stands tags plan transfer told =
    let old = state g.S.Store c.args.connection.now in
    let mid = state g.S.Store c.loop-row.connection in
    let early : HasCleanDisk mid = omega (arith, clean, c.read_item.ensures.reads.survives.clean) in
    let still = stands_still old mid db (c.loop-row.invariant.reads.read early) stands in
    let so_far = c.loop-row.invariant.so_far early db stands tags plan in
    let tested : SoFar g.S.Store db c.args.format tags c.args.rows.now c.if-is_full.batch c.loop-row.row-index = elim c.if-is_full.branch [
      | then-is_full+in_ok-first+in_default w ↦ rw w.batch-is (none_left g.S.Store db c.args.format tags c.args.rows.now w.none-batch-then-is_full.result c.loop-row.row-index w.none-batch-then-is_full.ensures (so_far.passing (rw w.in_default.is at (w.in_ok-first.ensures so_far.covered))))
      | else-is_full+else-size w ↦ rw w.batch-is so_far
    ] in
    let item = c.in_ok-item.item in
    let size = c.in_ok-size.size in
    let item_fits : FitsSigned w64 item = search rules in
    let size_fits : FitsSigned w64 size = search rules in
    let row_is : Shows c.row-item.result item c.as_str.result.now size = (c.in_ok-item.ensures.ok.1, c.in_ok-path.ensures.ok.1 ∙ ap Text (sym c.as_str.ensures.value), c.in_ok-size.ensures.ok.1) in
    let found = rw (to_z-of_z w64 item item_fits, to_z-of_z w64 size size_fits) at (c.in_ok-finding.ensures.found clean db still tags plan) in
    let fails = rw c.in-Damaged.is at found in
    let batch = c.if-is_full.batch in
    let named : IsFirst g.S.Store db c.args.format tags c.args.rows.now (string_bytes c.unwrap_or.result) = rw c.unwrap_or.ensures (either_path (HasMisfit batch.held.known.items batch.held.contents.items) (IsFirst g.S.Store db c.args.format tags c.args.rows.now) c.in_ok-first_damaged-in-Damaged.field-0 c.in_ok-path.path (λ path misfit. tested.damaged path misfit)
    (λ all. subst (IsFirst g.S.Store db c.args.format tags c.args.rows.now) c.as_str.ensures.value (first_at g.S.Store db c.args.format tags c.args.rows.now c.loop-row.row-index c.row-item.result c.loop-row-test.true c.row-item.is item c.as_str.result.now size row_is (tested.passing all) fails))
    (c.in_ok-first_damaged-in-Damaged.ensures tested.covered)) in
    named transfer told

pub returns-clause-passing : goal.returns-clause-passing
returns-clause-passing g c clean db stands tags plan =
    let so_far = c.loop-row.invariant.so_far clean db stands tags plan in
    if_none _ c.in_ok-first_damaged.field-0 (λ all. rw (take_all c.loop-row.row-index c.args.rows.now c.loop-row-test.false) at (so_far.passing all)) (c.in_ok-first_damaged.ensures so_far.covered)

pub returns-clause-refused : goal.returns-clause-refused
returns-clause-refused g c clean db stands tags plan transfer told =
    let so_far = c.loop-row.invariant.so_far clean db stands tags plan in
    if_some _ _ _ c.in_ok-first_damaged.field-0 (λ path misfit. so_far.damaged (string_bytes path) misfit transfer told) (c.in_ok-first_damaged.ensures so_far.covered)

pub returns-in_err-finding-clause-reads : goal.returns-in_err-finding-clause-reads
returns-in_err-finding-clause-reads g c = reads_then c.loop-row.invariant.reads c.read_item.ensures.reads

pub returns-in-Damaged-clause-reads : goal.returns-in-Damaged-clause-reads
returns-in-Damaged-clause-reads g c = reads_then c.loop-row.invariant.reads c.read_item.ensures.reads

pub returns-in_err-first_damaged-in-Damaged-clause-reads : goal.returns-in_err-first_damaged-in-Damaged-clause-reads
returns-in_err-first_damaged-in-Damaged-clause-reads g c = reads_then c.loop-row.invariant.reads c.read_item.ensures.reads

pub returns-in_err-batch-in-Untested-clause-reads : goal.returns-in_err-batch-in-Untested-clause-reads
returns-in_err-batch-in-Untested-clause-reads g c = reads_then c.loop-row.invariant.reads c.read_item.ensures.reads
