use Rattle.std.proofs.Common.{◌≤◌, ◌∙◌, [], arith, FitsSigned, length, rules, subst, sym, w64}
use Rattle.bag_sqlite.proofs.Words.{HasCleanDisk, Shown, state, to_z-of_z}
use Rattle.bag_sqlite.proofs.MigratingLemmas.{begin_moving, move_on, moved_to_end}
use Rattle.bag_sqlite.proofs.MigratingMeanings.{all_text}
use Rattle.bag_sqlite.proofs.ReadingLemmas.{same_mode, within_query, within_refusal}
use Rattle.bag_sqlite.proofs.SqlLemmas.{within_then}
use Rattle.bag_sqlite.proofs.migrating.move_items.Goals as goal

pub returns-in_err-rows-clause-kept : goal.returns-in_err-rows-clause-kept
returns-in_err-rows-clause-kept g c = within_refusal _ _ c.query_all.ensures.same_reference c.query_all.ensures.survives c.in_err-rows.field-0.0 c.in_err-rows.ensures.err

pub loop-row-init : goal.loop-row-init
loop-row-init g c =
    let old = state g.S.Store c.args.tx.now.conn.now in
    let now = state g.S.Store c.query_all.new.self.conn.now in
    record {
      kept = within_query _ _ c.query_all.ensures.same_reference c.query_all.ensures.survives c.in_ok-rows.rows.items c.in_ok-rows.ensures.ok;
      inside = λ clean mode. same_mode old now _ _ _ (c.in_ok-rows.ensures.ok clean) ∙ mode;
      moving = λ clean ledger to. begin_moving old now c.as_slice-row-items.result.now ledger to (subst (Shown all_text [] old now) (sym c.as_slice-row-items.ensures.value) (c.in_ok-rows.ensures.ok clean));
    }

pub loop-row-preserved : goal.loop-row-preserved
loop-row-preserved g c =
    let old = state g.S.Store c.args.tx.now.conn.now in
    let mid = state g.S.Store c.loop-row.tx.conn.now in
    let new = state g.S.Store c.move_item.new.tx.conn.now in
    let before = λ (clean : HasCleanDisk new). let early : HasCleanDisk mid = omega (arith, clean, c.move_item.ensures.kept.survives.clean) in early in
    let so_far = c.loop-row.invariant in
    let rows = c.as_slice-row-items.result.now in
    let number = c.in_ok-get.field-0 in
    let transfer = c.in_ok-get-2.field-0 in
    let number_fits : FitsSigned w64 number = search rules in
    let transfer_fits : FitsSigned w64 transfer = search rules in
    record {
      kept = within_then so_far.kept so_far.inside c.move_item.ensures.kept;
      inside = λ clean mode. c.in_ok-move_item.ensures.inside clean (so_far.inside (before clean) mode);
      moving = λ clean ledger to.
          move_on old mid new rows c.loop-row.row-index c.row-item.result ledger to number transfer _ c.loop-row-test.true c.row-item.is c.in_ok-get.ensures.ok.1 c.in_ok-get-2.ensures.ok.1 c.in_ok-path.ensures.ok.1
          (so_far.moving (before clean) ledger to) (rw (to_z-of_z w64 number number_fits, to_z-of_z w64 transfer transfer_fits, c.as_str.ensures.value) at (c.in_ok-move_item.ensures.moved clean));
    }

pub returns-clause-moved : goal.returns-clause-moved
returns-clause-moved g c clean ledger to =
    let old = state g.S.Store c.args.tx.now.conn.now in
    let now = state g.S.Store c.loop-row.tx.conn.now in
    let rows = c.as_slice-row-items.result.now in
    let past : length rows ≤ c.loop-row.row-index = omega (arith, c.loop-row-test.false) in
    moved_to_end old now rows c.loop-row.row-index ledger to past (c.loop-row.invariant.moving clean ledger to)

pub returns-in_err-move_item-clause-kept : goal.returns-in_err-move_item-clause-kept
returns-in_err-move_item-clause-kept g c = within_then c.loop-row.invariant.kept c.loop-row.invariant.inside c.move_item.ensures.kept
