use Rattle.std.proofs.Common.{arith, rules, FitsSigned, take_all, w64, refl}
use Rattle.bag_sqlite.proofs.Words.{err_from_is_err_and, HasCleanDisk, IsInt, IsText, slice_get_read, state, the_transfers, to_z-of_z}
use Rattle.bag_sqlite.proofs.AdoptingLemmas.{Verifies, all_more, reads_then, stands_still}
use Rattle.bag_sqlite.proofs.RefusingLemmas.{adopt_transfer, all_at, no_column, null_int, null_text, to_transfers}
use Rattle.bag_sqlite.proofs.verifying.verify_rows.Goals as goal

pub loop-row-preserved : goal.loop-row-preserved
loop-row-preserved g c =
    let old = state g.S.Store c.args.connection.now in
    let mid = state g.S.Store c.loop-row.connection in
    let new = state g.S.Store c.verify_transfer.new.connection in
    let before = λ (clean : HasCleanDisk new). let early : HasCleanDisk mid = omega (arith, clean, c.verify_transfer.ensures.reads.survives.clean) in early in
    let so_far = c.loop-row.invariant in
    record {
      reads = reads_then so_far.reads c.verify_transfer.ensures.reads;
      verified = λ clean db stands.
          let still = stands_still old mid db (so_far.reads.read (before clean)) stands in
          let number = c.in_ok-get.field-0 in
          let fits : FitsSigned w64 number = search rules in
          let one = rw (to_z-of_z w64 number fits) at (c.in_ok-verify_transfer.ensures.verified clean db still) in
          all_more (Verifies g.S.Store db c.args.format) c.args.rows.now c.loop-row.row-index c.row-item.result c.loop-row-test.true c.row-item.is (so_far.verified (before clean) db stands)
          (number, c.in_ok-get.ensures.ok.1, one);
    }

pub returns-clause-verified : goal.returns-clause-verified
returns-clause-verified g c clean db stands = rw (take_all c.loop-row.row-index c.args.rows.now c.loop-row-test.false) at (c.loop-row.invariant.verified clean db stands)

pub returns-in_err-get-clause-refused : goal.returns-in_err-get-clause-refused
returns-in_err-get-clause-refused g c clean db stands told =
    let p = err_from_is_err_and c.from_residual.result c.from_residual.ensures.1 in
    rw (p.1, p.2) (to_transfers g.S.Store db c.args.format _ (no_column g.S.Store db c.args.format the_transfers tt IsInt null_int c.row-item.result 0 _ c.args.rows.now told
    (λ may. (all_at _ c.args.rows.now c.loop-row.row-index c.row-item.result may c.loop-row-test.true c.row-item.is).0) c.in_err-get.ensures.named c.in_err-get.ensures.kind))

pub returns-in_err-get-2-clause-refused : goal.returns-in_err-get-2-clause-refused
returns-in_err-get-2-clause-refused g c clean db stands told =
    let p = err_from_is_err_and c.from_residual-in_err-get-2.result c.from_residual-in_err-get-2.ensures.1 in
    rw (p.1, p.2) (to_transfers g.S.Store db c.args.format _ (no_column g.S.Store db c.args.format the_transfers tt IsText null_text c.row-item.result 1 _ c.args.rows.now told
    (λ may. (all_at _ c.args.rows.now c.loop-row.row-index c.row-item.result may c.loop-row-test.true c.row-item.is).1) c.in_err-get-2.ensures.named c.in_err-get-2.ensures.kind))

pub returns-in_err-verify_transfer-clause-refused : goal.returns-in_err-verify_transfer-clause-refused
returns-in_err-verify_transfer-clause-refused g c clean db stands told =
    let old = state g.S.Store c.args.connection.now in
    let mid = state g.S.Store c.loop-row.connection in
    let early : HasCleanDisk mid = omega (arith, clean, c.verify_transfer.ensures.reads.survives.clean) in
    let still = stands_still old mid db (c.loop-row.invariant.reads.read early) stands in
    let p = err_from_is_err_and c.from_residual-in_err-verify_transfer.result c.from_residual-in_err-verify_transfer.ensures.1 in
    let number = c.in_ok-get.field-0 in
    let fits : FitsSigned w64 number = search rules in
    let refused = rw (to_z-of_z w64 number fits) at (c.in_err-verify_transfer.ensures.refused clean db still) in
    rw (p.1, p.2) (adopt_transfer g.S.Store db c.args.format number _ _ (λ path fails. record {
      rows = c.args.rows.now;
      told = told;
      at = c.loop-row.row-index;
      row = c.row-item.result;
      here = slice_get_read c.args.rows.now _ c.loop-row.row-index c.row-item.result refl c.loop-row-test.true c.row-item.is;
      passing = c.loop-row.invariant.verified early db stands;
      transfer = number;
      row_is = (c.in_ok-get.ensures.ok.1, c.in_ok-get-2.ensures.ok.1);
      fails = fails;
    }) refused)

pub returns-in_err-verify_transfer-clause-reads : goal.returns-in_err-verify_transfer-clause-reads
returns-in_err-verify_transfer-clause-reads g c = reads_then c.loop-row.invariant.reads c.verify_transfer.ensures.reads
