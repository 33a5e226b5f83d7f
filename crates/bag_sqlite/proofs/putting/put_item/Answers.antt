use Rattle.std.proofs.Common.{FitsSigned, rules, w64, arith}
use Rattle.bag_sqlite.proofs.Words.{concat, err_from_is_err_and, HasCleanDisk, read_tested, state, to_z-of_z}
use Rattle.bag_sqlite.proofs.PuttingLemmas.{content_then, uses_told}
use Rattle.bag_sqlite.proofs.SqlLemmas.{nothing_then}
use Rattle.bag_sqlite.proofs.putting.put_item.Goals as goal

pub returns-in_err-test-clause-put : goal.returns-in_err-test-clause-put
returns-in_err-test-clause-put g c =
    let p = err_from_is_err_and c.from_residual-in_err-test.result c.from_residual-in_err-test.ensures.1 in
    let it = c.in_ok-sums.ensures.read in
    rw (p.1, p.2) (λ told. read_tested c.args.want.now _ _ (concat it.0) c.in_err-test.field-0.0 it.1.gave (c.in_err-test.ensures.octets (concat it.0) it.1.sums))

pub returns-in_err-test-clause-uses : goal.returns-in_err-test-clause-uses
returns-in_err-test-clause-uses g c =
    let p = err_from_is_err_and c.from_residual-in_err-test.result c.from_residual-in_err-test.ensures.1 in
    let was = c.in_ok-sums.was in
    uses_told c.put_pieces.ensures.uses (λ e. cc (e, p.1, p.2)) (λ e. cc (e, was))

pub returns-in_err-set_size-clause-uses : goal.returns-in_err-set_size-clause-uses
returns-in_err-set_size-clause-uses g c =
    let p = err_from_is_err_and c.from_residual-in_err-set_size.result c.from_residual-in_err-set_size.ensures.1 in
    let was = c.in_ok-sums.was in
    uses_told c.put_pieces.ensures.uses (λ e. cc (e, p.1, p.2)) (λ e. cc (e, was))

pub returns-clause-put : goal.returns-clause-put
returns-clause-put g c =
    let first = state g.S.Store c.args.tx.now.conn.now in
    let second = state g.S.Store c.insert_item.new.tx.conn.now in
    let third = state g.S.Store c.put_pieces.new.tx.conn.now in
    let last = state g.S.Store c.set_size.new.tx.conn.now in
    let it = c.in_ok-sums.ensures.read in
    let item = c.in_ok-item.item in
    let fits : FitsSigned w64 item = search rules in
    let same = to_z-of_z w64 item fits in (
      concat it.0,
      (it.1.gave, c.in_ok-test.ensures.octets (concat it.0) it.1.sums),
      λ clean o.
          let late : HasCleanDisk third = omega (arith, clean, c.set_size.ensures.kept.survives.clean) in
          let early : HasCleanDisk second = omega (arith, late, c.put_pieces.ensures.kept.survives.clean) in
          content_then first second third last item c.args.transfer c.args.want.now.path.now it.0 c.in_ok-sums.sums.length it.1.cut it.1.sums.are_sums.0
          (rw (to_z-of_z w64 c.args.transfer c.ranges.transfer, c.as_str.ensures.text, c.path.ensures) at (c.in_ok-item.ensures.added early o)) (rw same at (it.2 late o))
          (rw same at (c.in_ok-set_size.ensures.set clean o)),
    )

pub returns-clause-uses : goal.returns-clause-uses
returns-clause-uses g c =
    let was = c.in_ok-sums.was in
    uses_told c.put_pieces.ensures.uses (λ e. cc e) (λ e. cc (e, was))

pub returns-in_err-sums-clause-kept : goal.returns-in_err-sums-clause-kept
returns-in_err-sums-clause-kept g c = search (rules, nothing_then)

pub returns-in_err-test-clause-kept : goal.returns-in_err-test-clause-kept
returns-in_err-test-clause-kept g c = search (rules, nothing_then)

pub returns-in_err-set_size-clause-kept : goal.returns-in_err-set_size-clause-kept
returns-in_err-set_size-clause-kept g c = search (rules, nothing_then)

pub returns-clause-kept : goal.returns-clause-kept
returns-clause-kept g c = search (rules, nothing_then)
