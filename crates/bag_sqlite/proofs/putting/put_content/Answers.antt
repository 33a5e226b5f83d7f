use Rattle.std.proofs.Common.{FitsSigned, rules, ◌≡◌, inl, inr, subst, w64}
use Rattle.bag_sqlite.proofs.Words.{Awaits, err_from_is_err_and, HasCleanDisk, Held, state, to_z-of_z}
use Rattle.bag_sqlite.proofs.AdoptingLemmas.{queries_then}
use Rattle.bag_sqlite.proofs.CommitLemmas.{LeavesLedger, WritesLedger, committed, failed}
use Rattle.bag_sqlite.proofs.MakingLemmas.{kept_since}
use Rattle.bag_sqlite.proofs.ReadingLemmas.{ReadsLedger, keeps_reading, queries_undone}
use Rattle.bag_sqlite.proofs.StoringLemmas.{prepares_put, puts_it}
use Rattle.bag_sqlite.proofs.putting.put_content.Goals as goal

pub returns-in_default-clause-put : goal.returns-in_default-clause-put
returns-in_default-clause-put g c told =
    (search rules, inl (keeps_reading g.S.Store c.args.connection.now c.transfer_number.new.connection c.requires.idle c.transfer_number.ensures.queries))

pub returns-in_err-put_item-clause-put : goal.returns-in_err-put_item-clause-put
returns-in_err-put_item-clause-put g c =
    let p = err_from_is_err_and c.from_residual-in_err-put_item.result c.from_residual-in_err-put_item.ensures.1 in
    let old = c.args.connection.now in
    let asked = c.transfer_number.new.connection in
    let mid = state g.S.Store c.put_item.new.tx.conn.now in
    let end = c.drop-transaction.new.self.0 in
    let same : end ≡ c.connection-1.given.0 = search rules in
    let begun = c.transaction-transaction.ensures.begun in
    let steps = c.put_item.ensures.kept in
    let kept = λ (early : HasCleanDisk mid). kept_since g.S.Store asked mid (rw begun at (steps.commit early)) in
    let undone = queries_undone g.S.Store asked end mid c.in_ok-transfer.ensures.queries.idle c.drop-transaction.ensures.ended kept (rw begun at steps.survives) c.drop-transaction.ensures.undone c.drop-transaction.ensures.survives in
    let reads = keeps_reading g.S.Store old end c.requires.idle (queries_then c.in_ok-transfer.ensures.queries undone) in
    rw (p.1, p.2) (λ told. (c.in_err-put_item.ensures.put told, inl (subst (λ (h : Held _). ReadsLedger g.S.Store old h) same reads)))

pub returns-in_err-commit-clause-put : goal.returns-in_err-commit-clause-put
returns-in_err-commit-clause-put g c =
    let p = err_from_is_err_and c.from_residual-in_err-commit.result c.from_residual-in_err-commit.ensures.1 in
    let old = c.args.connection.now in
    let asked = c.transfer_number.new.connection in
    let mid = state g.S.Store c.put_item.new.tx.conn.now in
    let end = c.commit.new.self.0 in
    let name = c.args.name.now in
    let want = c.args.want.now in
    let transfer = c.in-Some.transfer in
    let fits : FitsSigned w64 transfer = search rules in
    let same : end ≡ c.connection-2-1.given.0 = search rules in
    let it = c.in_ok-put_item.ensures.put in
    let begun = c.transaction-transaction.ensures.begun in
    let change = puts_it g.S.Store old asked mid name want transfer it.0 in
    let steps = prepares_put g.S.Store old asked mid name want transfer it.0 c.requires.idle c.transfer_number.ensures.queries
    (λ clean ledger holds. rw c.in-Some.is at (c.in_ok-transfer.ensures.number clean ledger holds)) it.1.0.within it.1.1
    (rw (begun, to_z-of_z w64 transfer fits) at it.2) (rw begun at c.in_ok-put_item.ensures.opened)
    (rw begun at c.put_item.ensures.kept.commit) (rw begun at c.put_item.ensures.kept.survives) in
    let leaves = failed g.S.Store (Awaits name want) change old c.requires.idle end mid steps c.commit.ensures.survives c.in_err-commit.field-0.0 c.in_err-commit.ensures.err in
    rw (p.1, p.2) (λ told. (
      (it.0, it.1.0.gave, it.1.0.within),
      inr (it.0, record { keep = tt; is_given = it.1; leaves = subst (λ (h : Held _). LeavesLedger g.S.Store (Awaits name want) change old c.requires.idle h) same leaves }),
    ))

pub returns-clause-put : goal.returns-clause-put
returns-clause-put g c =
    let old = c.args.connection.now in
    let asked = c.transfer_number.new.connection in
    let mid = state g.S.Store c.put_item.new.tx.conn.now in
    let end = c.commit.new.self.0 in
    let name = c.args.name.now in
    let want = c.args.want.now in
    let transfer = c.in-Some.transfer in
    let fits : FitsSigned w64 transfer = search rules in
    let same : end ≡ c.connection-2-1.given.0 = search rules in
    let it = c.in_ok-put_item.ensures.put in
    let begun = c.transaction-transaction.ensures.begun in
    let change = puts_it g.S.Store old asked mid name want transfer it.0 in
    let steps = prepares_put g.S.Store old asked mid name want transfer it.0 c.requires.idle c.transfer_number.ensures.queries
    (λ clean ledger holds. rw c.in-Some.is at (c.in_ok-transfer.ensures.number clean ledger holds)) it.1.0.within it.1.1
    (rw (begun, to_z-of_z w64 transfer fits) at it.2) (rw begun at c.in_ok-put_item.ensures.opened)
    (rw begun at c.put_item.ensures.kept.commit) (rw begun at c.put_item.ensures.kept.survives) in
    let writes = committed g.S.Store (Awaits name want) change old c.requires.idle end mid steps c.commit.ensures.survives (λ clean. (c.in_ok-commit.ensures.ok clean).1) (g.met.S.Store.settled end.store) in
    λ told. (it.0, record { is_given = it.1; writes = subst (λ (h : Held _). WritesLedger g.S.Store (Awaits name want) change old c.requires.idle h) same writes })
