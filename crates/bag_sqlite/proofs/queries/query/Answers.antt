use Rattle.std.proofs.Common.{◌≡◌, subst, rules, arith, true}
use Rattle.bag_sqlite.proofs.Words.{bound, err_from_is_err_and, HasCleanDisk, OnlyQueries, state}
use Rattle.bag_sqlite.proofs.ReadingLemmas.{kept_query, kept_refusal, queries_undone}
use Rattle.bag_sqlite.proofs.RefusingLemmas.{query_error}
use Rattle.bag_sqlite.proofs.queries.query.Goals as goal

pub returns-in_err-rows-clause-queries : goal.returns-in_err-rows-clause-queries
returns-in_err-rows-clause-queries g c =
    let old = c.args.connection.now in
    let mid = state g.S.Store c.query_all.new.self.conn.now in
    let end = c.drop-transaction.new.self.0 in
    let same : end ≡ c.connection-1.given.0 = search rules in
    let begun = c.transaction-transaction.ensures.begun in
    let kept = λ (early : HasCleanDisk mid). kept_refusal g.S.Store old c.transaction-transaction.result.conn.now mid c.args.sql.now (bound c.args.params.now) begun _ (c.in_err-rows.ensures.err early) in
    subst (OnlyQueries g.S.Store old) same (queries_undone g.S.Store old end mid c.requires c.drop-transaction.ensures.ended kept (rw begun at c.query_all.ensures.survives) c.drop-transaction.ensures.undone c.drop-transaction.ensures.survives)

pub returns-in_err-rows-clause-refused : goal.returns-in_err-rows-clause-refused
returns-in_err-rows-clause-refused g c clean =
    let old = c.args.connection.now in
    let begun = state g.S.Store (record old { in_transaction = true }) in
    let mid = state g.S.Store c.query_all.new.self.conn.now in
    let end = c.drop-transaction.new.self.0 in
    let late : HasCleanDisk (state g.S.Store end) = search rules in
    let early : HasCleanDisk mid = omega (arith, late, c.drop-transaction.ensures.survives.clean) in
    let p = err_from_is_err_and c.from_residual.result c.from_residual.ensures.1 in
    rw (p.1, p.2) (query_error c.args.sql.now (bound c.args.params.now) begun mid _ (rw c.transaction-transaction.ensures.begun at (c.in_err-rows.ensures.err early)))

pub returns-clause-shown : goal.returns-clause-shown
returns-clause-shown g c clean =
    let mid = c.query_all.new.self.conn.now in
    let end = c.rollback.new.self.0 in
    let late : HasCleanDisk (state g.S.Store end) = search rules in
    let early : HasCleanDisk (state g.S.Store mid) = omega (arith, late, c.rollback.ensures.survives.clean) in
    record { then = mid; shown = rw c.transaction-transaction.ensures.begun at (c.in_ok-rows.ensures.ok early) }

pub returns-clause-queries : goal.returns-clause-queries
returns-clause-queries g c =
    let old = c.args.connection.now in
    let mid = state g.S.Store c.query_all.new.self.conn.now in
    let end = c.rollback.new.self.0 in
    let same : end ≡ c.connection-2-1.given.0 = search rules in
    let begun = c.transaction-transaction.ensures.begun in
    let kept = λ (early : HasCleanDisk mid). kept_query g.S.Store old c.transaction-transaction.result.conn.now mid c.args.sql.now (bound c.args.params.now) begun _ (c.in_ok-rows.ensures.ok early) in
    subst (OnlyQueries g.S.Store old) same (queries_undone g.S.Store old end mid c.requires c.rollback.ensures.ended kept (rw begun at c.query_all.ensures.survives) c.rollback.ensures.undone c.rollback.ensures.survives)
