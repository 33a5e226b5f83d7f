use Rattle.std.proofs.Common.{◌≡◌, subst, MatchResult, rules}
use Rattle.bag_sqlite.proofs.Words.{Held, IsUnused, state}
use Rattle.bag_sqlite.proofs.CommitLemmas.{LeavesLedger, WritesLedger, committed, failed}
use Rattle.bag_sqlite.proofs.OpeningLemmas.{opens_it, prepares}
use Rattle.bag_sqlite.proofs.SqlLemmas.{by_result}
use Rattle.bag_sqlite.proofs.beginning.begin_transfer.Goals as goal

pub returns-clause-begun : goal.returns-clause-begun
returns-clause-begun g c =
    let old = c.args.connection.now in
    let mid = state g.S.Store c.write_transfer.new.tx.conn.now in
    let end = c.commit.new.self.0 in
    let name = c.args.name.now in
    let tags = c.args.tags.now in
    let same : end ≡ c.connection-2-1.given.0 = search rules in
    let such = IsUnused name in
    let change = opens_it g.S.Store old mid name tags in
    let begun = c.transaction-transaction.ensures.begun in
    let steps = prepares g.S.Store old mid name tags c.utf8.name c.files.ensures.tags c.requires.opens
    (rw (begun, c.files.ensures.files) at c.in_ok-write_transfer.ensures.written) (rw begun at c.in_ok-write_transfer.ensures.opened)
    (rw begun at c.write_transfer.ensures.kept.commit) (rw begun at c.write_transfer.ensures.kept.survives) in
    subst (λ (h : Held _). MatchResult c.commit.result (λ _. WritesLedger g.S.Store such change old c.requires.idle h) (λ _. LeavesLedger g.S.Store such change old c.requires.idle h)) same
    (by_result c.commit.result c.commit.ensures.ok c.commit.ensures.err
    (λ ok. committed g.S.Store such change old c.requires.idle end mid steps c.commit.ensures.survives (λ clean. (ok clean).1) (g.met.S.Store.settled end.store))
    (λ e err. failed g.S.Store such change old c.requires.idle end mid steps c.commit.ensures.survives e err))
