use Rattle.std.proofs.Common.{IsTrue}
use Rattle.bag_sqlite.proofs.Words.{CommitsNothingWithin, HasCleanDisk, IsToMove, Ledger, state}
use Rattle.bag_sqlite.proofs.MigratingLemmas.{AreMovedTo}
use Rattle.bag_sqlite.proofs.migrating.move_items.Given as goal

-- the payload files in the rows so far are moved
abbrev pub invariant-loop-row : goal.invariant-loop-row
invariant-loop-row g l =
    let old = state g.S.Store l.fn.tx.conn.now in
    let now = state g.S.Store l.tx.conn.now in
    record {
      kept : CommitsNothingWithin g.S.Store l.fn.tx.conn l.tx.conn;
      inside : HasCleanDisk now → IsTrue old.in_transaction → IsTrue now.in_transaction;
      moving : HasCleanDisk now → (ledger : Ledger) (to : IsToMove ledger old) → AreMovedTo old now l.row-items l.row-index ledger to;
    }
