use Rattle.bag_sqlite.proofs.Words.{Database, Files, HasCleanDisk, IsPlanOf, OnlyReads, Stands, state}
use Rattle.bag_sqlite.proofs.BatchLemmas.{SoFar}
use Rattle.bag_sqlite.proofs.verifying.damaged_in.Given as goal

abbrev pub invariant-loop-row : goal.invariant-loop-row
invariant-loop-row g l =
    let old = state g.S.Store l.fn.connection in
    let now = state g.S.Store l.connection in
    record {
      reads : OnlyReads g.S.Store l.fn.connection l.connection;
      so_far : HasCleanDisk now → (db : Database) → Stands old db → (tags : Files) → IsPlanOf tags l.plan → SoFar g.S.Store db l.fn.format tags l.rows l.batch l.row-index;
    }
