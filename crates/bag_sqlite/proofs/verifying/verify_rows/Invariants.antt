use Rattle.std.proofs.Common.{take}
use Rattle.bag_sqlite.proofs.Words.{AllByRecursion, Database, HasCleanDisk, OnlyReads, Stands, state}
use Rattle.bag_sqlite.proofs.AdoptingLemmas.{Verifies}
use Rattle.bag_sqlite.proofs.verifying.verify_rows.Given as goal

abbrev pub invariant-loop-row : goal.invariant-loop-row
invariant-loop-row g l =
    let old = state g.S.Store l.fn.connection in
    let now = state g.S.Store l.connection in
    record {
      reads : OnlyReads g.S.Store l.fn.connection l.connection;
      verified : HasCleanDisk now → (db : Database) → Stands old db → AllByRecursion (Verifies g.S.Store db l.fn.format) (take l.row-index l.rows);
    }
