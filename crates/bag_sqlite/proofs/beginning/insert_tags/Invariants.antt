use Rattle.std.proofs.Common.{take}
use Rattle.bag_sqlite.proofs.Words.{AddsTags, CommitsNothing, files_of, HasCleanDisk, IsUnderWay, Origin, state}
use Rattle.bag_sqlite.proofs.beginning.insert_tags.Given as goal

-- the rows of the files so far are written
abbrev pub invariant-loop-file : goal.invariant-loop-file
invariant-loop-file g l =
    let old = state g.S.Store l.fn.tx.conn.now in
    let now = state g.S.Store l.tx.conn.now in
    record {
      kept : CommitsNothing g.S.Store l.fn.tx.conn l.tx.conn;
      rows : HasCleanDisk now → (o : Origin) → IsUnderWay o old → IsUnderWay o now × AddsTags o old.now.trees now.now.trees l.transfer (files_of (take l.file-index l.files));
    }
