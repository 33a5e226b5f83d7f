use Rattle.std.proofs.Common.{◌-◌, ℕ, IsTrue, List, [], length}
use Rattle.bag_sqlite.proofs.Words.{AddsPieces, CommitsNothing, HasCleanDisk, in_pieces, IsUnderWay, Origin, state}
use Rattle.bag_sqlite.proofs.PuttingLemmas.{IsCutTo}
use Rattle.bag_sqlite.proofs.migrating.insert_pieces.Given as goal

-- the pieces so far are written
abbrev pub invariant-loop-offset : goal.invariant-loop-offset
invariant-loop-offset g l =
    let old = state g.S.Store l.fn.tx.conn.now in
    let now = state g.S.Store l.tx.conn.now in
    record {
      kept : CommitsNothing g.S.Store l.fn.tx.conn l.tx.conn;
      inside : HasCleanDisk now → IsTrue old.in_transaction → IsTrue now.in_transaction;
      stored : (pieces : List (List ℕ)) × IsCutTo l.content l.offset pieces × (HasCleanDisk now → (o : Origin) → IsUnderWay o old → IsUnderWay o now × AddsPieces o old.now.trees now.now.trees (in_pieces l.item [] pieces));
    }

abbrev pub decreases-loop-offset : goal.decreases-loop-offset
decreases-loop-offset g l = length l.content - l.offset
