use Rattle.std.proofs.Common.{◌-◌, ◌≤◌}
use Rattle.bag_sqlite.proofs.Words.{Database, HasCleanDisk, IsHeld, OnlyReads, Stands, state}
use Rattle.bag_sqlite.proofs.PiecesRead.{HasTaken}
use Rattle.bag_sqlite.proofs.verifying.content_in_pieces.Given as goal

abbrev pub invariant-loop-taken : goal.invariant-loop-taken
invariant-loop-taken g l =
    let old = state g.S.Store l.fn.connection in
    let now = state g.S.Store l.connection in
    record {
      reads : OnlyReads g.S.Store l.fn.connection l.connection;
      within : l.taken ≤ l.size;
      few : l.n ≤ l.taken;
      held : IsHeld l.content l.size l.taken;
      pieces : HasCleanDisk now → (db : Database) → Stands old db → HasTaken g.S.Store db l.item l.fn.set l.content l.size l.taken l.n;
    }

abbrev pub decreases-loop-taken : goal.decreases-loop-taken
decreases-loop-taken g l = l.size - l.taken
