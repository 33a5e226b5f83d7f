use Rattle.std.proofs.Common.{◌≡◌, ◌+◌, ◌-◌, ℕ, List, [], length}
use Rattle.bag_sqlite.proofs.Words.{AddsPieces, CommitsNothing, HasCleanDisk, in_pieces, IsUnderWay, LARGEST_ITEM, Origin, PIECE, state, UsesSource}
use Rattle.bag_sqlite.proofs.PuttingLemmas.{HasReadOn}
use Rattle.bag_sqlite.proofs.putting.put_pieces.Given as goal

-- the pieces so far are written
abbrev pub invariant-pieces : goal.invariant-pieces
invariant-pieces g l =
    let source = g.R.Source in
    let old = state g.S.Store l.fn.tx.conn.now in
    let now = state g.S.Store l.tx.conn.now in
    record {
      kept : CommitsNothing g.S.Store l.fn.tx.conn l.tx.conn;
      used : UsesSource source.failures source.ready source.keeps l.fn.reader l.reader ⊥;
      room : length l.buffer ≡ PIECE;
      read : (pieces : List (List ℕ)) × HasReadOn (source.remaining l.fn.reader) (source.remaining l.reader) l.want l.multi l.total pieces
          × (HasCleanDisk now → (o : Origin) → IsUnderWay o old → IsUnderWay o now × AddsPieces o old.now.trees now.now.trees (in_pieces l.item [] pieces));
    }

abbrev pub decreases-pieces : goal.decreases-pieces
decreases-pieces g l = LARGEST_ITEM + 1 - l.total
