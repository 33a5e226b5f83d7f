use Rattle.std.proofs.Common.{◌≡◌, ◌≤◌, ◌-◌, ℕ, List, None, length}
use Rattle.bag_digest.specs.Hash.{Holds}
use Rattle.bag_digest.specs.declared.buffers.TheConstants.{FRONT}
use Rattle.bag_rules.specs.declared.limits.TheConstants.{LARGEST_FILE}
use Rattle.bag_writer.specs.Copying.{IsCopiedTo, Work, sides}
use Rattle.bag_writer.proofs.copying.copy_alone.Given as goal

abbrev pub invariant-pieces : goal.invariant-pieces
invariant-pieces g l =
    let s = sides g.F.OpenFile.place g.F.Source g.G.SinkFile in
    record {
      room : length l.copy.piece.items ≡ FRONT;
      goes_on : l.copy.found ≡ None;
      within : l.total ≤ LARGEST_FILE;
      copied : (work : Work) → IsCopiedTo s work l.fn.copy.piece.items l.fn.copy.source l.fn.copy.target
          → (octets : List ℕ) × IsCopiedTo s work octets l.copy.source l.copy.target × (l.total ≡ length octets) × Holds l.multi l.fn.set octets;
      same : g.F.OpenFile.place l.copy.source ≡ g.F.OpenFile.place l.fn.copy.source;
      beside : g.G.SinkFile.place l.copy.target ≡ g.G.SinkFile.place l.fn.copy.target;
    }

abbrev pub decreases-pieces : goal.decreases-pieces
decreases-pieces g l = LARGEST_FILE - l.total
