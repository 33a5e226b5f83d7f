use Rattle.std.proofs.Common.{◌≡◌, ◌≤◌, ◌+◌, ◌-◌, length}
use Rattle.bag_rules.specs.declared.limits.TheConstants.{LARGEST_FILE}
use Rattle.bag_digest.specs.declared.buffers.TheConstants.{FRONT}
use Rattle.bag_writer.specs.Copying.{AreFresh, AreFull, AreUnder, KeepPlaces, OthersStay, Work, sides}
use Rattle.bag_writer.proofs.CopyLemmas.{IsTold}
use Rattle.bag_writer.proofs.copying.copy_beside.Given as goal

abbrev pub invariant-pieces : goal.invariant-pieces
invariant-pieces g l =
    let s = sides g.F.OpenFile.place g.F.Source g.G.SinkFile in
    record {
      low : l.fn.first ≤ l.end;
      high : l.end ≤ l.fn.end;
      count : length l.copies ≡ length l.fn.copies;
      under : (work : Work) → AreFresh s work l.fn.set l.fn.first l.fn.end l.fn.copies → AreUnder s work l.multi l.fn.set l.hashed l.fn.first l.fn.first l.end l.copies × IsTold s work l.end l.fn.end l.copies l.told;
      full : AreFull l.fn.first l.end l.copies;
      others : OthersStay l.fn.first l.fn.end l.fn.copies l.copies;
      places : KeepPlaces g.F.OpenFile.place g.G.SinkFile.place l.fn.copies l.copies;
    }

abbrev pub decreases-pieces : goal.decreases-pieces
decreases-pieces g l = LARGEST_FILE + FRONT - l.hashed
