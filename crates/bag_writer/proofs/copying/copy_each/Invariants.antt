use Rattle.std.proofs.Common.{◌≡◌, ◌≤◌, ◌-◌, length}
use Rattle.bag_writer.specs.Copying.{AreEnded, AreFresh, AreFull, KeepPlaces, Work, sides}
use Rattle.bag_writer.proofs.copying.copy_each.Given as goal

abbrev pub invariant-fours : goal.invariant-fours
invariant-fours g l =
    let s = sides g.F.OpenFile.place g.F.Source g.G.SinkFile in
    record {
      inside : l.first ≤ length l.copies;
      count : length l.copies ≡ length l.fn.copies;
      full : AreFull l.first (length l.copies) l.copies;
      copied : (work : Work) → AreFresh s work l.fn.set 0 (length l.fn.copies) l.fn.copies → AreEnded s work l.fn.set 0 l.first l.copies × AreFresh s work l.fn.set l.first (length l.copies) l.copies;
      places : KeepPlaces g.F.OpenFile.place g.G.SinkFile.place l.fn.copies l.copies;
    }

abbrev pub decreases-fours : goal.decreases-fours
decreases-fours g l = length l.copies - l.first
