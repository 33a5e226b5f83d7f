use Rattle.std.proofs.Common.{◌≡◌, length}
use Rattle.bag_digest.specs.declared.algorithm.AlgSet.{AlgSet}
use Rattle.bag_writer.specs.Copying.{AreFull, AreHashed, AreUnder, KeepPlaces, OthersStay, Work, sides}
use Rattle.bag_writer.proofs.copying.advance_each.Given as goal

abbrev pub invariant-loop-k : goal.invariant-loop-k
invariant-loop-k g l =
    let s = sides g.F.OpenFile.place g.F.Source g.G.SinkFile in
    record {
      count : length l.copies ≡ length l.fn.copies;
      advanced : (work : Work) (set : AlgSet) → AreHashed s work l.fn.multi set l.hashed l.first l.first l.end l.fn.copies
          → AreUnder s work l.multi set l.hashed l.first l.first l.k l.copies × AreHashed s work l.multi set l.hashed l.first l.k l.end l.copies;
      full : AreFull l.first l.end l.copies;
      others : OthersStay l.first l.k l.fn.copies l.copies;
      places : KeepPlaces g.F.OpenFile.place g.G.SinkFile.place l.fn.copies l.copies;
    }
