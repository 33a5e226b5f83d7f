use Rattle.std.proofs.Common.{◌≡◌, List, length}
use Rattle.bag_digest.specs.declared.algorithm.AlgSet.{AlgSet}
use Rattle.bag_digest.specs.declared.streams.Stream.{Stream}
use Rattle.bag_digest.specs.Streams.{AreHashed, AreUnder, OthersStay}
use Rattle.bag_digest.proofs.streams.advance_each.Given as goal

abbrev pub invariant-loop-k : goal.invariant-loop-k
invariant-loop-k g l =
    let source = g.S.Source in
    record {
      count : length l.streams ≡ length l.fn.streams;
      advanced : (set : AlgSet) (start : List (Stream _))
          → AreHashed source.remaining source.failures source.ready source.keeps l.fn.multi set l.limit l.hashed l.first l.first l.end start l.fn.streams
          → AreUnder source.remaining source.failures source.ready source.keeps l.multi set l.limit l.hashed l.first l.first l.k start l.streams
          × AreHashed source.remaining source.failures source.ready source.keeps l.multi set l.limit l.hashed l.first l.k l.end start l.streams;
      others : OthersStay l.first l.k l.fn.streams l.streams;
    }
