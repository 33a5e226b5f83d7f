use Rattle.std.proofs.Common.{◌≡◌, ◌≤◌, ◌-◌, length}
use Rattle.bag_digest.specs.Streams.{AreUnder, HaveKeptIn, OthersStay}
use Rattle.bag_digest.proofs.StreamLemmas.{IsTold}
use Rattle.bag_digest.proofs.streams.digest_beside.Given as goal

abbrev pub invariant-pieces : goal.invariant-pieces
invariant-pieces g l =
    let source = g.S.Source in
    record {
      low : l.fn.first ≤ l.end;
      high : l.end ≤ l.fn.end;
      count : length l.streams ≡ length l.fn.streams;
      under : AreUnder source.remaining source.failures source.ready source.keeps l.multi l.fn.set l.fn.limit l.hashed l.fn.first l.fn.first l.end l.fn.streams l.streams;
      told : IsTold source.remaining source.failures source.ready source.keeps l.fn.limit l.end l.fn.end l.fn.streams l.streams l.told;
      given_up : HaveKeptIn source.keeps l.end l.fn.end l.fn.streams l.streams;
      others : OthersStay l.fn.first l.fn.end l.fn.streams l.streams;
    }

abbrev pub decreases-pieces : goal.decreases-pieces
decreases-pieces g l = l.fn.limit - l.hashed
