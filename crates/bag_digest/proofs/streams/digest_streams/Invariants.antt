use Rattle.std.proofs.Common.{◌≡◌, ◌≤◌, ◌-◌, ℕ, length, slice_get}
use Rattle.bag_digest.specs.Streams.{HaveEndedIn}
use Rattle.bag_digest.proofs.streams.digest_streams.Given as goal

abbrev pub invariant-fours : goal.invariant-fours
invariant-fours g l = record {
  inside : l.first ≤ length l.streams;
  count : length l.streams ≡ length l.fn.streams;
  ended : HaveEndedIn g.S.Source.remaining g.S.Source.failures g.S.Source.ready g.S.Source.keeps l.fn.set l.fn.limit 0 l.first l.fn.streams l.streams;
  later : (k : ℕ) → l.first ≤ k → slice_get l.streams k ≡ slice_get l.fn.streams k;
}

abbrev pub decreases-fours : goal.decreases-fours
decreases-fours g l = length l.streams - l.first
