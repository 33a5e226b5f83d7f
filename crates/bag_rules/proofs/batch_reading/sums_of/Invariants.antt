use Rattle.std.proofs.Common.{◌≡◌, ◌<◌, ℕ, Some, length, slice_get}
use Rattle.bag_digest.specs.declared.sums.Sums.{Sums}
use Rattle.bag_digest.specs.declared.streams.Stream.{Stream}
use Rattle.bag_rules.specs.BatchReading.{HaveSums}
use Rattle.bag_rules.proofs.batch_reading.sums_of.Given as goal

abbrev pub invariant-loop-stream : goal.invariant-loop-stream
invariant-loop-stream g l = HaveSums l.streams → (length l.sums.items ≡ l.stream-index)
    × ((k : ℕ) (stream : Stream _) (found : Sums) → k < l.stream-index → slice_get l.streams k ≡ Some stream → stream.sums ≡ Some found → slice_get l.sums.items k ≡ Some found)
