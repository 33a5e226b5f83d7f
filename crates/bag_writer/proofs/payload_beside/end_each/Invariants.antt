use Rattle.std.proofs.Common.{◌≡◌, ◌≤◌, ℕ, Some, drop, length, slice_get, take}
use Rattle.bag_rules.specs.Files.{Files}
use Rattle.bag_writer.specs.Finishing.{CanEndEach}
use Rattle.bag_writer.specs.Pending.{AreUnfailedTo, HoldEach}
use Rattle.bag_writer.specs.Steps.{AreWhole}
use Rattle.bag_writer.specs.TagWriting.{AreFree}
use Rattle.bag_writer.specs.declared.copying.Copying.{Copying}
use Rattle.bag_writer.proofs.payload_beside.end_each.Given as goal

abbrev pub invariant-loop-k : goal.invariant-loop-k
invariant-loop-k g l =
    let file = g.S.File.SinkFile in
    let sink = g.S.Sink in
    record {
      count : length l.copies ≡ length l.fn.copies;
      later : (j : ℕ) → l.k ≤ j → slice_get l.copies j ≡ slice_get l.fn.copies j;
      read : (j : ℕ) (a b : Copying _ _) → slice_get l.fn.copies j ≡ Some a → slice_get l.copies j ≡ Some b
          → (b.source ≡ a.source) × (b.piece ≡ a.piece) × (b.found ≡ a.found) × (file.place b.target ≡ file.place a.target);
      unfailed : AreUnfailedTo file.failures l.k l.copies;
      ended : (files : Files) → HoldEach file.holds l.end l.fn.copies files → AreWhole (take l.k files) (sink.stored l.fn.sink) (sink.stored l.sink);
      calm : (files : Files) → HoldEach file.holds l.end l.fn.copies files → CanEndEach file.sure l.end l.fn.copies files (sink.sure l.fn.sink) (sink.is_open l.fn.sink) (sink.stored l.fn.sink)
          → AreFree (sink.stored l.sink) (drop l.k files);
      counted : sink.failures l.sink ≡ sink.failures l.fn.sink;
      as_open : sink.is_open l.sink ≡ sink.is_open l.fn.sink;
      stays_sure : sink.sure l.fn.sink → sink.sure l.sink;
    }
