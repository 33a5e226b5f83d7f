use Rattle.std.proofs.Common.{◌≡◌, false, take}
use Rattle.bag_writer.specs.Sinks.{UsesSink}
use Rattle.bag_writer.specs.Steps.{AreWhole}
use Rattle.bag_receiver.proofs.export.write_tags.Given as goal

abbrev pub invariant-loop-file : goal.invariant-loop-file
invariant-loop-file g l =
    let sink = g.S.Sink in
    record {
      written : AreWhole (take l.file-index l.tags) (sink.stored l.fn.sink) (sink.stored l.sink);
      closed : sink.is_open l.fn.sink ≡ false → sink.is_open l.sink ≡ false;
      used : UsesSink sink.failures sink.sure l.fn.sink l.sink (Unit {0}) ⊥;
    }
