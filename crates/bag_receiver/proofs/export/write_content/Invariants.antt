use Rattle.std.proofs.Common.{◌≡◌, ◌-◌, ◌≤◌}
use Rattle.bag_writer.specs.Sinks.{UsesSink}
use Rattle.bag_receiver.specs.ExportsInside.{WritesAsMany}
use Rattle.bag_receiver.proofs.ExportLemmas.{HasWritten}
use Rattle.bag_receiver.proofs.Words.{Reads}
use Rattle.bag_receiver.proofs.export.write_content.Given as goal

abbrev pub invariant-loop-read : goal.invariant-loop-read
invariant-loop-read g l =
    let keeper = g.K.Keeper in
    let sink = g.S.Sink in
    record {
      within : l.read ≤ l.item.octets;
      reads : Reads keeper.holds keeper.may_leave keeper.clean l.fn.keeper l.keeper;
      stays : keeper.failures l.keeper ≡ keeper.failures l.fn.keeper;
      written : HasWritten keeper.holds keeper.clean l.fn.keeper l.keeper l.name l.item.path l.item.octets l.read (sink.stored l.fn.sink) (sink.stored l.sink);
      opened : sink.is_open l.sink ≡ sink.is_open l.fn.sink;
      used : UsesSink sink.failures sink.sure l.fn.sink l.sink (Unit {0}) ⊥;
      some : WritesAsMany l.read (sink.stored l.fn.sink) (sink.stored l.sink);
    }

abbrev pub decreases-loop-read : goal.decreases-loop-read
decreases-loop-read g l = l.item.octets - l.read
