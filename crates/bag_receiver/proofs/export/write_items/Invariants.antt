use Rattle.std.proofs.Common.{◌≡◌, false, take}
use Rattle.bag_rules.specs.Plans.{sizes_of}
use Rattle.bag_writer.specs.Sinks.{UsesSink}
use Rattle.bag_writer.specs.Steps.{AreWhole}
use Rattle.bag_receiver.specs.ExportsInside.{HasItems}
use Rattle.bag_receiver.proofs.Words.{Files, Reads}
use Rattle.bag_receiver.proofs.export.write_items.Given as goal

abbrev pub invariant-loop-item : goal.invariant-loop-item
invariant-loop-item g l =
    let keeper = g.K.Keeper in
    let sink = g.S.Sink in
    record {
      reads : Reads keeper.holds keeper.may_leave keeper.clean l.fn.keeper l.keeper;
      stays : keeper.failures l.keeper ≡ keeper.failures l.fn.keeper;
      written : keeper.clean l.keeper → (files : Files) → HasItems keeper.holds l.fn.keeper l.name files → l.items ≡ sizes_of files → AreWhole (take l.item-index files) (sink.stored l.fn.sink) (sink.stored l.sink);
      closed : sink.is_open l.fn.sink ≡ false → sink.is_open l.sink ≡ false;
      used : UsesSink sink.failures sink.sure l.fn.sink l.sink (Unit {0}) ⊥;
    }
