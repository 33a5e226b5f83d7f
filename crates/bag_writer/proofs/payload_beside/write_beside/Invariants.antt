use Rattle.std.proofs.Common.{◌≡◌, length}
use Rattle.bag_writer.specs.Copying.{sides}
use Rattle.bag_writer.specs.SideBySide.{devices}
use Rattle.bag_writer.proofs.Underway.{IsAt}
use Rattle.bag_writer.proofs.payload_beside.write_beside.Given as goal

abbrev pub invariant-loop-i : goal.invariant-loop-i
invariant-loop-i g l =
    let d = devices g.T.Paths.shown g.T.Source.failures g.T.Tree.sure g.S.Sink (sides g.T.File.OpenFile.place g.T.File.Source g.S.File.SinkFile) in
    record { room : length l.buffer ≡ length l.fn.buffer; at : IsAt d l.fn.spec l.fn.tree l.tree l.fn.sink l.sink l.i l.items l.copies.items }
