use Rattle.std.proofs.Common.{inl}
use Rattle.sqlite_wal.specs.Files.{image_at}
use Rattle.bag_receiver.proofs.ReceivingLemmas.{stop_settles}
use Rattle.bag_program.proofs.FileLemmas.{left_by_stop}
use Rattle.bag_program.proofs.laws.a_ledger_goes_on_after_a_stop.Goals as goal

pub returns : goal.returns
returns g c now is stop adopted clean =
    let it = left_by_stop c.args.stopped.now.connection now (image_at g.T.Start) (record { held = is.held; left = is.left }) stop in
    let kept = (adopted.adopts clean).keeps it.0 it.2 in
    (it.0, it.1, record { held = kept.holds; left = λ crashed may. inl (kept.alone crashed may) }, λ name tags events happened. stop_settles now name tags events it.0 happened it.1)
