use Rattle.std.proofs.Common.{refl}
use Rattle.bag_program.specs.Working.{Fetched, NoFolder}
use Rattle.bag_program.proofs.on_disk.fetch.fetch_from_folder.Goals as goal

pub returns-in-Ok : goal.returns-in-Ok
returns-in-Ok g c = rw c.plain.ensures (Fetched c.new-supplier.result c.fetch_to.new.supplier (rw c.new-supplier.ensures c.in-Ok.ensures.opened) (rw c.new-supplier.ensures c.in-Ok.ensures.stands.0) c.fetch_to.ensures refl)

pub returns-in-Err : goal.returns-in-Err
returns-in-Err g c =
    let stopped = c.no_result_for_folder.ensures in
    NoFolder c.in-Err.fault c.in-Err.ensures.refused refl stopped.printed stopped.why
