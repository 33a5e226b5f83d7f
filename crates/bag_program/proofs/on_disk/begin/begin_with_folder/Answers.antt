use Rattle.std.proofs.Common.{refl}
use Rattle.bag_program.specs.Disks.{disk_known}
use Rattle.bag_program.specs.Working.{Opened}
use Rattle.bag_program.proofs.WorkLemmas.{not_opened}
use Rattle.bag_program.proofs.on_disk.begin.begin_with_folder.Goals as goal

pub returns-in-Ok : goal.returns-in-Ok
returns-in-Ok g c = Opened c.in-Ok.tree c.begin_to-status.new.tree c.in-Ok.ensures.opened (c.begin_to-status.result.fault, c.begin_to-status.ensures, c.why_unbegun.ensures)

pub returns-in-Err : goal.returns-in-Err
returns-in-Err g c =
    let stopped = c.no_result_for_folder.ensures in
    not_opened g.W.Write.contents (disk_known g.D.Directories.listing g.N.Names.standing c.args.system.now) _ c.args.out.now c.no_result_for_folder.new.out c.no_result_for_folder.result c.args.folder.now _ c.in-Err.fault
    c.in-Err.ensures.refused refl stopped.printed stopped.why
