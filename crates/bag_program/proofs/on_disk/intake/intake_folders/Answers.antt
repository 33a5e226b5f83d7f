use Rattle.std.proofs.Common.{◌∙◌, ap₂, map, refl, string_bytes}
use Rattle.bag_program.specs.Disks.{disk_known}
use Rattle.bag_program.specs.Endings.{why_undelivered}
use Rattle.bag_program.specs.Working.{AllOpened}
use Rattle.bag_program.proofs.WorkLemmas.{none_opened, taken_from}
use Rattle.bag_program.proofs.on_disk.intake.intake_folders.Goals as goal

pub returns-in-Ok : goal.returns-in-Ok
returns-in-Ok g c =
    let opened = c.in-Ok.ensures.opened in
    let done = c.intake_to.ensures in
    AllOpened opened.0 opened.1 (done.1, done.0, taken_from _ _ _ _ _ _ _ opened.2 done.2, done.3)
    (c.why_undelivered.ensures ∙ ap₂ why_undelivered opened.3 opened.4)

pub returns-in-Err : goal.returns-in-Err
returns-in-Err g c =
    let stopped = c.no_result_for_folder.ensures in
    none_opened g.W.Write.contents (disk_known g.D.Directories.listing g.N.Names.standing c.args.system.now) _ c.args.out.now c.no_result_for_folder.new.out c.no_result_for_folder.result (map string_bytes c.args.folders.now) _ c.in-Err.fault
    c.in-Err.ensures.refused refl stopped.printed stopped.why
