use Rattle.std.proofs.Common.{◌∙◌, ◌≡◌, ap, ap₂, refl}
use Rattle.bag_program.specs.Making.{NotMade, Written, kept_folder}
use Rattle.bag_program.specs.Endings.{why_failed}
use Rattle.bag_program.proofs.WorkLemmas.{given_up, kept}
use Rattle.bag_program.proofs.on_disk.export.export_into_folder.Goals.{then-status-ne-DONE, else-status-ne-DONE}
use Rattle.bag_program.proofs.on_disk.export.export_into_folder.Goals as goal

pub returns-after-status-ne-DONE : goal.returns-after-status-ne-DONE
returns-after-status-ne-DONE g c =
    let status = c.export_to-status.result in
    let folder = c.args.folder.now in
    let made = g.F.NewFolders.made in
    let after : made c.if-status-ne-DONE.folders ≡ kept_folder folder status = elim c.if-status-ne-DONE.branch [
      | then-status-ne-DONE w ↦ given_up folder status (made c.if-status-ne-DONE.folders) (made w.give_up.new.self) (ap made w.folders-is) w.give_up.ensures w.if-status-ne-DONE.true
      | else-status-ne-DONE w ↦ kept folder status (made c.if-status-ne-DONE.folders) (made c.create.new.self) (ap made w.folders-is) c.in-Ok.ensures.made w.if-status-ne-DONE.false
    ] in
    let failures = c.failures.ensures ∙ ap g.F.Folder.Sink.failures c.into_inside-sink.ensures in
    let trouble = c.into_trouble.ensures ∙ ap g.F.NewFolders.trouble c.into_inside-sink.ensures in
    Written c.new-sink.result c.export_to-status.new.sink (rw c.new-sink.ensures c.in-Ok.ensures.created) c.export_to-status.ensures after (c.of_failures.ensures ∙ ap₂ why_failed failures trouble)

pub returns-in-Err : goal.returns-in-Err
returns-in-Err g c =
    let stopped = c.no_result_for_folder.ensures in
    NotMade c.in-Err.fault c.in-Err.ensures.refused c.in-Err.ensures.made refl stopped.printed stopped.why
