use Rattle.std.proofs.Common.{◌∙◌, ◌≡◌, ap, ap₂, refl}
use Rattle.bag_program.specs.Making.{NotMade, Written, kept_folder}
use Rattle.bag_program.proofs.on_disk.make.make_into.Goals.{then-status-ne-DONE, else-status-ne-DONE}
use Rattle.bag_program.specs.Endings.{why_failed}
use Rattle.bag_program.proofs.WorkLemmas.{given_up, kept}
use Rattle.bag_program.proofs.on_disk.make.make_into.Goals as goal

pub returns-after-status-ne-DONE : goal.returns-after-status-ne-DONE
returns-after-status-ne-DONE g c =
    let status = c.make_to-status.result.status in
    let folder = c.args.making.now.destination.now in
    let made = g.F.NewFolders.made in
    let after : made c.if-status-ne-DONE.folders ≡ kept_folder folder status = elim c.if-status-ne-DONE.branch [
      | then-status-ne-DONE w ↦ given_up folder status (made c.if-status-ne-DONE.folders) (made w.give_up.new.self) (ap made w.folders-is) w.give_up.ensures w.if-status-ne-DONE.true
      | else-status-ne-DONE w ↦ kept folder status (made c.if-status-ne-DONE.folders) (made c.create.new.self) (ap made w.folders-is) c.in-Ok.ensures.made w.if-status-ne-DONE.false
    ] in
    Written c.in-Ok.sink c.make_to-status.new.sink c.in-Ok.ensures.created c.make_to-status.ensures after (c.of_failures-why.ensures ∙ ap₂ why_failed c.failures.ensures c.into_trouble.ensures)

pub returns-in-Err : goal.returns-in-Err
returns-in-Err g c =
    let stopped = c.no_result_for_folder.ensures in
    NotMade c.in-Err.fault c.in-Err.ensures.refused c.in-Err.ensures.made (refl, refl) stopped.printed stopped.why
