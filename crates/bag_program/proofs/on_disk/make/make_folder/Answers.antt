use Rattle.std.proofs.Common.{◌≡◌, ◌∙◌, ◌∷◌, ℕ, List, [], Option, ap, refl}
use Rattle.bag_folder.specs.declared.fault.OpenFault.{OpenFault}
use Rattle.bag_folder.specs.declared.fault.OpenFault.TheVariants as open_fault
use Rattle.bag_commands.specs.declared.output.Output.{Output}
use Rattle.bag_commands.specs.declared.status.TheConstants.{FAILED}
use Rattle.bag_folder.specs.declared.root.Root.TheVariants.{Payload}
use Rattle.bag_folder.specs.declared.new_folders.NewFolders.{Ghosts as NewFolders}
use Rattle.bag_writer.specs.declared.sink.Sink.{Ghosts as SinkOf}
use Rattle.bag_folder.specs.Faults.{IfUnfit}
use Rattle.bag_folder.specs.Folders.{DiskShown, IsRefused, disk_in_payload}
use Rattle.bag_program.specs.Disks.{disk_known}
use Rattle.bag_program.specs.declared.explanation.Ended.{Ended}
use Rattle.bag_program.specs.Endings.{or_why, why_unopened}
use Rattle.bag_program.specs.NoResults.{no_result_of_open}
use Rattle.bag_program.specs.Making.{MakingShown, NoMemory, Opened, PrintsMake, Refused, words_given}
use Rattle.bag_commands.specs.Outputs.{Printed}
use Rattle.bag_commands.specs.NoResultTexts.{no_result_text}
use Rattle.bag_program.proofs.on_disk.make.make_folder.Goals as goal

-- the reason why the payload wasn't opened was printed, and no folder was made
not_opened : {W F S B : Type 0} (contents : W → Option (List ℕ)) (s : SinkOf S) (f : NewFolders F S B) (known : DiskShown) (words : MakingShown) (made : F) (old new : Output W) (result : Ended) (fault : OpenFault)
    → IfUnfit fault (IsRefused (disk_in_payload known words.source) words.source Payload) → Printed contents old new result.status (no_result_text (no_result_of_open fault) ∷ []) FAILED
    → result.why ≡ why_unopened fault → PrintsMake contents s f known words made made old new result
not_opened contents s f known words made old new result (open_fault.Files unfit) refused printed why = Refused unfit refused refl printed why
not_opened contents s f known words made old new result open_fault.Memory refused printed why = NoMemory refl printed why

pub returns-in-Ok : goal.returns-in-Ok
returns-in-Ok g c =
    Opened c.in-Ok.tree c.make_watched-answer.result.1 c.make_watched-answer.result.0 c.in-Ok.ensures.opened c.make_watched-answer.ensures
    (c.or.ensures ∙ ap (or_why c.make_watched-answer.result.0.ended) c.why_unmade-why.ensures)

pub returns-in-Err : goal.returns-in-Err
returns-in-Err g c =
    let stopped = c.no_result_for_folder.ensures in
    not_opened g.W.Write.contents _ _ (disk_known g.D.Directories.listing g.N.Names.standing c.args.system.now) (words_given c.args.making.now) c.args.folders.now c.args.out.now c.no_result_for_folder.new.out c.no_result_for_folder.result c.in-Err.fault
    c.in-Err.ensures.refused stopped.printed stopped.why
