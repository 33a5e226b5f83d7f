use Rattle.std.proofs.Common.{◌≡◌, ◌∷◌, ℕ, List, [], Option, arith, inl, inr}
use Rattle.bag_folder.specs.declared.fault.OpenFault.{OpenFault}
use Rattle.bag_folder.specs.declared.fault.OpenFault.TheVariants as open_fault
use Rattle.bag_commands.specs.declared.output.Output.{Output}
use Rattle.bag_commands.specs.declared.status.TheConstants.{FAILED}
use Rattle.bag_program.specs.declared.explanation.Ended.{Ended}
use Rattle.bag_program.specs.Answers.{Answered, NoMemory, PrintsCheck, Refused}
use Rattle.bag_program.specs.Disks.{disk_known}
use Rattle.bag_program.specs.Endings.{why_unopened}
use Rattle.bag_folder.specs.declared.root.Root.TheVariants.{Base}
use Rattle.bag_folder.specs.Faults.{IfUnfit}
use Rattle.bag_folder.specs.Folders.{DiskShown, IsRefused}
use Rattle.bag_program.specs.NoResults.{no_result_of_open}
use Rattle.bag_commands.specs.Outputs.{Printed}
use Rattle.bag_commands.specs.NoResultTexts.{no_result_text}
use Rattle.bag_program.proofs.on_disk.check.check_folder.Goals as goal

-- the reason why the folder wasn't opened was printed
not_opened : {W : Type 0} (contents : W → Option (List ℕ)) (known : DiskShown) (folder : List ℕ) (old new : Output W) (result : Ended) (fault : OpenFault)
    → IfUnfit fault (IsRefused known folder Base) → Printed contents old new result.status (no_result_text (no_result_of_open fault) ∷ []) FAILED
    → result.why ≡ why_unopened fault → PrintsCheck contents known folder old new result
not_opened contents known folder old new result (open_fault.Files unfit) refused printed why = Refused unfit refused printed why
not_opened contents known folder old new result open_fault.Memory refused printed why = NoMemory printed why

pub returns-in-Ok-clause-valid : goal.returns-in-Ok-clause-valid
returns-in-Ok-clause-valid g c = λ zero bag is.
    c.check_watched-end.ensures.valid zero bag (c.in-Ok.ensures.opened.is_bag bag is)

pub returns-in-Ok-clause-printed : goal.returns-in-Ok-clause-printed
returns-in-Ok-clause-printed g c =
    Answered c.in-Ok.tree c.check_watched-end.result.1 c.check_watched-end.result.0.fault
    c.in-Ok.ensures.opened c.check_watched-end.ensures.printed c.why_unchecked.ensures

pub returns-in-Err-clause-printed : goal.returns-in-Err-clause-printed
returns-in-Err-clause-printed g c =
    let stopped = c.no_result_for_folder.ensures in
    not_opened g.W.Write.contents (disk_known g.D.Directories.listing g.N.Names.standing c.args.system.now) c.args.folder.now c.args.out.now c.no_result_for_folder.new.out c.no_result_for_folder.result c.in-Err.fault
    c.in-Err.ensures.refused stopped.printed stopped.why

pub returns-in-Err-clause-valid : goal.returns-in-Err-clause-valid
returns-in-Err-clause-valid g c = λ zero bag is.
    let failed : c.no_result_for_folder.result.status ≡ FAILED =
    elim c.no_result_for_folder.ensures.printed
    [ inl failed ↦ failed.1 | inr printed ↦ printed.2 ] in
    absurd (omega arith)
