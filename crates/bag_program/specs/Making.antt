-- What `make` does with folders: the payload that it opens, and the folder that it makes for the bag.
use Rattle.std.specs.Prelude.{◌≡◌, ◌∷◌, ℕ, List, [], None, Option, Some, false, if◌then◌else◌, map, nat_eq, string_bytes}
use Rattle.bag_rules.specs.Trees.{Shown}
use Rattle.bag_commands.specs.declared.make.MakeEnd.{MakeEnd}
use Rattle.bag_commands.specs.declared.output.Output.{Output}
use Rattle.bag_commands.specs.declared.status.TheConstants.{DONE, FAILED}
use Rattle.bag_commands.specs.declared.no_result.NoResult.TheVariants as no_result
use Rattle.bag_commands.specs.Making.{IsWriting, MakesOf}
use Rattle.bag_commands.specs.Outputs.{Printed}
use Rattle.bag_commands.specs.NoResultTexts.{no_result_text}
use Rattle.bag_program.specs.declared.on_disk.make.Made.{Made}
use Rattle.bag_program.specs.declared.on_disk.make.Making.{Making}
use Rattle.bag_program.specs.declared.explanation.Ended.{Ended}
use Rattle.bag_program.specs.declared.explanation.Why.TheVariants.{Unfit}
use Rattle.bag_folder.specs.declared.fault.OpenFault.{OpenFault}
use Rattle.bag_folder.specs.declared.root.Root.TheVariants.{Payload}
use Rattle.bag_folder.specs.Faults.{IfUnfit}
use Rattle.bag_folder.specs.Folders.{DiskShown, FolderShown, IsOpened, IsRefused, disk_in_payload}
use Rattle.bag_folder.specs.Unfits.{UnfitShown}
use Rattle.bag_program.specs.Endings.{or_why, why_failed, why_unmade, why_unopened}
use Rattle.bag_program.specs.NoResults.{no_result_of_open}
use Rattle.bag_folder.specs.declared.new_folders.NewFolders.{Ghosts as NewFolders}
use Rattle.bag_folder.specs.NewFolders.{IsNewFolder}
use Rattle.bag_writer.specs.declared.sink.Sink.{Ghosts as SinkOf}

-- the same for a folder that was made for the bag, from its state then to a later state
abbrev pub MakesFolder : {T W S : Type 0} → (W → Option (List ℕ)) → SinkOf S → (T → Shown)
    → (T → ℕ) → (T → Type 0) → T → T → List (List ℕ) → Output W → Output W → MakeEnd → S → S
    → Type 0
MakesFolder contents s shown failures sure old_tree new_tree words old new result sink later =
    MakesOf contents (IsWriting shown failures sure s.stored (λ sink. s.is_open sink ≡ false)
    s.failures s.sure old_tree new_tree sink later) ((new_tree ≡ old_tree) × (later ≡ sink))
    words old new result

-- the folder is kept if the status says that the bag was made, and otherwise given up
abbrev pub kept_folder : List ℕ → ℕ → Option (List ℕ)
kept_folder folder status = if nat_eq status DONE then Some folder else None

-- a folder with this name couldn't be made, which the fault tells, unless memory ran out
abbrev pub IsUnmade : List ℕ → OpenFault → Type 0
IsUnmade folder fault = IfUnfit fault (λ unfit. unfit.path ≡ folder)

-- What was done to write a bag: either a folder with this name was made, the bag was written to it, the result decided
-- whether it is kept, and if the folder failed the last trouble is told; or the folder couldn't be made, which was
-- printed and told, and nothing else was done.
pub data MakesInto {W F S B : Type 0} (contents : W → Option (List ℕ)) (s : SinkOf S)
    (f : NewFolders F S B) (writes : S → S → Type 0) (untouched : Type 0) (folder : List ℕ)
    (before after : F) (old new : Output W) (result : Ended) : Type 0 where
  Written : (sink later : S)
      → IsNewFolder s.stored s.is_open s.failures f.name f.trouble folder sink → writes sink later
      → f.made after ≡ kept_folder folder result.status
      → result.why ≡ why_failed (s.failures later) (f.trouble later)
      → MakesInto contents s f writes untouched folder before after old new result
  NotMade : (fault : OpenFault) → IsUnmade folder fault → after ≡ before → untouched
      → Printed contents old new result.status
      (no_result_text (no_result_of_open fault) ∷ []) FAILED
      → result.why ≡ why_unopened fault
      → MakesInto contents s f writes untouched folder before after old new result

-- the operands of `make`: the folder that contains the payload, the folder for the bag, and the names of algorithms
pub record MakingShown : Type 0 where
  pub source : List ℕ
  pub destination : List ℕ
  pub names : List (List ℕ)

abbrev pub words_given : Making → MakingShown
words_given making = record {
  source = making.source.now;
  destination = making.destination.now;
  names = map string_bytes making.names.now;
}

-- how `make` ended for a payload, given what is told of the new folder
abbrev pub make_end : Made → MakeEnd
make_end made = record { status = made.ended.status; large = made.large }

-- What `make` did. The disk may be known. Either the payload was opened, and this was done with it, and what is too
-- large is told, or which algorithms are known, or if its folder failed the last trouble; or no folder was made, and
-- `bag: files` was printed because something isn't allowed in a bag, which is told, or that memory ran out.
pub data PrintsMake {W F S B : Type 0} (contents : W → Option (List ℕ)) (s : SinkOf S)
    (f : NewFolders F S B) (known : DiskShown) (words : MakingShown) (before after : F)
    (old new : Output W) (result : Ended) : Type 0 where
  Opened : (tree later : FolderShown) (made : Made)
      → IsOpened (disk_in_payload known words.source) words.source Payload tree
      → MakesInto contents s f (MakesFolder contents s (λ (tree : FolderShown). tree.shown)
      (λ (tree : FolderShown). tree.failures) (λ (tree : FolderShown). ⊥) tree later words.names
      old new (make_end made)) ((later ≡ tree) × (made.large ≡ None)) words.destination
      before after old new made.ended
      → result ≡ or_why made.ended (why_unmade later made.ended.status made.large)
      → PrintsMake contents s f known words before after old new result
  Refused : (unfit : UnfitShown)
      → IsRefused (disk_in_payload known words.source) words.source Payload unfit → after ≡ before
      → Printed contents old new result.status (no_result_text no_result.Files ∷ []) FAILED
      → result.why ≡ Some (Unfit unfit)
      → PrintsMake contents s f known words before after old new result
  NoMemory : after ≡ before
      → Printed contents old new result.status (no_result_text no_result.Memory ∷ []) FAILED
      → result.why ≡ None
      → PrintsMake contents s f known words before after old new result
