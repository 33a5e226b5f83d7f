-- How a transfer is opened with the tag files of a tree.
use Rattle.std.specs.Prelude.{◌≡◌, ◌<◌, ◌∷◌, [], ℕ, List, Option, Some, None, Err, Result, IsErrOf, false, length, not, slice_get}
use Rattle.std.specs.List.{filter}
use Rattle.bag_digest.specs.Failures.{CountsIf}
use Rattle.bag_path.specs.Paths.{is_payload}
use Rattle.bag_rules.specs.declared.limits.TheConstants.{LARGEST_TAG_FILE}
use Rattle.bag_rules.specs.Files.{Files}
use Rattle.bag_rules.specs.Trees.{Shown, UsesTree, octets_in, paths_in}
use Rattle.bag_ledger.specs.Ledgers.{Ledger}
use Rattle.bag_ledger.specs.declared.keeper_faults.KeepFault.TheVariants.{Memory, Store}
use Rattle.bag_ledger.specs.declared.keeper_faults.StoreFault.{StoreFault}
use Rattle.bag_receiver.specs.declared.begin.BeginFault.{BeginFault}
use Rattle.bag_receiver.specs.declared.begin.BeginFault.TheVariants.{BadName, Keeper, TagTooLarge, Tree}
use Rattle.bag_receiver.specs.declared.begin.Begun.{Begun}
use Rattle.bag_receiver.specs.declared.receiver.Receiver.{Receiver}
use Rattle.bag_receiver.specs.Beginning.{Begins, IsAnswerTo}
use Rattle.bag_receiver.specs.TransferNames.{IsTransferName}
use Rattle.bag_receiver.specs.Receivers.{Does}

-- THE TAG FILES OF A TREE

-- the octets are these, if they are known
abbrev pub IsKnownAs : Option (List ℕ) → List ℕ → Type 0
IsKnownAs None octets = Unit {0}
IsKnownAs (Some known) octets = octets ≡ known

-- too many octets for a tag file, if they are known
abbrev pub MayBeHeavy : Option (List ℕ) → Type 0
MayBeHeavy None = Unit {0}
MayBeHeavy (Some known) = LARGEST_TAG_FILE < length known

-- files with the same paths, and with their octets if those are known
abbrev pub AreGiven : List (List ℕ × Option (List ℕ)) → Files → Type 0
AreGiven [] [] = Unit {0}
AreGiven (file ∷ files) (one ∷ given) =
    (one.0 ≡ file.0) × IsKnownAs file.1 one.1 × AreGiven files given
AreGiven files given = ⊥

-- all files except payload files, in order
abbrev pub tag_files : List (List ℕ × Option (List ℕ)) → List (List ℕ × Option (List ℕ))
tag_files files = filter (λ (file : List ℕ × Option (List ℕ)). not (is_payload file.0)) files

abbrev pub AreTagFilesIn : Shown → Files → Type 0
AreTagFilesIn shown given = AreGiven (tag_files shown.files) given

-- the tag file with this path has too many octets
pub record IsHeavyTagFile (shown : Shown) (path : List ℕ) : Type 0 where
  pub place : ℕ
  pub there : slice_get (paths_in shown) place ≡ Some path
  pub tag_file : is_payload path ≡ false
  pub heavy : MayBeHeavy (octets_in shown place)

-- why the tag files were not read to their end
abbrev pub IsMetReading : Shown → BeginFault → Type 0
IsMetReading shown Tree = Unit {0}
IsMetReading shown (TagTooLarge path) = IsHeavyTagFile shown path
IsMetReading shown (Keeper fault) = fault ≡ Memory
IsMetReading shown fault = ⊥

-- WHAT IS DONE WITH THEM

-- the answer of a receiver to these files, and how it changed what is held; a failure of the store exactly if the
-- keeper counted one
pub record IsBeginning {K : Type 0} (holds may_leave : K → Ledger → Type 0) (clean : K → Type 0)
    (failures : K → ℕ) (name : List ℕ) (old new : Receiver K) (given : Files)
    (answer : Result Begun BeginFault) : Type 0 where
  pub judged : IsAnswerTo answer name given
  pub begun : Does holds may_leave clean old new (Begins name given answer)
  pub store : CountsIf ((fault : StoreFault) × IsErrOf answer (Keeper (Store fault)))
      (failures old.keeper) (failures new.keeper)

-- The answer to the tag files of a tree; or that the name is invalid, or why they were not read. Only the first changes
-- what is held, and the name is judged before the tree is read.
pub data AnswersTree (shown : Shown) (begins : Files → Result Begun BeginFault → Type 0)
    (untouched : Type 0) (name : List ℕ) (answer : Result Begun BeginFault) : Type 0 where
  Answered : (given : Files) → AreTagFilesIn shown given → begins given answer
      → AnswersTree shown begins untouched name answer
  Unnamed : ¬ IsTransferName name → answer ≡ Err BadName → untouched
      → AnswersTree shown begins untouched name answer
  NotRead : (fault : BeginFault) → IsTransferName name → answer ≡ Err fault
      → IsMetReading shown fault → untouched → AnswersTree shown begins untouched name answer

-- The same, and what was done to the tree. It failed exactly if that is the answer.
pub record BeginsFrom {K T : Type 0} (holds may_leave : K → Ledger → Type 0) (clean : K → Type 0)
    (failures : K → ℕ) (shown : T → Shown) (tree_failures : T → ℕ) (sure : T → Type 0)
    (name : List ℕ) (old new : Receiver K) (before after : T) (answer : Result Begun BeginFault)
    : Type 0 where
  pub answers : AnswersTree (shown before)
      (IsBeginning holds may_leave clean failures name old new) (new ≡ old) name answer
  pub tree : UsesTree shown tree_failures sure before after (IsErrOf answer Tree)
