-- What a fault of a folder tells.
use Rattle.std.specs.Prelude.{◌≡◌, ◌≢◌, ⊤, ℕ, List, []}
use Rattle.std.specs.IoError.{error_kind}
use Rattle.std.specs.declared.io.Error.{Error}
use Rattle.std.specs.declared.io.ErrorKind.TheVariants.{OutOfMemory}
use Rattle.bag_path.specs.declared.path.PathFault.{PathFault}
use Rattle.bag_path.specs.declared.path.PathFault.TheVariants as path_fault
use Rattle.bag_folder.specs.declared.fault.OpenFault.{OpenFault}
use Rattle.bag_folder.specs.declared.fault.OpenFault.TheVariants.{Files, Memory}
use Rattle.bag_folder.specs.declared.root.Root.{Root}
use Rattle.bag_folder.specs.declared.fault.Cause.TheVariants.{NoName, NoPath}
use Rattle.bag_folder.specs.Folders.{path_below, told_name}
use Rattle.bag_folder.specs.Unfits.{IsCauseOf, UnfitShown}

-- this holds of what can't be used, if the fault isn't that memory ran out
abbrev pub IfUnfit : OpenFault → (UnfitShown → Type 0) → Type 0
IfUnfit (Files unfit) P = P unfit
IfUnfit Memory P = ⊤

-- the fault of an empty name
abbrev pub no_name : OpenFault
no_name = Files (record { path = []; cause = NoName })

-- what is told of an error of the operating system at this path
abbrev pub TellsSystem : Error → List ℕ → OpenFault → Type 0
TellsSystem error path (Files unfit) = (unfit.path ≡ path) × IsCauseOf error unfit.cause
    × (error_kind error ≢ OutOfMemory)
TellsSystem error path Memory = error_kind error ≡ OutOfMemory

-- what is told of a path that isn't one of a bag
abbrev pub TellsPath : PathFault → List ℕ → OpenFault → Type 0
TellsPath fault path (Files unfit) = (unfit.path ≡ path) × (unfit.cause ≡ NoPath fault)
    × (fault ≢ path_fault.Memory)
TellsPath fault path Memory = fault ≡ path_fault.Memory

-- what a fault tells by a path in the bag is told by the name on disk
pub record TellsBelow (fault : OpenFault) (folder : List ℕ) (root : Root) (unfit : UnfitShown)
    : Type 0 where
  pub below : UnfitShown
  pub was : fault ≡ Files below
  pub path_is : unfit.path ≡ told_name folder (path_below root below.path)
  pub same_cause : unfit.cause ≡ below.cause
