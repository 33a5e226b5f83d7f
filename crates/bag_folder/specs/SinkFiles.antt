-- Files that are begun in a folder, which are values.
use Rattle.std.specs.Prelude.{◌≡◌, ◌<◌, ⊤, ℕ, List, Option, None, Result, IfSome, IsErr, IsSomeAnd, MatchResult, OnSome, is_some, option_map}
use Rattle.bag_digest.specs.Failures.{one_more}
use Rattle.bag_writer.specs.OpenSinks.{IsBegun, LeavesSink}
use Rattle.bag_folder.specs.declared.fault.Cause.{Cause}
use Rattle.bag_folder.specs.Directories.{name_below}
use Rattle.bag_folder.specs.DiskNames.{Changes, Grows, HoldsNothing, IsFileMade, IsWay, Standing}
use Rattle.bag_folder.specs.SinkFolders.{SinkShown, WritesBegun}
use Rattle.bag_folder.specs.Unfits.{UnfitShown}

-- its place among the files that are written, and its name on disk; what it holds, if it is open, and if that is known;
-- how many times it has failed, and why the last time, if that is told
pub record SinkFileShown : Type 0 where
  pub place : ℕ
  pub name : List ℕ
  pub written : Option (Option (List ℕ))
  pub failures : ℕ
  pub cause : Option Cause

-- what couldn't be used, if it has failed
abbrev pub trouble_in : SinkFileShown → Option UnfitShown
trouble_in file = option_map (λ cause. record { path = file.name; cause = cause }) file.cause

-- A file that has this place and, if it was begun or it is told why it wasn't, this name. It is open and empty, or has
-- failed once.
pub record IsBegunAt (name : List ℕ) (place : ℕ) (file : SinkFileShown) : Type 0 where
  pub placed : file.place ≡ place
  pub begun : file.failures ≡ 0 → (file.name ≡ name) × IsSomeAnd file.written (λ _. ⊤)
      × (file.cause ≡ None)
  pub failed : 0 < file.failures → (file.failures ≡ 1) × (file.written ≡ None)
      × OnSome file.cause (file.name ≡ name)

-- the file was made under a name that nothing had, or if it has failed at most folders were, on the way to it
abbrev pub MakesBegun : List ℕ → SinkFileShown → Standing → Standing → Type 0
MakesBegun name file old new = (file.failures ≡ 0 → IsFileMade name old new)
    × (0 < file.failures → Grows (IsWay name) old new)

-- a file was begun in a folder, at this path; nothing else changes there but the count
pub record BeginsBelow (old new : SinkShown) (path : List ℕ) (place : ℕ) (file : SinkFileShown)
    : Type 0 where
  pub begun : IsBegunAt (name_below old.folder path) place file
  pub makes : Changes (MakesBegun (name_below old.folder path) file) old.standing new.standing
  pub empty : file.failures ≡ 0 → IfSome new.standing (λ _. IsSomeAnd file.written HoldsNothing)
  pub rest : new ≡ record old {
    standing = new.standing;
    failures = new.failures;
  }

-- a write changes what the file holds, and its failure is counted
pub record WritesFile {E : Type 0} (old new : SinkFileShown) (result : Result (Unit {0}) E)
    (octets : List ℕ) : Type 0 where
  pub writes_on : WritesBegun old.written new.written result octets
  pub changes : MatchResult result (λ _. new ≡ record old { written = new.written })
      (λ _. new ≡ record old {
        written = new.written;
        failures = one_more old.failures;
        cause = new.cause;
      })

-- the file isn't open after it was ended, and a failure is counted; one that was not open fails
pub record EndsBegun {E : Type 0} (old new : SinkFileShown) (result : Result (Unit {0}) E)
    : Type 0 where
  pub changes : MatchResult result (λ _. new ≡ record old { written = None })
      (λ _. new ≡ record old {
        written = new.written;
        failures = one_more old.failures;
        cause = new.cause;
      })
  pub closed : old.written ≡ None → IsErr result

-- what a sink says of a file that it gives out
abbrev pub IsGivenBegun : SinkShown → ℕ → List ℕ → SinkFileShown → Type 0
IsGivenBegun sink place path file = IsBegun (λ (file : SinkFileShown). file.place)
    (λ _ _ _. Unit {0}) (λ (file : SinkFileShown). file.failures) (λ (file : SinkFileShown). ⊥)
    ⊥ (is_some sink.written) None place path file

-- what it says of itself then, and when it takes a file back
abbrev pub LeavesFolder : SinkShown → SinkShown → Type 0
LeavesFolder old new = LeavesSink (λ (sink : SinkShown). None)
    (λ (sink : SinkShown). is_some sink.written) (λ (sink : SinkShown). ⊥) old new
