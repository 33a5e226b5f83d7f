-- What is visible of a folder that a bag is written to. The content of its files isn't known.
use Rattle.std.specs.Prelude.{◌≡◌, ℕ, List, Option, Some, None, Result, IsErr, MatchResult, OnOk}
use Rattle.std.specs.Io.KnownBytes.{Appends}
use Rattle.bag_folder.specs.Directories.{name_below}
use Rattle.bag_folder.specs.DiskNames.{Standing}
use Rattle.bag_folder.specs.Unfits.{IsToldAt, UnfitShown}
use Rattle.bag_digest.specs.Failures.{one_more}

-- what stands under names, if that is known; the name of the folder, and of what was made in it last; what the current
-- file holds (if there is one, and if that is known); how many times the folder has failed, and what couldn't be used
-- the last time, if that is told
pub record SinkShown : Type 0 where
  pub standing : Option Standing
  pub folder : List ℕ
  pub name : List ℕ
  pub written : Option (Option (List ℕ))
  pub failures : ℕ
  pub trouble : Option UnfitShown

-- a folder that was made under this name: no file is open, and nothing has failed
pub record IsCreated (folder : List ℕ) (sink : SinkShown) : Type 0 where
  pub named : sink.folder ≡ folder
  pub closed : sink.written ≡ None
  pub not_failed : sink.failures ≡ 0
  pub no_trouble : sink.trouble ≡ None

-- What is made at this path has its name below the folder. A failure is counted, and told of that name, and the folder
-- keeps its name.
pub record MakesBelow {E : Type 0} (old new : SinkShown) (path : List ℕ)
    (result : Result (Unit {0}) E) : Type 0 where
  pub named : OnOk result (new.name ≡ name_below old.folder path)
  pub changes : MatchResult result
      (λ _. new ≡ record old {
        standing = new.standing;
        name = new.name;
        written = new.written;
      })
      (λ _. new ≡ record old {
        standing = new.standing;
        name = new.name;
        failures = one_more old.failures;
        trouble = new.trouble;
      })
  pub told : IsErr result → IsToldAt (name_below old.folder path) new.trouble

-- Octets that are written are appended to the current file. If there is none, there is none afterwards, and the write
-- fails.
abbrev pub WritesBegun : {E : Type 0} → Option (Option (List ℕ)) → Option (Option (List ℕ))
    → Result (Unit {0}) E → List ℕ → Type 0
WritesBegun None None result octets = IsErr result
WritesBegun None (Some new) result octets = ⊥
WritesBegun (Some old) None result octets = ⊥
WritesBegun (Some old) (Some new) result octets = OnOk result (Appends old new octets)

-- a write changes what the current file holds, and its failure is counted, and told of that file
pub record WritesFolder {E : Type 0} (old new : SinkShown) (result : Result (Unit {0}) E)
    (octets : List ℕ) : Type 0 where
  pub writes_on : WritesBegun old.written new.written result octets
  pub changes : MatchResult result (λ _. new ≡ record old { written = new.written })
      (λ _. new ≡ record old {
        written = new.written;
        failures = one_more old.failures;
        trouble = new.trouble;
      })
  pub told : IsErr result → IsToldAt old.name new.trouble

-- no file is open after `end`, and its failure is counted, and told of the file that was open
pub record EndsFile {E : Type 0} (old new : SinkShown) (result : Result (Unit {0}) E)
    : Type 0 where
  pub changes : MatchResult result (λ _. new ≡ record old { written = None })
      (λ _. new ≡ record old {
        written = None;
        failures = one_more old.failures;
        trouble = new.trouble;
      })
  pub told : IsErr result → IsToldAt old.name new.trouble
