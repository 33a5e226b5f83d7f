-- What can't be used on disk, and why.
use Rattle.std.specs.Prelude.{◌≡◌, ◌≢◌, ◌↔◌, ℕ, Err, IfSome, List, MatchResult, None, Ok, Option, Result, Some}
use Rattle.std.specs.IoError.{error_kind, raw_os_error}
use Rattle.std.specs.declared.io.Error.{Error}
use Rattle.std.specs.declared.io.ErrorKind.TheVariants.{InvalidFilename}
use Rattle.bag_digest.specs.Failures.{one_more}
use Rattle.bag_folder.specs.declared.fault.Cause.{Cause}
use Rattle.bag_folder.specs.declared.fault.Cause.TheVariants.{NotUtf8, System}

-- its path, and why it can't be used
pub record UnfitShown : Type 0 where
  pub path : List ℕ
  pub cause : Cause

-- the cause for an error of the operating system: a name that isn't UTF-8, or the error itself
pub record IsCauseOf (error : Error) (cause : Cause) : Type 0 where
  pub not_utf8 : (cause ≡ NotUtf8)
      ↔ ((error_kind error ≡ InvalidFilename) × (raw_os_error error ≡ None))
  pub system : cause ≢ NotUtf8 → cause ≡ System error

-- the result of a call of the operating system, with the cause of its error
abbrev pub HasCause : {A : Type 0} → Result A Error → Result A (Option Cause) → Type 0
HasCause answer result = MatchResult answer (λ value. result ≡ Ok value)
    (λ error. (cause : Cause) × IsCauseOf error cause × (result ≡ Err (Some cause)))

-- how many times a folder has failed, and what couldn't be used the last time, if that is told
pub record TroublesShown : Type 0 where
  pub failures : ℕ
  pub last : Option UnfitShown

-- if it is told what couldn't be used, it has this name
abbrev pub IsToldAt : List ℕ → Option UnfitShown → Type 0
IsToldAt name last = IfSome last (λ unfit. unfit.path ≡ name)

-- and this cause
abbrev pub TellsLast : List ℕ → Option Cause → Option UnfitShown → Type 0
TellsLast name cause last = IfSome last (λ unfit. (unfit.path ≡ name) × (cause ≡ Some unfit.cause))

-- a failure is counted, and told of this name
abbrev pub CountsTrouble : {A : Type 0} → Result A (Option Cause) → List ℕ → TroublesShown
    → TroublesShown → Type 0
CountsTrouble answer name old new = MatchResult answer (λ _. new ≡ old)
    (λ cause. (new.failures ≡ one_more old.failures) × TellsLast name cause new.last)
