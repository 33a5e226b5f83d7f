-- What stands under the names on a disk, and what is made there.
use Rattle.std.specs.Prelude.{◌≡◌, ◌≢◌, ◌⊎◌, ⊤, ℕ, All, List, [], Option, None, Some, Result, Ok, Err, IfSome, MatchResult, OnOk, ◌∷◌, if◌then◌else◌}
use Rattle.std.specs.Str.{bytes_eq}
use Rattle.std.specs.declared.io.Error.{Error}
use Rattle.bag_folder.specs.declared.entry_kind.EntryKind.{EntryKind}
use Rattle.bag_folder.specs.declared.entry_kind.EntryKind.TheVariants.{File, Directory}
use Rattle.bag_folder.specs.declared.fault.Cause.{Cause}
use Rattle.bag_folder.specs.Directories.{name_below}
use Rattle.bag_folder.specs.Unfits.{IsCauseOf}

-- A name: what it stands for, where a link is a link; what it leads to, where links are followed; and what is read of
-- the file that it leads to, if that is known. In place of each the error, if there is none, or if it can't be told.
pub record Named : Type 0 where
  pub name : List ℕ
  pub itself : Result EntryKind Error
  pub behind : Result EntryKind Error
  pub content : Result (Option (List ℕ)) Error

-- what stands under names: these, and for all other names the error
pub record Standing : Type 0 where
  pub names : List Named
  pub absent : Error

-- what is told of the first with this name
abbrev pub told_in : {A : Type 0} → (Named → Result A Error) → Error → List Named → List ℕ
    → Result A Error
told_in told absent [] name = Err absent
told_in told absent (named ∷ names) name =
    if bytes_eq named.name name then told named else told_in told absent names name

unfoldable pub itself : Standing → List ℕ → Result EntryKind Error
itself standing name = told_in (λ named. named.itself) standing.absent standing.names name

unfoldable pub behind : Standing → List ℕ → Result EntryKind Error
behind standing name = told_in (λ named. named.behind) standing.absent standing.names name

unfoldable pub content : Standing → List ℕ → Result (Option (List ℕ)) Error
content standing name = told_in (λ named. named.content) standing.absent standing.names name

-- the octets, if there are some and they are known
abbrev pub octets_of : {E : Type 0} → Result (Option (List ℕ)) E → Option (List ℕ)
octets_of (Ok octets) = octets
octets_of (Err error) = None

-- the octets of the file that this name leads to, if it is known what stands there
abbrev pub octets_under : Option Standing → List ℕ → Option (List ℕ)
octets_under None name = None
octets_under (Some standing) name = octets_of (content standing name)

-- nothing has this name
abbrev pub IsVacant : Standing → List ℕ → Type 0
IsVacant standing name = (kind : EntryKind) → itself standing name ≢ Ok kind

-- this directory leads to a folder, if it has a name
abbrev pub IsFolder : Standing → List ℕ → Type 0
IsFolder standing directory = directory ≢ [] → behind standing directory ≡ Ok Directory

-- the same, if it is known what stands there
abbrev pub IsFolderIn : Option Standing → List ℕ → Type 0
IsFolderIn known directory = IfSome known (λ standing. IsFolder standing directory)

-- the first is the path of a directory on the way to the second
abbrev pub LeadsTo : List ℕ → List ℕ → Type 0
LeadsTo front path = (rest : List ℕ) × (path ≡ name_below front rest)

-- the same, or the second itself
abbrev pub IsOnTheWay : List ℕ → List ℕ → Type 0
IsOnTheWay front path = (front ≡ path) ⊎ LeadsTo front path

-- the directory that a name is in: what stands before its last slash
abbrev pub IsDirectoryOf : List ℕ → List ℕ → Type 0
IsDirectoryOf directory name = (rest : List ℕ) × (name ≡ name_below directory rest)
    × All (λ octet. octet ≢ 47) rest

-- the file that this name leads to was opened, or this is the cause why it can't be
abbrev pub Opens : {File : Type 0} → (File → Option (List ℕ)) → Standing → List ℕ
    → Result File (Option Cause) → Type 0
Opens left standing name result = MatchResult result
    (λ file. content standing name ≡ Ok (left file))
    (λ cause. IfSome cause (λ why. (error : Error) × (content standing name ≡ Err error)
    × IsCauseOf error why))

-- nothing is in a file yet, if it is known what it holds
abbrev pub HoldsNothing : Option (List ℕ) → Type 0
HoldsNothing held = IfSome held (λ octets. octets ≡ [])

-- WHAT IS MADE

-- All that stood there still does, and gives what it gave. What is new may be there.
pub record Grows (May : List ℕ → EntryKind → Type 0) (old new : Standing) : Type 0 where
  pub stands : (name : List ℕ) (kind : EntryKind) → itself old name ≡ Ok kind
      → itself new name ≡ Ok kind
  pub leads : (name : List ℕ) (kind : EntryKind) → behind old name ≡ Ok kind
      → behind new name ≡ Ok kind
  pub gives : (name : List ℕ) (octets : Option (List ℕ)) → content old name ≡ Ok octets
      → content new name ≡ Ok octets
  pub made : (name : List ℕ) (kind : EntryKind) → itself new name ≡ Ok kind
      → (itself old name ≡ Ok kind) ⊎ May name kind

-- what stands under names is known afterwards exactly if it was before, and then this holds of both
abbrev pub Changes : (Standing → Standing → Type 0) → Option Standing → Option Standing → Type 0
Changes P None None = ⊤
Changes P None (Some new) = ⊥
Changes P (Some old) None = ⊥
Changes P (Some old) (Some new) = P old new

-- something of this kind was made under a name that nothing had
pub record IsMade (kind : EntryKind) (name : List ℕ) (old new : Standing) : Type 0 where
  pub vacant : IsVacant old name
  pub stands : itself new name ≡ Ok kind
  pub grows : Grows (λ it what. (it ≡ name) × (what ≡ kind)) old new

-- the same, or nothing changed
abbrev pub MakesOne : {A E : Type 0} → EntryKind → List ℕ → Result A E → Standing → Standing
    → Type 0
MakesOne kind name result old new = MatchResult result (λ _. IsMade kind name old new)
    (λ _. new ≡ old)

-- the name leads to a folder, and only folders were made, on the way to it
pub record MakesWay {A E : Type 0} (name : List ℕ) (result : Result A E) (old new : Standing)
    : Type 0 where
  pub leads : OnOk result (IsFolder new name)
  pub grows : Grows (λ it what. IsOnTheWay it name × (what ≡ Directory)) old new

-- something of this kind may be made on the way to a file: a folder
abbrev pub IsWay : List ℕ → List ℕ → EntryKind → Type 0
IsWay name it what = LeadsTo it name × (what ≡ Directory)

-- the directory of a file leads to a folder, and only folders were made, on the way to the file
pub record MakesParents {A E : Type 0} (name : List ℕ) (result : Result A E) (old new : Standing)
    : Type 0 where
  pub inside : OnOk result
      ((directory : List ℕ) × IsDirectoryOf directory name × IsFolder new directory)
  pub grows : Grows (IsWay name) old new

-- a file was made under a name that nothing had, in a folder; besides only folders on the way to it
pub record IsFileMade (name : List ℕ) (old new : Standing) : Type 0 where
  pub vacant : IsVacant old name
  pub stands : itself new name ≡ Ok File
  pub inside : (directory : List ℕ) × IsDirectoryOf directory name × IsFolder new directory
  pub grows : Grows (λ it what. IsWay name it what ⊎ (it ≡ name) × (what ≡ File)) old new

-- the same; or at most folders were made, on the way to the file
abbrev pub MakesFile : {A E : Type 0} → List ℕ → Result A E → Standing → Standing → Type 0
MakesFile name result old new = MatchResult result (λ _. IsFileMade name old new)
    (λ _. Grows (IsWay name) old new)
