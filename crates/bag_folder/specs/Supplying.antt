-- What is visible of a folder as a supplier, and what it answers.
use Rattle.std.specs.Prelude.{◌≡◌, ◌≢◌, ◌&&◌, ◌++◌, ◌∷◌, [], ⊤, ℕ, Bool, false, true, List, Option, None, Some, Ok, Err, Result, IfSome, IsErr, IsSomeAnd, MatchBool, MatchResult, OnSome, if◌then◌else◌, is_some, map, nat_eq, refl}
use Rattle.std.specs.List.{list_all}
use Rattle.std.specs.IoError.{error_kind}
use Rattle.std.specs.declared.io.Error.{Error}
use Rattle.std.specs.declared.io.ErrorKind.TheVariants.{IsADirectory, NotADirectory, NotFound}
use Rattle.std.proofs.Common.{◌∙◌, ap₂}
use Rattle.bag_digest.specs.Failures.{one_more}
use Rattle.bag_receiver.specs.Suppliers.{Supply}
use Rattle.bag_folder.specs.declared.entry_kind.EntryKind.{EntryKind}
use Rattle.bag_folder.specs.declared.entry_kind.EntryKind.TheVariants.{File, Directory, Link, Special}
use Rattle.bag_folder.specs.declared.fault.Cause.{Cause}
use Rattle.bag_folder.specs.declared.fault.Cause.TheVariants as why
use Rattle.bag_folder.specs.Directories.{name_below}
use Rattle.bag_folder.specs.DiskNames.{IsOnTheWay, LeadsTo, Standing, content, itself, octets_of}
use Rattle.bag_folder.specs.Unfits.{IsCauseOf, UnfitShown}

-- what stands under names, if that is known; the name of the folder, and of the last file looked up; what the open file
-- will still give (if one is open, and if that is known); how many times the folder failed, and what couldn't be used
-- the last time, if that is told; how many times it was asked
pub record SupplierShown : Type 0 where
  pub standing : Option Standing
  pub folder : List ℕ
  pub name : List ℕ
  pub to_read : Option (Option (List ℕ))
  pub failures : ℕ
  pub trouble : Option UnfitShown
  pub asks : ℕ

-- a supplier of the files below this folder, before any call
pub record IsReadyFolder (folder : List ℕ) (supplier : SupplierShown) : Type 0 where
  pub named : supplier.folder ≡ folder
  pub closed : supplier.to_read ≡ None
  pub not_failed : supplier.failures ≡ 0
  pub no_trouble : supplier.trouble ≡ None
  pub not_asked : supplier.asks ≡ 0

-- WHAT STANDS BELOW IT

-- each directory on the way to this path, below the folder, is a folder itself
abbrev pub IsReached : Standing → List ℕ → List ℕ → Type 0
IsReached known folder path = (front : List ℕ) → LeadsTo front path
    → itself known (name_below folder front) ≡ Ok Directory

-- what is answered of one name, by what is found there: its kind, or nothing, or the cause why it can't be told
abbrev pub Finds : Result EntryKind Error → Result (Option EntryKind) (Option Cause) → Type 0
Finds found (Ok (Some kind)) = found ≡ Ok kind
Finds found (Ok None) = (error : Error) × (found ≡ Err error) × (error_kind error ≡ NotFound)
Finds found (Err None) = ⊤
Finds found (Err (Some cause)) = (error : Error) × (found ≡ Err error)
    × (error_kind error ≢ NotFound) × IsCauseOf error cause

-- what has this path below the folder: it has this name, and folders alone lead to it
pub record IsMet (known : Standing) (folder path name : List ℕ) (found : Result EntryKind Error)
    : Type 0 where
  pub named : name ≡ name_below folder path
  pub reached : IsReached known folder path
  pub is : itself known name ≡ found

-- the same, of what has the path or is on the way to it
abbrev pub IsMetOnTheWay : Standing → List ℕ → List ℕ → List ℕ → Result EntryKind Error → Type 0
IsMetOnTheWay known folder path name found =
    (front : List ℕ) × IsOnTheWay front path × IsMet known folder front name found

-- nothing can have the path: on the way to it, or there, nothing is found, or a file is on the way
pub data IsLacking (known : Standing) (folder path name : List ℕ) : Type 0 where
  Absent : (error : Error) → error_kind error ≡ NotFound
      → IsMetOnTheWay known folder path name (Err error) → IsLacking known folder path name
  InFile : (front : List ℕ) → LeadsTo front path → IsMet known folder front name (Ok File)
      → IsLacking known folder path name

-- why a file isn't supplied, though it isn't lacking
pub data IsBarred (known : Standing) (folder path name : List ℕ) (cause : Cause) : Type 0 where
  Hidden : (error : Error) → error_kind error ≢ NotFound → IsCauseOf error cause
      → IsMetOnTheWay known folder path name (Err error) → IsBarred known folder path name cause
  IsLink : cause ≡ why.Link → IsMetOnTheWay known folder path name (Ok Link)
      → IsBarred known folder path name cause
  IsSpecial : cause ≡ why.Special → IsMetOnTheWay known folder path name (Ok Special)
      → IsBarred known folder path name cause
  IsDirectory : (error : Error) → error_kind error ≡ IsADirectory → cause ≡ why.System error
      → IsMet known folder path name (Ok Directory) → IsBarred known folder path name cause
  Shut : (error : Error) → content known name ≡ Err error → IsCauseOf error cause
      → IsMet known folder path name (Ok File) → IsBarred known folder path name cause

-- what has this path, if it is a file or a folder; or what is on the way to it and is neither
abbrev pub Meets : Standing → List ℕ → List ℕ → List ℕ → Result (Option EntryKind) (Option Cause)
    → Type 0
Meets known folder path name (Ok None) = IsLacking known folder path name
Meets known folder path name (Ok (Some File)) = IsMet known folder path name (Ok File)
Meets known folder path name (Ok (Some Directory)) = IsMet known folder path name (Ok Directory)
Meets known folder path name (Ok (Some Link)) = IsMetOnTheWay known folder path name (Ok Link)
Meets known folder path name (Ok (Some Special)) =
    IsMetOnTheWay known folder path name (Ok Special)
Meets known folder path name (Err cause) = IfSome cause (IsBarred known folder path name)

-- the file with this path was opened
pub record IsGiven (known : Standing) (folder path name : List ℕ)
    (to_read : Option (Option (List ℕ))) : Type 0 where
  pub met : IsMet known folder path name (Ok File)
  pub opened : IsSomeAnd to_read (λ left. content known name ≡ Ok left)

-- it was said whether the folder has the file with this path, and that is so; the name was looked up last
abbrev pub Says : Standing → List ℕ → List ℕ → List ℕ → Option (Option (List ℕ)) → Bool → Type 0
Says known folder path name to_read has = MatchBool has
    (IsGiven known folder path name to_read) (IsLacking known folder path name)

-- this name doesn't lead to a folder
abbrev pub IsNoFolder : Result EntryKind Error → Error → Type 0
IsNoFolder found error = MatchResult found
    (λ kind. (kind ≢ Directory) × (error_kind error ≡ NotADirectory)) (λ it. error ≡ it)

-- WHAT IT ANSWERS

-- the name below the folder of this path, or of a directory on the way to it
abbrev pub IsNameTo : List ℕ → List ℕ → List ℕ → Type 0
IsNameTo folder path name = (front : List ℕ) × IsOnTheWay front path
    × (name ≡ name_below folder front)

-- a call that looked up such names, and this one last
abbrev pub LooksUp : {A : Type 0} → List ℕ → List ℕ → List ℕ → Result A (Option Cause) → Type 0
LooksUp folder path name result = MatchResult result (λ _. IsNameTo folder path name)
    (λ cause. OnSome cause (IsNameTo folder path name))

-- The request is counted. Afterwards a file is open exactly if the folder has it, and it is the one with this path
-- below the folder. A failure is told of the file, or of a directory on the way to it. What is answered is right, if it
-- is known what stands there.
pub record AsksFolder {E : Type 0} (old new : SupplierShown) (path : List ℕ)
    (result : Result Bool E) : Type 0 where
  pub opened : is_some new.to_read ≡ true
      → (result ≡ Ok true) × (new.name ≡ name_below old.folder path)
  pub found : result ≡ Ok true → is_some new.to_read ≡ true
  pub changes : new ≡ record old {
    name = new.name;
    to_read = new.to_read;
    failures = new.failures;
    trouble = new.trouble;
    asks = one_more old.asks;
  }
  pub told : IsErr result
      → IfSome new.trouble (λ unfit. IsNameTo old.folder path unfit.path)
  pub answers : IfSome old.standing (λ known. MatchResult result
      (Says known old.folder path new.name new.to_read)
      (λ _. IfSome new.trouble (λ unfit.
      IsBarred known old.folder path unfit.path unfit.cause)))

-- WHAT IT HAS, if it is known what stands there

-- the paths of the directories on the way to a path
abbrev pub fronts_of : List ℕ → List (List ℕ)
fronts_of [] = []
fronts_of (octet ∷ path) =
    (if nat_eq octet 47 then [] ∷ [] else []) ++ map (λ front. octet ∷ front) (fronts_of path)

abbrev pub is_directory : Result EntryKind Error → Bool
is_directory (Ok Directory) = true
is_directory found = false

abbrev pub is_file : Result EntryKind Error → Bool
is_file (Ok File) = true
is_file found = false

-- a file has this path below the folder, and folders alone lead to it
abbrev pub has_file : Standing → List ℕ → List ℕ → Bool
has_file known folder path =
    list_all (λ front. is_directory (itself known (name_below folder front))) (fronts_of path)
    && is_file (itself known (name_below folder path))

-- the octets of that file
abbrev pub octets_supplied : Standing → List ℕ → List ℕ → Option (List ℕ)
octets_supplied known folder path =
    if has_file known folder path then octets_of (content known (name_below folder path)) else None

-- it is known what is read of each file that can be opened
abbrev pub is_told : Result (Option (List ℕ)) Error → Bool
is_told (Ok None) = false
is_told found = true

abbrev pub are_told : Standing → Bool
are_told known = list_all (λ named. is_told named.content) known.names

-- what the folder has for each path, whatever the url
abbrev pub supply_in : Option Standing → List ℕ → Option Supply
supply_in None folder = None
supply_in (Some known) folder =
    if are_told known then Some (λ url path. octets_supplied known folder path) else None

abbrev pub supply_of : SupplierShown → Option Supply
supply_of supplier = supply_in supplier.standing supplier.folder

-- the same folder, which was asked the same number of times
pub record SameSupplier (old new : SupplierShown) : Type 0 where
  pub standing : new.standing ≡ old.standing
  pub folder : new.folder ≡ old.folder
  pub asks : new.asks ≡ old.asks

pub supplier_itself : (a : SupplierShown) → SameSupplier a a
supplier_itself a = record { standing = refl; folder = refl; asks = refl }

pub supplier_on : (a b c : SupplierShown) → SameSupplier a b → SameSupplier b c → SameSupplier a c
supplier_on a b c p q = record {
  standing = q.standing ∙ p.standing;
  folder = q.folder ∙ p.folder;
  asks = q.asks ∙ p.asks;
}

pub keeps_supply : (a b : SupplierShown) → SameSupplier a b
    → (supply_of b ≡ supply_of a) × (b.asks ≡ a.asks)
keeps_supply a b same = (ap₂ supply_in same.standing same.folder, same.asks)
