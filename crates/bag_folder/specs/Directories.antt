-- Directories with known entries, and what is below a folder.
use Rattle.std.specs.Prelude.{◌≡◌, ◌≢◌, ◌↔◌, ◌++◌, ◌⊎◌, ℕ, Bool, true, List, [], Contains, MatchResult, Option, Some, None, Result, Ok, Err, codes, map, ◌∷◌, if◌then◌else◌}
use Rattle.std.specs.Fs.{dir_entry_name}
use Rattle.std.specs.IoError.{error_kind}
use Rattle.std.specs.Option.{option_map}
use Rattle.std.specs.Str.{bytes_eq}
use Rattle.std.specs.declared.fs.dir.DirEntry.{DirEntry}
use Rattle.std.specs.declared.io.Error.{Error}
use Rattle.std.specs.declared.io.ErrorKind.TheVariants.{OutOfMemory}
use Rattle.bag_path.specs.declared.path.PathFault.{PathFault}
use Rattle.bag_path.specs.Paths.{is_payload, path_fault}
use Rattle.bag_tags.specs.Words.{without}
use Rattle.bag_folder.specs.declared.entry_kind.EntryKind.{EntryKind}
use Rattle.bag_folder.specs.declared.entry_kind.EntryKind.TheVariants.{File, Directory, Link, Special}
use Rattle.bag_folder.specs.declared.fault.Cause.{Cause}
use Rattle.bag_folder.specs.declared.fault.Cause.TheVariants as why
use Rattle.bag_folder.specs.Unfits.{IsCauseOf}

-- the name of a path below a folder
abbrev pub name_below : List ℕ → List ℕ → List ℕ
name_below folder path = folder ++ (codes "/" ++ path)

-- a directory entry: its file name and its kind
pub record EntryShown : Type 0 where
  pub name : List ℕ
  pub kind : EntryKind

-- the entries of each directory by its name; the error if it doesn't exist, can't be read, or contains a name that
-- isn't UTF-8
abbrev pub Listing : Type 0
Listing = List ℕ → Result (List EntryShown) Error

-- the answer for the entries of a directory: those listed, or the error in their place, or that memory ran out
abbrev pub AnswersEntries : {Entries : Type 0} → (Entries → List EntryShown) → Listing → List ℕ
    → Result Entries Error → Type 0
AnswersEntries shown listing directory answer =
    MatchResult answer (λ entries. listing directory ≡ Ok (shown entries))
    (λ error. error_kind error ≢ OutOfMemory → listing directory ≡ Err error)

-- what the operating system gives for an entry: its file name, or an error
abbrev pub given_name : {R A F D E : Type 0} → Result (DirEntry R A F D) E → Option (List ℕ)
given_name (Ok entry) = Some (dir_entry_name entry)
given_name (Err error) = None

-- the operating system gave no error, and these are the entries with the names that it gave, in order
abbrev pub AreGiven : {R A F D E : Type 0} → List (Result (DirEntry R A F D) E) → List EntryShown
    → Type 0
AreGiven given entries = map given_name given ≡ map (λ entry. Some entry.name) entries

-- the payload directory as an entry of the base directory
abbrev pub data_entry : EntryShown
data_entry = record { name = codes "data"; kind = Directory }

-- The directories as seen from a bag whose payload directory is the folder: its base directory contains only `data`,
-- and what is below `data` is what is below the folder.
abbrev pub payload_listing : List ℕ → Listing → Listing
payload_listing folder listing name =
    if bytes_eq name (name_below folder []) then
    Ok (data_entry ∷ [])
    else
    listing (name_below folder (without (name_below folder (codes "data/")) name))

abbrev pub in_payload : Option Listing → List ℕ → Option Listing
in_payload known folder = option_map (payload_listing folder) known

-- THE TREE BELOW A FOLDER

-- the directory at this front has an entry with this name and kind
pub record HasEntry (listing : Listing) (folder front name : List ℕ) (kind : EntryKind)
    : Type 0 where
  pub entries : List EntryShown
  pub listed : listing (name_below folder front) ≡ Ok entries
  pub there : Contains entries (record { name = name; kind = kind })

-- The fronts of the paths at and below a folder: empty in the folder itself; in a subdirectory the front of its parent,
-- followed by its name and a slash.
pub data IsFront (listing : Listing) (folder : List ℕ) : List ℕ → Type 0 where
  AtFolder : IsFront listing folder []
  Inside : (front name : List ℕ) → IsFront listing folder front
      → HasEntry listing folder front name Directory
      → IsFront listing folder ((front ++ name) ++ codes "/")

-- something of this kind has this path in the folder
pub record Stands (listing : Listing) (folder path : List ℕ) (kind : EntryKind) : Type 0 where
  pub front : List ℕ
  pub name : List ℕ
  pub below : IsFront listing folder front
  pub entry : HasEntry listing folder front name kind
  pub path_is : path ≡ front ++ name

-- What was found is exactly what is below the folder: every file by its path, and all directories are listed. The
-- payload directory exists if it was found, or if some file has its path in it.
pub record IsBelow (listing : Listing) (folder : List ℕ) (paths : List (List ℕ)) (has_dir : Bool)
    : Type 0 where
  pub files : (path : List ℕ) → Contains paths path ↔ Stands listing folder path File
  pub listed : (front : List ℕ) → IsFront listing folder front
      → (entries : List EntryShown) × (listing (name_below folder front) ≡ Ok entries)
  pub no_link : (path : List ℕ) → ¬ Stands listing folder path Link
  pub nothing_special : (path : List ℕ) → ¬ Stands listing folder path Special
  pub payload : Stands listing folder (codes "data") Directory → has_dir ≡ true
  pub no_payload : has_dir ≡ true → Stands listing folder (codes "data") Directory
      ⊎ ((path : List ℕ) × Contains paths path × (is_payload path ≡ true))

-- why something of this kind isn't allowed at this path
abbrev pub Forbids : List ℕ → EntryKind → Cause → Type 0
Forbids path File cause =
    (fault : PathFault) × (path_fault path ≡ Some fault) × (cause ≡ why.NoPath fault)
Forbids path Directory cause = ⊥
Forbids path Link cause = cause ≡ why.Link
Forbids path Special cause = cause ≡ why.Special

-- Why the folder can't be a bag, and at which path: it has no name; or the directory under this front can't be read; or
-- what is at this path isn't allowed in a bag.
pub data IsUnfit (listing : Listing) (folder path : List ℕ) (cause : Cause) : Type 0 where
  NoName : folder ≡ [] → path ≡ [] → cause ≡ why.NoName → IsUnfit listing folder path cause
  Unlisted : (error : Error) → IsFront listing folder path
      → listing (name_below folder path) ≡ Err error → IsCauseOf error cause
      → IsUnfit listing folder path cause
  NotAllowed : (kind : EntryKind) → Stands listing folder path kind → Forbids path kind cause
      → IsUnfit listing folder path cause
