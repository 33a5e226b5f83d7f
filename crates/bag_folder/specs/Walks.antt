-- The steps of a walk through the directories below a folder.
use Rattle.std.specs.Prelude.{◌≡◌, ◌||◌, ◌++◌, ◌⊎◌, ⊤, ℕ, Bool, All, Contains, List, [], ◌∷◌, Ok, Err, codes, fold}
use Rattle.std.specs.Str.{bytes_eq}
use Rattle.std.specs.declared.io.Error.{Error}
use Rattle.bag_path.specs.Paths.{IsPath}
use Rattle.bag_folder.specs.declared.entry_kind.EntryKind.{EntryKind}
use Rattle.bag_folder.specs.declared.entry_kind.EntryKind.TheVariants.{File, Directory, Link, Special}
use Rattle.bag_folder.specs.declared.fault.Cause.{Cause}
use Rattle.bag_folder.specs.Directories.{EntryShown, Forbids, Listing, name_below}
use Rattle.bag_folder.specs.Unfits.{IsCauseOf}

-- what a walk has found: the paths of files, whether there is a payload directory, and the fronts of the directories
-- that still have to be read
pub record Walked : Type 0 where
  pub paths : List (List ℕ)
  pub has_dir : Bool
  pub left : List (List ℕ)

-- what is found once something of this kind is added at this path
abbrev pub with_path : Walked → List ℕ → EntryKind → Walked
with_path walked path File = record walked { paths = walked.paths ++ path ∷ [] }
with_path walked path Directory = record walked {
  has_dir = walked.has_dir || bytes_eq path (codes "data");
  left = walked.left ++ (path ++ codes "/") ∷ [];
}
with_path walked path Link = walked
with_path walked path Special = walked

-- what is allowed in a bag
abbrev pub FitsBag : List ℕ → EntryKind → Type 0
FitsBag path File = IsPath path
FitsBag path Directory = ⊤
FitsBag path Link = ⊥
FitsBag path Special = ⊥

-- the same, for an entry of the directory under a front
abbrev pub with_entry : List ℕ → Walked → EntryShown → Walked
with_entry front walked entry = with_path walked (front ++ entry.name) entry.kind

abbrev pub EntryFits : List ℕ → EntryShown → Type 0
EntryFits front entry = FitsBag (front ++ entry.name) entry.kind

-- each entry of the directory at a front was added, in order
pub record LooksInto (listing : Listing) (folder front : List ℕ) (old new : Walked) : Type 0 where
  pub entries : List EntryShown
  pub listed : listing (name_below folder front) ≡ Ok entries
  pub fit : All (EntryFits front) entries
  pub taken : new ≡ fold (with_entry front) old entries

-- the directory isn't listed, or an entry at this path isn't allowed in a bag
abbrev pub RefusesFront : Listing → List ℕ → List ℕ → List ℕ → Cause → Type 0
RefusesFront listing folder front path cause =
    ((path ≡ front) × (error : Error) × (listing (name_below folder front) ≡ Err error)
    × IsCauseOf error cause)
    ⊎ ((entries : List EntryShown) × (entry : EntryShown)
    × (listing (name_below folder front) ≡ Ok entries) × Contains entries entry
    × (path ≡ front ++ entry.name) × Forbids path entry.kind cause)
