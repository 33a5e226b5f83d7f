-- Open files of a folder, which are values.
use Rattle.std.specs.Prelude.{◌≡◌, ℕ, List, Option, None, Result, Ok, Err, IfErr, IfSome, IsErr, IsSomeAnd, MatchResult, is_some, option_map, slice_get}
use Rattle.std.specs.Io.KnownBytes.{ReadConsumes}
use Rattle.std.specs.declared.io.Error.{Error}
use Rattle.bag_digest.specs.Failures.{one_more}
use Rattle.bag_rules.specs.OpenTrees.{IsOpened, LeavesRest}
use Rattle.bag_rules.specs.Trees.{Shown, paths_in}
use Rattle.bag_folder.specs.declared.fault.Cause.{Cause}
use Rattle.bag_folder.specs.Directories.{name_below}
use Rattle.bag_folder.specs.Folders.{FolderShown, SameShown, left_open, path_below}
use Rattle.bag_folder.specs.DiskNames.{Standing, content, octets_of, octets_under}
use Rattle.bag_folder.specs.Unfits.{IsCauseOf, UnfitShown}

-- its place in the tree, and its name on disk; what it will still give, if that is known, or why it couldn't be opened;
-- how many times it has failed, and why the last time
pub record FileShown : Type 0 where
  pub place : ℕ
  pub name : List ℕ
  pub opened : Result (Option (List ℕ)) Cause
  pub failures : ℕ
  pub cause : Option Cause

-- what is left of a file, or why it couldn't be opened
abbrev pub left_in : {File : Type 0} → (File → Option (List ℕ)) → Result File Cause
    → Result (Option (List ℕ)) Cause
left_in left (Ok file) = Ok (left file)
left_in left (Err why) = Err why

-- what couldn't be used, if it has failed
abbrev pub trouble_of : FileShown → Option UnfitShown
trouble_of file = option_map (λ cause. record { path = file.name; cause = cause }) file.cause

-- the file that this name leads to was opened, or this is the cause why it can't be
abbrev pub IsOpenAt : Standing → List ℕ → Result (Option (List ℕ)) Cause → Type 0
IsOpenAt standing name opened = MatchResult opened (λ left. content standing name ≡ Ok left)
    (λ why. (error : Error) × (content standing name ≡ Err error) × IsCauseOf error why)

-- A file that was opened by this name, and stands at this place of its tree. It has not failed, whether or not it could
-- be opened.
pub record IsFileAt (known : Option Standing) (name : List ℕ) (place : ℕ) (file : FileShown)
    : Type 0 where
  pub placed : file.place ≡ place
  pub named : file.name ≡ name
  pub stands : IfSome known (λ standing. IsOpenAt standing name file.opened)
  pub unread : octets_of file.opened ≡ octets_under known name
  pub unfailed : file.failures ≡ 0
  pub no_trouble : file.cause ≡ None

-- the file at this place of a folder was opened by its name below the folder
abbrev pub OpensFile : FolderShown → ℕ → FileShown → Type 0
OpensFile tree i file = IsSomeAnd (slice_get (paths_in tree.shown) i)
    (λ path. IsFileAt tree.standing (name_below tree.folder (path_below tree.root path)) i file)

-- A read consumes what it gives of a file that is open, which stays open. If the file couldn't be opened, the read
-- fails.
abbrev pub ReadsOpened : {E : Type 0} → Result (Option (List ℕ)) Cause
    → Result (Option (List ℕ)) Cause → Result ℕ E → List ℕ → Type 0
ReadsOpened (Ok old) (Ok new) result buf = ReadConsumes old new result buf
ReadsOpened (Ok old) (Err why) result buf = ⊥
ReadsOpened (Err why) (Ok new) result buf = ⊥
ReadsOpened (Err why) (Err now) result buf = (now ≡ why) × IsErr result

-- A read changes what is left to read. Its failure is counted, and its cause is kept: if the file couldn't be opened,
-- that cause.
pub record ReadsFile {E : Type 0} (old new : FileShown) (result : Result ℕ E) (buf : List ℕ)
    : Type 0 where
  pub reads_on : ReadsOpened old.opened new.opened result buf
  pub changes : MatchResult result (λ _. new ≡ record old { opened = new.opened })
      (λ _. new ≡ record old {
        opened = new.opened;
        failures = one_more old.failures;
        cause = new.cause;
      })
  pub told : IsErr result → IsSomeAnd new.cause (λ cause. IfErr old.opened (λ why. cause ≡ why))

-- the same place
abbrev pub SamePlace : FileShown → FileShown → Type 0
SamePlace old new = new.place ≡ old.place

-- what a tree of files says of a file that it gives out
abbrev pub IsGivenOut : Shown → ℕ → FileShown → Type 0
IsGivenOut shown i file = IsOpened (λ (file : FileShown). file.place)
    (λ (file : FileShown). octets_of file.opened) (λ (file : FileShown). file.failures)
    (λ (file : FileShown). ⊥) shown ⊥ i file

-- what it says of itself then, and when it takes a file back
abbrev pub LeavesFolder : FolderShown → FolderShown → Type 0
LeavesFolder old new = LeavesRest SameShown (λ (tree : FolderShown). left_open tree.to_read)
    (λ (tree : FolderShown). is_some tree.to_read) (λ (tree : FolderShown). ⊥) old new
