-- What is visible of an open folder.
use Rattle.std.specs.Prelude.{◌≡◌, ◌∷◌, ℕ, Bool, true, All, List, [], Option, Some, None, Ok, Err, Result, IfSome, IsErr, IsSomeAnd, MatchResult, OnOk, codes, map, refl, slice_get}
use Rattle.std.specs.Io.KnownBytes.{ReadConsumes}
use Rattle.std.specs.declared.io.Error.{Error}
use Rattle.std.proofs.Common.{◌∙◌}
use Rattle.bag_path.specs.Paths.{is_payload}
use Rattle.bag_digest.specs.Failures.{one_more}
use Rattle.bag_rules.specs.Bags.{Bag, IsBagOf, paths_of}
use Rattle.bag_rules.specs.Trees.{AreRising, KeepsTree, Shown, paths_in}
use Rattle.bag_tags.specs.Words.{without}
use Rattle.bag_folder.specs.declared.root.Root.{Root}
use Rattle.bag_folder.specs.declared.root.Root.TheVariants.{Base, Payload}
use Rattle.bag_folder.specs.Directories.{IsBelow, IsUnfit, Listing, in_payload, name_below}
use Rattle.bag_folder.specs.DiskNames.{Standing, content, octets_under}
use Rattle.bag_folder.specs.Unfits.{IsCauseOf, IsToldAt, UnfitShown}

-- the file with this path and the octets of that path, if they are known
unfoldable pub file_with : (List ℕ → Option (List ℕ)) → List ℕ → List ℕ × Option (List ℕ)
file_with octets path = (path, octets path)

-- what is shown of the files with these paths
abbrev pub shown_by : (List ℕ → Option (List ℕ)) → List (List ℕ) → Bool → Shown
shown_by octets paths has_payload_dir = record {
  files = map (file_with octets) paths;
  has_payload_dir = has_payload_dir;
}

-- the path in the folder of the file with this path in the bag
abbrev pub path_below : Root → List ℕ → List ℕ
path_below Base path = path
path_below Payload path = without (codes "data/") path

-- the octets that stand below the folder under the name of the file with this path in the bag, if they are known
unfoldable pub octets_below : Option Standing → List ℕ → Root → List ℕ → Option (List ℕ)
octets_below known folder root path = octets_under known (name_below folder (path_below root path))

-- what reads of the open file will still give, if one is open, and if that is known
abbrev pub left_open : Option (Option (List ℕ)) → Option (List ℕ)
left_open None = None
left_open (Some left) = left

-- the name on disk of what has this path below the folder: that of the folder itself, if the path is empty
abbrev pub told_name : List ℕ → List ℕ → List ℕ
told_name folder [] = folder
told_name folder (octet ∷ path) = name_below folder (octet ∷ path)

-- its files, and whether there is a payload directory; the name of the folder; where its files belong in a bag; the
-- name of the last file looked up; what the open file will still give (if one is open, and if that is known); how many
-- times the folder has failed, and what couldn't be used the last time, if that is told; what stands under names, if
-- that is known
pub record FolderShown : Type 0 where
  pub standing : Option Standing
  pub shown : Shown
  pub folder : List ℕ
  pub root : Root
  pub name : List ℕ
  pub to_read : Option (Option (List ℕ))
  pub failures : ℕ
  pub trouble : Option UnfitShown

-- the paths are in order, and a payload file has its directory (RFC 8493 section 2.1.2)
pub record IsListing (paths : List (List ℕ)) (has_dir : Bool) : Type 0 where
  pub rising : AreRising paths
  pub payload : All (λ path. is_payload path ≡ true → has_dir ≡ true) paths

-- what is known of a disk: the entries of its directories, and what stands under names
pub record DiskShown : Type 0 where
  pub listing : Option Listing
  pub standing : Option Standing

abbrev pub disk_of : Option Listing → Option Standing → DiskShown
disk_of listing standing = record { listing = listing; standing = standing }

-- the disk as seen from a bag whose payload directory is the folder
abbrev pub disk_in_payload : DiskShown → List ℕ → DiskShown
disk_in_payload disk folder = record disk { listing = in_payload disk.listing folder }

-- the bag in a folder of a disk that is known: its files are those below the folder, with the octets under their names
pub record IsBagIn (disk : DiskShown) (folder : List ℕ) (root : Root) (bag : Bag) : Type 0 where
  pub listing : Listing
  pub lists : disk.listing ≡ Some listing
  pub below : IsBelow listing folder (paths_of bag) bag.has_payload_dir
  pub in_order : IsListing (paths_of bag) bag.has_payload_dir
  pub octets : All (λ (file : List ℕ × List ℕ).
      octets_below disk.standing folder root file.0 ≡ Some file.1) bag.files

-- A folder that was opened under this name: it shows what is below it, as far as the disk is known. No file is open,
-- and nothing has failed.
pub record IsOpened (disk : DiskShown) (folder : List ℕ) (root : Root)
    (tree : FolderShown) : Type 0 where
  pub named : tree.folder ≡ folder
  pub placed : tree.root ≡ root
  pub stands : tree.standing ≡ disk.standing
  pub closed : tree.to_read ≡ None
  pub not_failed : tree.failures ≡ 0
  pub no_trouble : tree.trouble ≡ None
  pub shows : (listing : Listing) → disk.listing ≡ Some listing
      → IsBelow listing folder (paths_in tree.shown) tree.shown.has_payload_dir
  pub gives : tree.shown ≡ shown_by (octets_below disk.standing folder root)
      (paths_in tree.shown) tree.shown.has_payload_dir
  pub is_bag : (bag : Bag) → IsBagIn disk folder root bag → IsBagOf tree.shown bag

-- The name is that of the folder or of something below it. If the entries of directories are known, the folder can't be
-- a bag because of that, and this is the cause.
pub record IsRefused (disk : DiskShown) (folder : List ℕ) (root : Root)
    (unfit : UnfitShown) : Type 0 where
  pub path : List ℕ
  pub named : unfit.path ≡ told_name folder (path_below root path)
  pub because : (listing : Listing) → disk.listing ≡ Some listing
      → IsUnfit listing folder path unfit.cause

-- A read consumes what it gives from the open file, which stays open. If no file is open, none is opened, and the read
-- fails.
abbrev pub ReadsOpen : {E : Type 0} → Option (Option (List ℕ)) → Option (Option (List ℕ))
    → Result ℕ E → List ℕ → Type 0
ReadsOpen None None result buf = IsErr result
ReadsOpen None (Some new) result buf = ⊥
ReadsOpen (Some old) None result buf = ⊥
ReadsOpen (Some old) (Some new) result buf = ReadConsumes old new result buf

-- a read changes what is left to read, and its failure is counted, and told of the file that is open
pub record ReadsFolder {E : Type 0} (old new : FolderShown) (result : Result ℕ E) (buf : List ℕ)
    : Type 0 where
  pub reads_on : ReadsOpen old.to_read new.to_read result buf
  pub changes : MatchResult result (λ _. new ≡ record old { to_read = new.to_read })
      (λ _. new ≡ record old {
        to_read = new.to_read;
        failures = one_more old.failures;
        trouble = new.trouble;
      })
  pub told : IsErr result → IsToldAt old.name new.trouble

-- A start opens the file at this index by its name below the folder, and its failure is counted, and told of that name.
-- No other file stays open.
pub record StartsFile {E : Type 0} (old new : FolderShown) (i : ℕ) (result : Result (Unit {0}) E)
    : Type 0 where
  pub named : OnOk result (IsSomeAnd (slice_get (paths_in old.shown) i)
      (λ path. new.name ≡ name_below old.folder (path_below old.root path)))
  pub changes : MatchResult result
      (λ _. new ≡ record old { name = new.name; to_read = new.to_read })
      (λ _. new ≡ record old {
        name = new.name;
        to_read = None;
        failures = one_more old.failures;
        trouble = new.trouble;
      })
  pub told : IsErr result → IfSome new.trouble (λ unfit.
      IsSomeAnd (slice_get (paths_in old.shown) i)
      (λ path. unfit.path ≡ name_below old.folder (path_below old.root path)))

-- the file that was opened is the one that the name leads to, and a failure is told with the cause of its error, if it
-- is known what stands there
abbrev pub OpensNamed : {A E : Type 0} → FolderShown → FolderShown → Result A E → Type 0
OpensNamed old new result = IfSome old.standing (λ known. MatchResult result
    (λ _. IsSomeAnd new.to_read (λ left. content known new.name ≡ Ok left))
    (λ _. IfSome new.trouble (λ unfit. (error : Error)
    × (content known unfit.path ≡ Err error) × IsCauseOf error unfit.cause)))

-- the same files
abbrev pub SameShown : FolderShown → FolderShown → Type 0
SameShown old new = new.shown ≡ old.shown

pub same_itself : (a : FolderShown) → SameShown a a
same_itself a = refl

pub same_on : (a b c : FolderShown) → SameShown a b → SameShown b c → SameShown a c
same_on a b c p q = q ∙ p

pub keeps_tree : (a b : FolderShown) → SameShown a b
    → KeepsTree (λ (tree : FolderShown). tree.shown) (λ (tree : FolderShown). ⊥) a b
keeps_tree a b same = record { same = same; stays_sure = λ never. never }
