-- Bags (RFC 8493 section 2), as trees hold them.
use Rattle.std.specs.Prelude.{◌≡◌, ◌+◌, ℕ, Bool, true, List, [], ◌∷◌, Option, Some, None, length, map, codes}
use Rattle.std.specs.List.{slice_get, filter}
use Rattle.std.specs.Map.{lookup}
use Rattle.std.specs.Str.{bytes_eq}
use Rattle.bag_path.specs.declared.version.Version.{Version}
use Rattle.bag_path.specs.declared.version.Version.TheVariants.{V1}
use Rattle.bag_path.specs.Paths.{is_payload}
use Rattle.bag_tags.specs.declared.listing.Pair.{Pair}
use Rattle.bag_tags.specs.declared.fetch.FetchLine.{FetchLine}
use Rattle.bag_tags.specs.declared.declaration.Declaration.{Declaration}
use Rattle.bag_tags.specs.Declarations.{IsDeclaration, declared_version, version_of as known_version}
use Rattle.bag_tags.specs.Infos.{MetadataElement}
use Rattle.bag_tags.specs.InfoText.{InfoText}
use Rattle.bag_tags.specs.FetchText.{FetchText}
use Rattle.bag_tags.specs.Manifests.{ManifestText}
use Rattle.bag_tags.specs.Names.{file_of, text_file}
use Rattle.bag_tags.specs.declared.name.ManifestName.{ManifestName}
use Rattle.bag_tags.specs.declared.name.LineFile.TheVariants.{Info, FetchList}
use Rattle.bag_rules.specs.Trees.{HasFileAt, Shown, paths_in}

-- The files of a base directory by path, each with its octets, and whether the payload directory is there. The paths in
-- the bag of a tree are in ascending order, so the list is determined by the files.
pub record Bag : Type 0 where
  pub files : List (List ℕ × List ℕ)
  pub has_payload_dir : Bool

abbrev pub paths_of : Bag → List (List ℕ)
paths_of bag = map (λ (file : List ℕ × List ℕ). file.0) bag.files

-- the bag holds these octets at the path
abbrev pub HoldsFile : Bag → List ℕ → List ℕ → Type 0
HoldsFile bag path octets = (i : ℕ) × (slice_get bag.files i ≡ Some (path, octets))

-- some file has the path
abbrev pub IsThere : Bag → List ℕ → Type 0
IsThere bag path = (octets : List ℕ) × HoldsFile bag path octets

-- what a tree of these files shows if all octets are known
abbrev pub shown_of : Bag → Shown
shown_of bag = record {
  files = map (λ (file : List ℕ × List ℕ). (file.0, Some file.1)) bag.files;
  has_payload_dir = bag.has_payload_dir;
}

-- the files that are shown are those of the bag, and their octets are known
abbrev pub IsBagOf : Shown → Bag → Type 0
IsBagOf shown bag = shown ≡ shown_of bag

-- the bag has the files that are shown, whatever octets they have
pub record HasFilesOf (shown : Shown) (bag : Bag) : Type 0 where
  pub paths : paths_of bag ≡ paths_in shown
  pub payload_dir : bag.has_payload_dir ≡ shown.has_payload_dir

-- the same, and each file whose octets are known has these octets
pub record IsSomeBagOf (shown : Shown) (bag : Bag) : Type 0 where
  pub files : HasFilesOf shown bag
  pub octets : (i : ℕ) (path octets : List ℕ) → HasFileAt shown i path octets
      → slice_get bag.files i ≡ Some (path, octets)

-- TAG FILES

-- the declaration (section 2.1.1)
abbrev pub declaration_file : List ℕ
declaration_file = codes "bagit.txt"

-- the bag has the declaration, and it declares this
abbrev pub Declares : Bag → Declaration → Type 0
Declares bag declaration = (octets : List ℕ) × HoldsFile bag declaration_file octets
    × IsDeclaration octets declaration

-- the version that the text of `bagit.txt` declares (without this file no tag file is read, so the version doesn't
-- matter)
abbrev pub version_in : Option (List ℕ) → Version
version_in (Some octets) = declared_version octets
version_in None = V1

-- the version by whose rules the tag files of the bag are read: the one that it declares
abbrev pub version_of : Bag → Version
version_of bag = version_in (lookup (bytes_eq declaration_file) bag.files)

-- the bag declares UTF-8 and a known version, which is `version_of`
pub record IsDeclared (bag : Bag) : Type 0 where
  pub declaration : Declaration
  pub declares : Declares bag declaration
  pub version_is : known_version declaration ≡ Some (version_of bag)
  pub in_utf8 : declaration.utf8 ≡ true

-- the bag has the manifest, which lists these pairs if read by this version
pub record ListsBy (version : Version) (bag : Bag) (name : ManifestName) (pairs : List Pair)
    : Type 0 where
  pub octets : List ℕ
  pub there : HoldsFile bag (file_of name) octets
  pub text : ManifestText version name.alg name.kind octets pairs

-- the bag has `bag-info.txt`, which says these elements if read by this version
pub record SaysInfoBy (version : Version) (bag : Bag) (elements : List MetadataElement)
    : Type 0 where
  pub octets : List ℕ
  pub there : HoldsFile bag (text_file Info) octets
  pub text : InfoText version octets elements

-- the bag has `fetch.txt`; these are its entries if read by this version, each with its line number
pub record ListsFetchBy (version : Version) (bag : Bag) (lines : List FetchLine) : Type 0 where
  pub octets : List ℕ
  pub there : HoldsFile bag (text_file FetchList) octets
  pub text : FetchText version octets lines

-- the same by the version of the bag
abbrev pub Lists : Bag → ManifestName → List Pair → Type 0
Lists bag = ListsBy (version_of bag) bag

abbrev pub SaysInfo : Bag → List MetadataElement → Type 0
SaysInfo bag = SaysInfoBy (version_of bag) bag

abbrev pub ListsFetch : Bag → List FetchLine → Type 0
ListsFetch bag = ListsFetchBy (version_of bag) bag

-- PAYLOAD

-- the files below `data/` (section 2.1.2)
abbrev pub payload_of : List (List ℕ × List ℕ) → List (List ℕ × List ℕ)
payload_of files = filter (λ (file : List ℕ × List ℕ). is_payload file.0) files

-- the number of octets in all of these files
unfoldable pub octet_count : List (List ℕ × List ℕ) → ℕ
octet_count [] = 0
octet_count (file ∷ files) = length file.1 + octet_count files
