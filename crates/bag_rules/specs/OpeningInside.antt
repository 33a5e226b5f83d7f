-- What the tag files of a transfer say, as they are read. Only private functions cite these; Opening defines how they
-- open.
use Rattle.std.specs.Prelude.{◌≡◌, ◌<◌, ◌==◌, ℕ, true, List, length}
use Rattle.std.specs.List.{list_any}
use Rattle.bag_path.specs.declared.version.Version.{Version}
use Rattle.bag_path.specs.Lines.{lines_of}
use Rattle.bag_tags.specs.declared.listing.Kind.TheVariants.{Payload, Tag}
use Rattle.bag_tags.specs.declared.name.LineFile.{LineFile}
use Rattle.bag_tags.specs.Listings.{Listing, lists_path}
use Rattle.bag_tags.specs.Names.{text_file}
use Rattle.bag_rules.specs.declared.fault.Fault.{Fault}
use Rattle.bag_rules.specs.declared.limits.TheConstants.{MOST_LINES}
use Rattle.bag_rules.specs.Faults.{Has, number_of}
use Rattle.bag_rules.specs.Bags.{version_of}
use Rattle.bag_rules.specs.Files.{AreTagFiles, Files}
use Rattle.bag_rules.specs.FilesInside.{IsMissingBy, IsWrongIn, OfSome}
use Rattle.bag_rules.specs.Limits.{HasCountedLines}
use Rattle.bag_rules.specs.Opening.{HasOpeningFault}
use Rattle.bag_rules.specs.Transfers.{tag_bag}
use Rattle.bag_rules.specs.Verdicts.{IsInScope}

-- this is the path of a manifest or of `fetch.txt`, which has more than 100,000 lines
abbrev pub HasTooManyLines : List ℕ → List ℕ → Type 0
HasTooManyLines path octets = (file : LineFile) × (path ≡ text_file file) × HasCountedLines file
    × (MOST_LINES < length (lines_of octets))

-- some payload manifest among these lists the path
abbrev pub IsListedIn : List Listing → List ℕ → Type 0
IsListedIn listings path = (listing : Listing) × Has listings listing × (listing.kind ≡ Payload)
    × (lists_path listing.pairs path ≡ true)

-- tag files in scope, which are read by this version
pub record AreReadBy (version : Version) (tags : Files) : Type 0 where
  pub tag_files : AreTagFiles tags
  pub in_scope : IsInScope (tag_bag tags)
  pub version_is : version_of (tag_bag tags) ≡ version

-- a fault of one of these kinds that payload files can't mend
abbrev pub HasOpeningFaultOf : Files → List ℕ → Fault → Type 0
HasOpeningFaultOf tags kinds fault = HasOpeningFault tags fault
    × (list_any (λ kind. kind == number_of fault) kinds ≡ true)

-- a file that a tag manifest lists and that is not there
abbrev pub IsTagMissing : List (List ℕ) → Listing → Fault → Type 0
IsTagMissing paths listing fault = (listing.kind ≡ Tag) × IsMissingBy paths listing fault

-- some manifest lists another digest for the file than it has
abbrev pub IsWrongFile : List Listing → List ℕ × List ℕ → Fault → Type 0
IsWrongFile listings file = OfSome listings (IsWrongIn file.0 file.1)
