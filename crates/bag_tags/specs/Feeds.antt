-- Text tag files that are fed in pieces.
use Rattle.std.specs.Prelude.{◌≡◌, ◌≤◌, ◌++◌, ℕ, List, [], Option, Some, None, length}
use Rattle.bag_path.specs.declared.version.Version.{Version}
use Rattle.bag_path.specs.Lines.{lines_of}
use Rattle.bag_tags.specs.declared.tag_fault.LineFault.{LineFault}
use Rattle.bag_tags.specs.declared.tag_fault.TagFault.{TagFault}
use Rattle.bag_tags.specs.declared.tag_fault.TagFault.TheVariants.{Line, Memory}
use Rattle.bag_tags.specs.declared.tag_feed.TagFeed.{TagFeed}
use Rattle.bag_tags.specs.declared.tag_feed.TagValue.{TagValue}
use Rattle.bag_tags.specs.declared.tag_feed.TagValue.TheVariants as value
use Rattle.bag_tags.specs.declared.last_line.LastLine.{LastLine}
use Rattle.bag_tags.specs.declared.name.LineFile.{LineFile}
use Rattle.bag_tags.specs.declared.name.LineFile.TheVariants.{Info, FetchList, Manifest}
use Rattle.bag_tags.specs.FetchText.{AddsEntry, FetchText, FetchFault}
use Rattle.bag_tags.specs.InfoText.{AddsInfo, InfoText, InfoFault}
use Rattle.bag_tags.specs.Listings.{nothing_listed}
use Rattle.bag_tags.specs.Manifests.{AddsPair, ManifestText, ManifestFault}
use Rattle.bag_tags.specs.Pieces.{Awaits, IsBegun}
use Rattle.bag_tags.specs.TagLines.{mark}
use Rattle.bag_tags.specs.Words.{without}

-- the octets are the text of a tag file that says this
abbrev pub IsTextFor : Version → LineFile → List ℕ → TagValue → Type 0
IsTextFor version Info octets (value.Info elements) = InfoText version octets elements
IsTextFor version FetchList octets (value.Fetch lines) = FetchText version octets lines
IsTextFor version (Manifest name) octets (value.Manifest listing) = (listing.alg ≡ name.alg)
    × (listing.kind ≡ name.kind) × ManifestText version name.alg name.kind octets listing.pairs
IsTextFor _ _ _ _ = ⊥

-- the first fault of the text of a tag file
abbrev pub IsFaultOf : Version → LineFile → List ℕ → LineFault → Type 0
IsFaultOf version Info octets fault = InfoFault version octets fault
IsFaultOf version FetchList octets fault = FetchFault version octets fault
IsFaultOf version (Manifest name) octets fault =
    ManifestFault version name.alg name.kind octets fault

-- of all octets these are left, and what was read of the others leads to this value
abbrev pub AwaitsFor : Version → LineFile → List ℕ → List ℕ → LastLine → TagValue → Type 0
AwaitsFor version Info all left last (value.Info elements) =
    Awaits (AddsInfo version) [] all left last elements
AwaitsFor version FetchList all left last (value.Fetch lines) =
    Awaits (AddsEntry version) [] all left last lines
AwaitsFor version (Manifest name) all left last (value.Manifest listing) =
    Awaits (AddsPair version) (nothing_listed name.alg name.kind) all left last listing
AwaitsFor _ _ _ _ _ _ = ⊥

-- the fault that a feed has met
abbrev pub fault_of : TagFeed → Option TagFault
fault_of feed = feed.fault

-- Whatever follows these octets: without a fault, the feed goes on with what follows; after one, it is the first fault
-- of the whole text.
abbrev pub StandsAt : Version → LineFile → List ℕ → TagFeed → Option TagFault → Type 0
StandsAt version file octets feed None =
    (more : List ℕ) → AwaitsFor version file (octets ++ more) more feed.last feed.value
StandsAt version file octets feed (Some (Line fault)) =
    (more : List ℕ) → IsFaultOf version file (octets ++ more) fault
StandsAt version file octets feed (Some Memory) = Unit {0}

-- a feed of this value without a line and without a fault
pub record IsNewFeed (value : TagValue) (version : Version) (feed : TagFeed) : Type 0 where
  pub value_is : feed.value ≡ value
  pub version_is : feed.version ≡ version
  pub begun : IsBegun feed.last
  pub no_fault : feed.fault ≡ None

-- no line of these octets but the last one is faulty
abbrev pub IsFaultlessBeforeLast : Version → LineFile → List ℕ → Type 0
IsFaultlessBeforeLast version file octets = (fault : LineFault)
    → IsFaultOf version file octets fault → length (lines_of (without mark octets)) ≤ fault.line

-- these octets were fed, in any number of pieces
pub record Fed (version : Version) (file : LineFile) (octets : List ℕ) (feed : TagFeed)
    : Type 0 where
  pub by_version : feed.version ≡ version
  pub stands : StandsAt version file octets feed feed.fault
