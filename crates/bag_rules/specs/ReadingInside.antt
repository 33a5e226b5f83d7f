-- What reading the tag files of a bag adds to what was read and to the faults. Only private functions and the
-- definition of a plan cite these.
use Rattle.std.specs.Prelude.{◌≡◌, ◌≢◌, ◌⊎◌, ◌↔◌, ◌++◌, ℕ, List, [], ◌∷◌, Option, Some, None, Result, Ok, Err, IfErr, IfOk, take}
use Rattle.bag_path.specs.declared.version.Version.{Version}
use Rattle.bag_tags.specs.declared.tag_fault.LineCause.{LineCause}
use Rattle.bag_tags.specs.declared.tag_fault.LineFault.{LineFault}
use Rattle.bag_tags.specs.declared.tag_fault.TagFault.{TagFault}
use Rattle.bag_tags.specs.declared.tag_fault.TagFault.TheVariants.{Line}
use Rattle.bag_tags.specs.declared.tag_feed.TagValue.{TagValue}
use Rattle.bag_tags.specs.declared.tag_feed.TagValue.TheVariants as value
use Rattle.bag_tags.specs.declared.fetch.FetchLine.{FetchLine}
use Rattle.bag_tags.specs.Feeds.{IsFaultOf, IsTextFor}
use Rattle.bag_tags.specs.FetchText.{FetchText}
use Rattle.bag_tags.specs.Infos.{MetadataElement}
use Rattle.bag_tags.specs.InfoText.{InfoText}
use Rattle.bag_tags.specs.Listings.{Listing}
use Rattle.bag_tags.specs.Manifests.{ManifestText}
use Rattle.bag_tags.specs.TagLines.{Faults}
use Rattle.bag_rules.specs.declared.fault.Fault.{Fault}
use Rattle.bag_rules.specs.declared.fault.Fault.TheVariants.{BadLine}
use Rattle.bag_tags.specs.declared.name.LineFile.{LineFile}
use Rattle.bag_tags.specs.declared.name.LineFile.TheVariants.{Info, FetchList, Manifest}
use Rattle.bag_tags.specs.declared.name.ManifestName.{ManifestName}
use Rattle.bag_rules.specs.declared.tag_texts.TagTexts.{TagTexts}
use Rattle.bag_rules.specs.Bags.{Bag, HoldsFile, ListsBy, SaysInfoBy, ListsFetchBy, version_of}
use Rattle.bag_tags.specs.Names.{manifest_name, text_file}
use Rattle.bag_rules.specs.HasFault.{IsFaultyText, line_fault}
use Rattle.bag_rules.specs.Faults.{Has}

-- the new list has these faults in addition to those of the old one, and no others
abbrev pub Adds : List Fault → List Fault → (Fault → Type 0) → Type 0
Adds old new faults = (fault : Fault) → Has new fault ↔ (Has old fault ⊎ faults fault)

abbrev pub name_in : Listing → ManifestName
name_in listing = manifest_name listing.kind listing.alg

-- the first n files of a bag
abbrev pub front : ℕ → Bag → Bag
front n bag = record bag { files = take n bag.files }

-- these are what the tag files say among the first n files, by the version of the bag
pub record AreTextsOf (n : ℕ) (bag : Bag) (texts : TagTexts) : Type 0 where
  pub info : (elements : List MetadataElement) → (texts.info ≡ Some elements)
      ↔ SaysInfoBy (version_of bag) (front n bag) elements
  pub fetch : (lines : List FetchLine) → (texts.fetch ≡ Some lines)
      ↔ ListsFetchBy (version_of bag) (front n bag) lines
  pub manifests : (listing : Listing) → Has texts.manifests.items listing
      ↔ ListsBy (version_of bag) (front n bag) (name_in listing) listing.pairs

-- these are the lines of `fetch.txt`, or there are none
abbrev pub AreLinesOf : TagTexts → List FetchLine → Type 0
AreLinesOf texts lines = (texts.fetch ≡ Some lines) ⊎ ((texts.fetch ≡ None) × (lines ≡ []))

-- the text of this manifest gives this listing
abbrev pub GivesListing : Version → ManifestName → List ℕ → Listing → Type 0
GivesListing version name octets listing = (name_in listing ≡ name)
    × ManifestText version listing.alg listing.kind octets listing.pairs

-- the text of a tag file replaces the value that was there, or adds a listing if it is a manifest
abbrev pub ReadsText : Version → LineFile → List ℕ → TagTexts → TagTexts → Type 0
ReadsText version Info octets old new = ((elements : List MetadataElement)
    → (new.info ≡ Some elements) ↔ InfoText version octets elements)
    × (new.fetch ≡ old.fetch) × (new.manifests.items ≡ old.manifests.items)
ReadsText version FetchList octets old new =
    ((lines : List FetchLine) → (new.fetch ≡ Some lines) ↔ FetchText version octets lines)
    × (new.info ≡ old.info) × (new.manifests.items ≡ old.manifests.items)
ReadsText version (Manifest name) octets old new =
    ((listing : Listing) → Has new.manifests.items listing
    ↔ (Has old.manifests.items listing ⊎ GivesListing version name octets listing))
    × (new.info ≡ old.info) × (new.fetch ≡ old.fetch)

-- a file is read if it is such a tag file; otherwise nothing changes
pub record ReadsOn (version : Version) (path octets : List ℕ) (old new : TagTexts) : Type 0 where
  pub reads : (file : LineFile) → path ≡ text_file file → ReadsText version file octets old new
  pub leaves : ((file : LineFile) → path ≢ text_file file) → (new.info ≡ old.info)
      × (new.fetch ≡ old.fetch) × (new.manifests.items ≡ old.manifests.items)

-- the first faulty line of a tag file's text
abbrev pub IsFirstBadLine : Version → LineFile → List ℕ → Fault → Type 0
IsFirstBadLine version file octets fault = (line : ℕ)
    × ((cause : LineCause) × IsFaultyText version file octets (line_fault line cause)
    × (fault ≡ BadLine file line cause))

-- among the first n files of the bag a tag file has this first faulty line, by the version of the bag
pub record HasBadLine (n : ℕ) (bag : Bag) (fault : Fault) : Type 0 where
  pub file : LineFile
  pub octets : List ℕ
  pub there : HoldsFile (front n bag) (text_file file) octets
  pub bad : IsFirstBadLine (version_of bag) file octets fault

abbrev pub IsBadLineOf : Version → List ℕ → List ℕ → Fault → Type 0
IsBadLineOf version path octets fault = (file : LineFile) × (path ≡ text_file file)
    × IsFirstBadLine version file octets fault

-- what was read of a text is what it says, or its first fault
pub record IsReadOf (version : Version) (file : LineFile) (octets : List ℕ)
    (read : Result TagValue TagFault) : Type 0 where
  pub value : IfOk read (IsTextFor version file octets)
  pub fault : IfErr read (Faults (IsFaultOf version file octets))

-- the value that was read, and the same faults; or no value, and a fault for its first faulty line
abbrev pub ValueOf : Result TagValue TagFault → LineFile → List Fault → List Fault
    → Option TagValue → Type 0
ValueOf read file old new (Some value) = (read ≡ Ok value) × (new ≡ old)
ValueOf read file old new None = (fault : LineFault) × (read ≡ Err (Line fault))
    × (new ≡ old ++ BadLine file fault.line fault.cause ∷ [])

-- what a value says if it is that of a `bag-info.txt`, of a `fetch.txt` or of a manifest
abbrev pub info_in : Option TagValue → Option (List MetadataElement)
info_in (Some (value.Info elements)) = Some elements
info_in _ = None

abbrev pub fetch_in : Option TagValue → Option (List FetchLine)
fetch_in (Some (value.Fetch lines)) = Some lines
fetch_in _ = None

abbrev pub manifest_in : Option TagValue → Option Listing
manifest_in (Some (value.Manifest listing)) = Some listing
manifest_in _ = None

-- the listings after a manifest was read: one more, or the same
abbrev pub listings_now : Option Listing → List Listing → List Listing
listings_now (Some listing) listings = listings ++ listing ∷ []
listings_now None listings = listings

-- a value is put in the place of the one that was there, or is one more if the file is a manifest
abbrev pub PutsValue : LineFile → Option TagValue → TagTexts → TagTexts → Type 0
PutsValue Info v old new = (new.info ≡ info_in v) × (new.fetch ≡ old.fetch)
    × (new.manifests.items ≡ old.manifests.items)
PutsValue FetchList v old new = (new.fetch ≡ fetch_in v) × (new.info ≡ old.info)
    × (new.manifests.items ≡ old.manifests.items)
PutsValue (Manifest name) v old new =
    (new.manifests.items ≡ listings_now (manifest_in v) old.manifests.items)
    × (new.info ≡ old.info) × (new.fetch ≡ old.fetch)
