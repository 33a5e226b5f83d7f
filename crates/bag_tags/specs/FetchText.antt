-- The text of `fetch.txt` (RFC 8493 section 2.2.3).
use Rattle.std.specs.Prelude.{◌≡◌, ◌⊎◌, ◌<◌, ◌^◌, ◌++◌, ℕ, true, List, [], ◌∷◌, Option, Some, None, codes}
use Rattle.std.specs.List.{AllByRecursion}
use Rattle.bag_path.specs.declared.path.PathFault.{PathFault}
use Rattle.bag_path.specs.declared.version.Version.{Version}
use Rattle.bag_path.specs.Paths.{IsPath, is_payload}
use Rattle.bag_path.specs.Spellings.{Spells}
use Rattle.bag_tags.specs.declared.tag_fault.LineCause.{LineCause}
use Rattle.bag_tags.specs.declared.tag_fault.LineCause.TheVariants.{NoSeparator, BadUrl, BadLength, BadPath, WrongPlace}
use Rattle.bag_tags.specs.declared.tag_fault.LineFault.{LineFault}
use Rattle.bag_tags.specs.Numerals.{IsNumeral}
use Rattle.bag_tags.specs.Words.{IsNotBlank, IsCut}
use Rattle.bag_tags.specs.TagLines.{IsTextOf, IsFirstFault}
use Rattle.bag_tags.specs.Manifests.{SpellsNoPath}
use Rattle.bag_tags.specs.declared.fetch.FetchLine.{FetchLine}
use Rattle.bag_tags.specs.FetchEntries.{FetchItem, IsUrl}
use Rattle.bag_tags.specs.Fetches.{fetch_line}

-- The line is a URL, blanks, a length, blanks and the text of a path.
pub record AreWords (text url length path_text : List ℕ) : Type 0 where
  pub after_url : List ℕ
  pub rest : List ℕ
  pub after_length : List ℕ
  pub url_cut : IsCut text url after_url rest
  pub length_cut : IsCut rest length after_length path_text

-- a length: `-`, or a numeral of a number below 2^64 (that leading zeros are accepted is this project's own)
abbrev pub IsLength : List ℕ → Option ℕ → Type 0
IsLength text None = text ≡ codes "-"
IsLength text (Some n) = IsNumeral text n × (n < 2 ^ 64)

-- The line gives this entry.
pub record GivesEntry (version : Version) (text : List ℕ) (entry : FetchItem) : Type 0 where
  pub length : List ℕ
  pub path_text : List ℕ
  pub words : AreWords text entry.url length path_text
  pub is_url : IsUrl entry.url
  pub is_length : IsLength length entry.octets
  pub spells : Spells version entry.path path_text
  pub is_path : IsPath entry.path

-- a line adds the entry that it gives, if it is for a payload file, with the number of the line
pub record AddsEntry (version : Version) (before : List FetchLine) (number : ℕ) (text : List ℕ)
    (after : List FetchLine) : Type 0 where
  pub entry : FetchItem
  pub gives : GivesEntry version text entry
  pub payload : is_payload entry.path ≡ true
  pub adds : after ≡ before ++ fetch_line number entry ∷ []

-- the octets are the text of these entries, in this order
abbrev pub FetchText : Version → List ℕ → List FetchLine → Type 0
FetchText version octets lines = IsTextOf (AddsEntry version) [] octets lines

-- there is no blank after the URL, or none after the length
abbrev pub LacksWord : List ℕ → Type 0
LacksWord text = AllByRecursion IsNotBlank text
    ⊎ ((url : List ℕ) × ((blanks : List ℕ) × ((rest : List ℕ)
    × IsCut text url blanks rest × AllByRecursion IsNotBlank rest)))

-- The line has its words, but the first is not a URL.
pub record HasBadUrl (text : List ℕ) : Type 0 where
  pub url : List ℕ
  pub length : List ℕ
  pub path_text : List ℕ
  pub words : AreWords text url length path_text
  pub no_url : ¬ IsUrl url

-- The line has a URL, but the word after it is not a length.
pub record HasBadLength (text : List ℕ) : Type 0 where
  pub url : List ℕ
  pub length : List ℕ
  pub path_text : List ℕ
  pub words : AreWords text url length path_text
  pub is_url : IsUrl url
  pub no_length : (number : Option ℕ) → ¬ IsLength length number

-- The line has a URL and a length, but the text after them spells no path.
pub record HasNoPath (version : Version) (text : List ℕ) (fault : PathFault) : Type 0 where
  pub url : List ℕ
  pub length : List ℕ
  pub path_text : List ℕ
  pub number : Option ℕ
  pub words : AreWords text url length path_text
  pub is_url : IsUrl url
  pub is_length : IsLength length number
  pub no_path : SpellsNoPath fault version path_text

-- The line gives an entry for a path that is not that of a payload file.
pub record HasOtherPath (version : Version) (text : List ℕ) : Type 0 where
  pub entry : FetchItem
  pub gives : GivesEntry version text entry
  pub no_payload : ¬ (is_payload entry.path ≡ true)

-- the first cause for which a line gives no entry for a payload file
abbrev pub GivesNoEntry : Version → List ℕ → LineCause → Type 0
GivesNoEntry version text NoSeparator = LacksWord text
GivesNoEntry version text BadUrl = HasBadUrl text
GivesNoEntry version text BadLength = HasBadLength text
GivesNoEntry version text (BadPath fault) = HasNoPath version text fault
GivesNoEntry version text WrongPlace = HasOtherPath version text
GivesNoEntry version text _ = ⊥

-- the same; it doesn't depend on the lines before this one
abbrev pub RefusesFetchLine : Version → List FetchLine → List ℕ → LineCause → Type 0
RefusesFetchLine version before text cause = GivesNoEntry version text cause

-- the first fault of a text that lists nothing
abbrev pub FetchFault : Version → List ℕ → LineFault → Type 0
FetchFault version octets fault = IsFirstFault (AddsEntry version)
    (RefusesFetchLine version) [] octets fault
