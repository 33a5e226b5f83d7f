-- The text of `bag-info.txt` (RFC 8493 section 2.2.2).
use Rattle.std.specs.Prelude.{◌≡◌, ◌≢◌, ◌⊎◌, ◌++◌, ℕ, true, false, List, [], ◌∷◌}
use Rattle.bag_tags.specs.Octets.{colon}
use Rattle.std.specs.List.{AllByRecursion}
use Rattle.bag_path.specs.declared.version.Version.{Version}
use Rattle.bag_path.specs.declared.version.Version.TheVariants.{V1, V097}
use Rattle.bag_tags.specs.declared.tag_fault.LineCause.{LineCause}
use Rattle.bag_tags.specs.declared.tag_fault.LineCause.TheVariants.{NoSeparator, BadLabel, NothingToContinue}
use Rattle.bag_tags.specs.declared.tag_fault.LineFault.{LineFault}
use Rattle.bag_tags.specs.Words.{IsBlank, IsNotBlank, begins_blank, ends_blank}
use Rattle.bag_tags.specs.TagLines.{IsTextOf, IsFirstFault}
use Rattle.bag_tags.specs.Infos.{MetadataElement, element_with_line, IsFit, IsNotColon}

-- The line is indented: it is blanks followed by this, which begins with no blank.
pub record IsIndented (text line : List ℕ) : Type 0 where
  pub blanks : List ℕ
  pub whole : text ≡ blanks ++ line
  pub some_blank : blanks ≢ []
  pub only_blanks : AllByRecursion IsBlank blanks
  pub line_begins : begins_blank line ≡ false

-- The line is what comes before its first colon, the colon, and what follows.
pub record HasColon (text before after : List ℕ) : Type 0 where
  pub whole : text ≡ before ++ colon ∷ after
  pub first_colon : AllByRecursion IsNotColon before

-- What comes before the colon is the label. In version 0.97 blanks may follow the label.
abbrev pub HasLabel : Version → List ℕ → List ℕ → Type 0
HasLabel V1 before label = before ≡ label
HasLabel V097 before label = (blanks : List ℕ) × (before ≡ label ++ blanks)
    × AllByRecursion IsBlank blanks × (ends_blank label ≡ false)

-- What follows the colon is one blank and the first line of the value. It may also be nothing, and then the first line
-- is empty (this project's own: the RFC requires the blank). In version 0.97 it is any number of blanks and the first
-- line, which begins with no blank.
abbrev pub HasFirstLine : Version → List ℕ → List ℕ → Type 0
HasFirstLine V1 [] first = first ≡ []
HasFirstLine V1 (blank ∷ rest) first = IsBlank blank × (first ≡ rest)
HasFirstLine V097 after first = (blanks : List ℕ) × (after ≡ blanks ++ first)
    × AllByRecursion IsBlank blanks × (begins_blank first ≡ false)

-- The line is a label, a colon, and the first line of a value.
pub record HasParts (version : Version) (text label first : List ℕ) : Type 0 where
  pub before : List ℕ
  pub after : List ℕ
  pub colon : HasColon text before after
  pub label_is : HasLabel version before label
  pub first_line : HasFirstLine version after first

-- The line gives this element.
pub record GivesElement (version : Version) (text : List ℕ) (element : MetadataElement)
    : Type 0 where
  pub parts : HasParts version text element.label element.value
  pub fit : IsFit element.label

-- an indented line continues the value of the last element
pub record Continues (before : List MetadataElement) (text : List ℕ)
    (after : List MetadataElement) : Type 0 where
  pub earlier : List MetadataElement
  pub last : MetadataElement
  pub line : List ℕ
  pub indented : IsIndented text line
  pub has_last : before ≡ earlier ++ last ∷ []
  pub continues : after ≡ earlier ++ element_with_line last line ∷ []

-- any other line adds the element that it gives
pub record AddsElement (version : Version) (before : List MetadataElement) (text : List ℕ)
    (after : List MetadataElement) : Type 0 where
  pub element : MetadataElement
  pub gives : GivesElement version text element
  pub adds : after ≡ before ++ element ∷ []

-- what a line that isn't blank adds to the elements before it
abbrev pub AddsInfo : Version → List MetadataElement → ℕ → List ℕ → List MetadataElement → Type 0
AddsInfo version before number text after = Continues before text after
    ⊎ AddsElement version before text after

-- the octets are the text of these elements, in this order
abbrev pub InfoText : Version → List ℕ → List MetadataElement → Type 0
InfoText version octets elements = IsTextOf (AddsInfo version) [] octets elements

-- A line without a separator: it has no colon or, in version 1.0, something other than a blank after the first colon.
abbrev pub LacksSeparator : Version → List ℕ → Type 0
LacksSeparator V1 text = AllByRecursion IsNotColon text
    ⊎ ((label : List ℕ) × ((octet : ℕ) × ((rest : List ℕ)
    × HasColon text label (octet ∷ rest) × IsNotBlank octet)))
LacksSeparator V097 text = AllByRecursion IsNotColon text

-- the first cause for which a line that isn't indented gives no element
abbrev pub GivesNoElement : Version → List ℕ → LineCause → Type 0
GivesNoElement version text NoSeparator = LacksSeparator version text
GivesNoElement version text BadLabel = (label : List ℕ) × ((first : List ℕ)
    × HasParts version text label first × ¬ IsFit label)
GivesNoElement version text _ = ⊥

-- the first cause for which a line adds nothing
abbrev pub RefusesInfo : Version → List MetadataElement → List ℕ → LineCause → Type 0
RefusesInfo version before text NothingToContinue = (begins_blank text ≡ true) × (before ≡ [])
RefusesInfo version before text cause = (begins_blank text ≡ false)
    × GivesNoElement version text cause

-- the first fault of a text that says nothing
abbrev pub InfoFault : Version → List ℕ → LineFault → Type 0
InfoFault version octets fault = IsFirstFault (AddsInfo version)
    (RefusesInfo version) [] octets fault
