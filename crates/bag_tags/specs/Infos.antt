-- What `bag-info.txt` says (RFC 8493 section 2.2.2).
use Rattle.std.specs.Prelude.{◌≡◌, ◌≢◌, ◌-◌, ◌++◌, ◌==◌, ℕ, Bool, false, List, [], ◌∷◌, length, map, nat_eq, codes, slice_index, if◌then◌else◌}
use Rattle.bag_path.specs.Octets.{lf}
use Rattle.bag_tags.specs.Octets.{colon, space}
use Rattle.std.specs.List.{AllByRecursion, flat_map, starts_with}
use Rattle.std.specs.Char.{to_ascii_lowercase}
use Rattle.std.specs.Str.{IsUtf8, bytes_eq}
use Rattle.bag_path.specs.Lines.{IsPlain}
use Rattle.bag_tags.specs.declared.info.ElementFault.{ElementFault}
use Rattle.bag_tags.specs.declared.info.ElementFault.TheVariants.{BadLabel, BadValue, Memory}
use Rattle.bag_tags.specs.TagLines.{mark}
use Rattle.bag_tags.specs.Words.{IsNotBlank, begins_blank}

-- a metadata element; each line break in its value is one LF (this project's own)
pub record MetadataElement : Type 0 where
  pub label : List ℕ
  pub value : List ℕ

abbrev pub element : List ℕ → List ℕ → MetadataElement
element label value = record { label = label; value = value }

-- The label is not empty, and neither begins nor ends with a blank. That it doesn't begin with U+FEFF is this project's
-- own: at the start of the file this would be a byte order mark.
pub record IsFit (label : List ℕ) : Type 0 where
  pub some : label ≢ []
  pub begins : IsNotBlank (slice_index label 0)
  pub ends : IsNotBlank (slice_index label (length label - 1))
  pub unmarked : starts_with nat_eq label mark ≡ false

abbrev pub IsNotColon : ℕ → Type 0
IsNotColon octet = octet ≢ colon

-- neither a colon, nor LF or CR
abbrev pub IsLabelOctet : ℕ → Type 0
IsLabelOctet octet = IsNotColon octet × IsPlain octet

-- a label
pub record IsLabel (label : List ℕ) : Type 0 where
  pub fit : IsFit label
  pub octets : AllByRecursion IsLabelOctet label

-- a line of a value after the first: it isn't empty and begins with no blank
pub record IsFurtherLine (line : List ℕ) : Type 0 where
  pub some : line ≢ []
  pub begins : begins_blank line ≡ false
  pub no_line_end : AllByRecursion IsPlain line

abbrev pub after_lf : List ℕ → List ℕ
after_lf line = lf ∷ line

-- The lines of a value: a first line, which may be empty and may begin with blanks, and further lines, each after an
-- LF.
pub record HasValueLines (value first : List ℕ) (further : List (List ℕ)) : Type 0 where
  pub whole : value ≡ first ++ flat_map after_lf further
  pub first_line : AllByRecursion IsPlain first
  pub further_lines : AllByRecursion IsFurtherLine further

-- a value
pub record IsValue (value : List ℕ) : Type 0 where
  pub first : List ℕ
  pub further : List (List ℕ)
  pub lines : HasValueLines value first further

-- an element whose label and value can be written
pub record IsElement (element : MetadataElement) : Type 0 where
  pub label_utf8 : IsUtf8 element.label
  pub value_utf8 : IsUtf8 element.value
  pub is_label : IsLabel element.label
  pub is_value : IsValue element.value

-- the first reason why a label and a value make no element; `Memory` says nothing of them
abbrev pub RefusesElement : List ℕ → List ℕ → ElementFault → Type 0
RefusesElement label value BadLabel = ¬ IsLabel label
RefusesElement label value BadValue = IsLabel label × ¬ IsValue value
RefusesElement label value Memory = Unit {0}

-- the value with one more line
abbrev pub element_with_line : MetadataElement → List ℕ → MetadataElement
element_with_line element line = record element { value = element.value ++ after_lf line }

-- whether the element is a `Payload-Oxum` (section 2.2.2); labels are compared without regard to ASCII case
abbrev pub is_oxum : MetadataElement → Bool
is_oxum element = bytes_eq (map to_ascii_lowercase element.label) (codes "payload-oxum")

-- an octet of a value as it is written: a space is added after each LF
abbrev pub written_octet : ℕ → List ℕ
written_octet octet = if octet == lf then lf ∷ space ∷ [] else octet ∷ []

abbrev pub written_value : List ℕ → List ℕ
written_value value = flat_map written_octet value

-- an element as it is written: its label, a colon, a space, its value and LF; each further line of the value is
-- indented by a space, and nothing is folded
abbrev pub written_element : MetadataElement → List ℕ
written_element element = element.label ++ codes ": " ++ written_value element.value ++ lf ∷ []

abbrev pub written_info : List MetadataElement → List ℕ
written_info elements = flat_map written_element elements
