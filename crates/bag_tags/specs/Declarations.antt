-- `bagit.txt` (RFC 8493 section 2.1.1).
use Rattle.std.specs.Prelude.{◌≡◌, ◌≢◌, ◌⊎◌, ◌↔◌, ◌≤◌, ◌++◌, if◌then◌else◌, Option, ℕ, true, false, List, [], ◌∷◌, IsTrue, map, length, nat_eq, codes, slice_index}
use Rattle.bag_path.specs.Octets.{lf}
use Rattle.bag_tags.specs.Octets.{first_visible, last_visible, zero_digit}
use Rattle.std.specs.List.{AllByRecursion, starts_with}
use Rattle.std.specs.Char.{to_ascii_lowercase}
use Rattle.std.specs.Str.{is_utf8}
use Rattle.bag_path.specs.Lines.{Text, HasLines}
use Rattle.bag_tags.specs.declared.declaration.Declaration.{Declaration}
use Rattle.bag_tags.specs.declared.declaration.DeclFault.{DeclFault}
use Rattle.bag_tags.specs.declared.declaration.DeclFault.TheVariants.{NotUtf8, Mark, LineCount, Label, EncodingName}
use Rattle.bag_tags.specs.declared.declaration.DeclFault.TheVariants as fault
use Rattle.bag_path.specs.declared.version.Version.{Version}
use Rattle.bag_path.specs.declared.version.Version.TheVariants.{V1, V097}
use Rattle.bag_path.specs.Versions.{version_numbered}
use Rattle.bag_tags.specs.TagLines.{mark}
use Rattle.bag_tags.specs.Numerals.{IsNumeral}

abbrev pub version_label : List ℕ
version_label = codes "BagIt-Version: "

abbrev pub encoding_label : List ℕ
encoding_label = codes "Tag-File-Character-Encoding: "

-- one to nine digits, without a leading zero except in `0` itself
pub record IsVersionPart (text : List ℕ) (value : ℕ) : Type 0 where
  pub numeral : IsNumeral text value
  pub short : length text ≤ 9
  pub no_leading_zero : (length text ≡ 1) ⊎ (slice_index text 0 ≢ zero_digit)

-- `M.N`
pub record IsVersion (text : List ℕ) (major minor : ℕ) : Type 0 where
  pub before_dot : List ℕ
  pub after_dot : List ℕ
  pub whole : text ≡ before_dot ++ codes "." ++ after_dot
  pub major_is : IsVersionPart before_dot major
  pub minor_is : IsVersionPart after_dot minor

-- one or more characters from `!` to `~`
abbrev pub IsVisible : ℕ → Type 0
IsVisible octet = (first_visible ≤ octet) × (octet ≤ last_visible)

abbrev pub IsEncodingName : List ℕ → Type 0
IsEncodingName name = (name ≢ []) × AllByRecursion IsVisible name

-- the name is `UTF-8`, without regard to ASCII case
abbrev pub NamesUtf8 : List ℕ → Type 0
NamesUtf8 name = map to_ascii_lowercase name ≡ codes "utf-8"

-- UTF-8 that doesn't begin with a byte order mark
abbrev pub IsUnmarked : List ℕ → Type 0
IsUnmarked octets = (is_utf8 octets ≡ true) × (starts_with nat_eq octets mark ≡ false)

-- two lines, with these texts after their labels
pub record HasLabels (octets version encoding : List ℕ) : Type 0 where
  pub first : Text
  pub second : Text
  pub unmarked : IsUnmarked octets
  pub two_lines : HasLines octets (first ∷ second ∷ [])
  pub first_is : first.text ≡ version_label ++ version
  pub second_is : second.text ≡ encoding_label ++ encoding

-- the octets declare this version and encoding
pub record IsDeclaration (octets : List ℕ) (declaration : Declaration) : Type 0 where
  pub version : List ℕ
  pub encoding : List ℕ
  pub labels : HasLabels octets version encoding
  pub version_is : IsVersion version declaration.major declaration.minor
  pub named : IsEncodingName encoding
  pub utf8_is : IsTrue declaration.utf8 ↔ NamesUtf8 encoding

-- the texts of the two lines don't both begin with their labels
abbrev pub HaveNoLabels : List ℕ → List ℕ → Type 0
HaveNoLabels first second = (starts_with nat_eq first version_label ≡ false)
    ⊎ (starts_with nat_eq second encoding_label ≡ false)

-- the first fault of octets that declare nothing
abbrev pub IsDeclarationFault : List ℕ → DeclFault → Type 0
IsDeclarationFault octets NotUtf8 = is_utf8 octets ≡ false
IsDeclarationFault octets Mark = (is_utf8 octets ≡ true) × (starts_with nat_eq octets mark ≡ true)
IsDeclarationFault octets LineCount = IsUnmarked octets
    × ((lines : List Text) × HasLines octets lines × (length lines ≢ 2))
IsDeclarationFault octets Label = IsUnmarked octets
    × ((first : Text) × (second : Text) × HasLines octets (first ∷ second ∷ [])
    × HaveNoLabels first.text second.text)
IsDeclarationFault octets fault.Version = (version : List ℕ) × (encoding : List ℕ)
    × HasLabels octets version encoding
    × ((major minor : ℕ) → IsVersion version major minor → ⊥)
IsDeclarationFault octets EncodingName = (version : List ℕ) × (encoding : List ℕ) × (major : ℕ)
    × (minor : ℕ) × HasLabels octets version encoding
    × IsVersion version major minor × (IsEncodingName encoding → ⊥)

-- the version that is declared, if it is known
abbrev pub version_of : Declaration → Option Version
version_of declaration = version_numbered declaration.major declaration.minor

-- the version by whose rules tag files are read, by how the octets begin; if they declare a known version, it is that
-- one
abbrev pub declared_version : List ℕ → Version
declared_version octets =
    if starts_with nat_eq octets (codes "BagIt-Version: 0.97") then V097 else V1

-- version 1.0 and UTF-8
abbrev pub current : Declaration
current = record { major = 1; minor = 0; utf8 = true }

-- the octets that are written to declare it
abbrev pub written_declaration : List ℕ
written_declaration = codes "BagIt-Version: 1.0" ++ lf ∷ codes "Tag-File-Character-Encoding: UTF-8"
    ++ lf ∷ []
