-- Entries of `fetch.txt` (RFC 8493 section 2.2.3).
use Rattle.std.specs.Prelude.{◌≡◌, ◌≢◌, ◌⊎◌, ◌<◌, ◌++◌, ℕ, true, List, [], ◌∷◌, Option, Some, None, codes}
use Rattle.bag_path.specs.Octets.{lf}
use Rattle.bag_tags.specs.Octets.{colon, delete, dot, hyphen, plus, space}
use Rattle.std.specs.List.{AllByRecursion}
use Rattle.std.specs.Char.{IsAsciiDigit, IsAsciiAlphabetic}
use Rattle.std.specs.Fmt.{decimal}
use Rattle.std.specs.Str.{IsUtf8}
use Rattle.bag_path.specs.Paths.{IsPath, is_payload}
use Rattle.bag_path.specs.Spellings.{written_spelling}
use Rattle.bag_tags.specs.declared.fetch.FetchEntryFault.{FetchEntryFault}
use Rattle.bag_tags.specs.declared.fetch.FetchEntryFault.TheVariants.{BadUrl, NotPayload, Memory}

-- a file to be fetched: its URL, its length in octets if one is given, and its path
pub record FetchItem : Type 0 where
  pub url : List ℕ
  pub octets : Option ℕ
  pub path : List ℕ

abbrev pub fetch_item : List ℕ → Option ℕ → List ℕ → FetchItem
fetch_item url octets path = record { url = url; octets = octets; path = path }

-- a letter, a digit, `+`, `-` or `.`
abbrev pub IsSchemeOctet : ℕ → Type 0
IsSchemeOctet octet = IsAsciiAlphabetic octet ⊎ IsAsciiDigit octet
    ⊎ (octet ≡ plus) ⊎ (octet ≡ hyphen) ⊎ (octet ≡ dot)

-- a scheme (RFC 3986 section 3.1) begins with a letter
abbrev pub IsScheme : List ℕ → Type 0
IsScheme [] = ⊥
IsScheme (octet ∷ octets) = IsAsciiAlphabetic octet × AllByRecursion IsSchemeOctet octets

-- neither a space nor a control: U+0000 to U+001F and U+007F
abbrev pub IsUrlOctet : ℕ → Type 0
IsUrlOctet octet = (space < octet) × (octet ≢ delete)

-- a scheme, a colon and something more (RFC 3986 section 3; that no more is required of a URL is this project's own)
pub record IsUrl (url : List ℕ) : Type 0 where
  pub scheme : List ℕ
  pub rest : List ℕ
  pub whole : url ≡ scheme ++ colon ∷ rest
  pub is_scheme : IsScheme scheme
  pub some : rest ≢ []
  pub no_control : AllByRecursion IsUrlOctet rest

-- an entry that can be written
pub record IsEntry (entry : FetchItem) : Type 0 where
  pub utf8 : IsUtf8 entry.url
  pub url : IsUrl entry.url
  pub path : IsPath entry.path
  pub payload : is_payload entry.path ≡ true

-- the first reason why a URL and a path make no entry; `Memory` says nothing of them
abbrev pub RefusesEntry : List ℕ → List ℕ → FetchEntryFault → Type 0
RefusesEntry url path BadUrl = ¬ IsUrl url
RefusesEntry url path NotPayload = IsUrl url × ¬ (is_payload path ≡ true)
RefusesEntry url path Memory = Unit {0}

-- a length as it is written
abbrev pub written_length : Option ℕ → List ℕ
written_length None = codes "-"
written_length (Some n) = decimal n

-- a line as it is written: URL, space, length or `-`, space, the written spelling of the path and LF
abbrev pub written_entry : FetchItem → List ℕ
written_entry entry = entry.url ++ codes " " ++ written_length entry.octets ++ codes " "
    ++ written_spelling entry.path ++ lf ∷ []
