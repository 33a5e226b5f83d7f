-- How the spelling of a path is read, as functions on lists. A law relates them to the definition of a spelling.
use Rattle.std.specs.Prelude.{◌==◌, ◌||◌, ℕ, zero, suc, List, [], ◌∷◌, Option, Some, None, take, if◌then◌else◌, codes}
use Rattle.std.specs.Str.{bytes_eq}
use Rattle.bag_path.specs.declared.version.Version.{Version}
use Rattle.bag_path.specs.declared.version.Version.TheVariants.{V1, V097}
use Rattle.bag_path.specs.Octets.{lf, cr, percent}

-- the octet that `%` and a code of LF or CR stand for
abbrev pub octet_of_line_escape : List ℕ → Option ℕ
octet_of_line_escape code =
    if bytes_eq code (codes "0A") || bytes_eq code (codes "0a") then Some lf
    else if bytes_eq code (codes "0D") || bytes_eq code (codes "0d") then Some cr
    else None

-- the octet that `%` and a code stand for
abbrev pub octet_of_escape : Version → List ℕ → Option ℕ
octet_of_escape V1 code =
    if bytes_eq code (codes "25") then Some percent
    else octet_of_line_escape code
octet_of_escape V097 code = octet_of_line_escape code

-- the octet that `%` stands for, given the octet of the escape that it begins, if it begins one
abbrev pub octet_of_percent : Version → Option ℕ → Option ℕ
octet_of_percent version (Some octet) = Some octet
octet_of_percent V1 None = None
octet_of_percent V097 None = Some percent

-- how many octets after its `%` belong to an escape
abbrev pub taken_by : Option ℕ → ℕ
taken_by (Some octet) = 2
taken_by None = 0

abbrev pub octets_with_first : Option ℕ → Option (List ℕ) → Option (List ℕ)
octets_with_first (Some octet) (Some octets) = Some (octet ∷ octets)
octets_with_first _ _ = None

-- the octets that a text spells after this many octets, which belong to an escape, are skipped
unfoldable pub octets_spelled_after : ℕ → Version → List ℕ → Option (List ℕ)
octets_spelled_after taken version [] = Some []
octets_spelled_after (suc taken) version (octet ∷ text) = octets_spelled_after taken version text
octets_spelled_after zero version (octet ∷ text) =
    if octet == percent
    then (let escape = octet_of_escape version (take 2 text) in
    octets_with_first (octet_of_percent version escape)
    (octets_spelled_after (taken_by escape) version text))
    else octets_with_first (Some octet) (octets_spelled_after 0 version text)

-- the octets that a text spells, if it spells any
abbrev pub octets_spelled : Version → List ℕ → Option (List ℕ)
octets_spelled version text = octets_spelled_after 0 version text
