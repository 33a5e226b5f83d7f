-- Spellings of paths in manifests and in `fetch.txt`: which texts spell a path, and which one is written (RFC 8493
-- section 2.1.3).
use Rattle.std.specs.Prelude.{◌≡◌, ◌≢◌, ◌⊎◌, ◌==◌, ℕ, List, [], ◌∷◌, ◌++◌, if◌then◌else◌, codes}
use Rattle.std.specs.List.{flat_map}
use Rattle.bag_path.specs.declared.path.PathFault.{PathFault}
use Rattle.bag_path.specs.declared.path.PathFault.TheVariants.{Memory, BadEscape}
use Rattle.bag_path.specs.declared.version.Version.{Version}
use Rattle.bag_path.specs.declared.version.Version.TheVariants.{V1, V097}
use Rattle.bag_path.specs.Octets.{lf, cr, percent}
use Rattle.bag_path.specs.Paths.{RefusesPath}

-- an escape of LF or CR, with its letter in either case
abbrev pub IsLineEscape : List ℕ → ℕ → Type 0
IsLineEscape part octet =
    ((octet ≡ lf) × ((part ≡ codes "%0A") ⊎ (part ≡ codes "%0a")))
    ⊎ ((octet ≡ cr) × ((part ≡ codes "%0D") ⊎ (part ≡ codes "%0d")))

-- the text begins with an escape of LF or CR
abbrev pub BeginsLineEscape : List ℕ → Type 0
BeginsLineEscape text =
    (part rest : List ℕ) × (octet : ℕ) × (text ≡ part ++ rest) × IsLineEscape part octet

-- The part stands for the octet if it is followed by this rest. In version 1.0 `%` is always escaped. In version 0.97
-- it stands for itself unless it begins an escape of LF or CR.
abbrev pub StandsFor : Version → List ℕ → ℕ → List ℕ → Type 0
StandsFor V1 part octet rest =
    ((octet ≢ percent) × (part ≡ octet ∷ []))
    ⊎ ((octet ≡ percent) × (part ≡ codes "%25"))
    ⊎ IsLineEscape part octet
StandsFor V097 part octet rest =
    ((part ≡ octet ∷ []) × ¬ BeginsLineEscape (octet ∷ rest))
    ⊎ IsLineEscape part octet

-- The text consists of parts that stand for the octets of the path, one part for each octet, in order.
abbrev pub Spells : Version → List ℕ → List ℕ → Type 0
Spells version [] text = text ≡ []
Spells version (octet ∷ path) text =
    (part rest : List ℕ)
    × (text ≡ part ++ rest) × StandsFor version part octet rest × Spells version path rest

-- the text spells no octets
abbrev pub SpellsNothing : Version → List ℕ → Type 0
SpellsNothing version text = (path : List ℕ) → ¬ Spells version path text

-- the part that is written for an octet
abbrev pub written_part : ℕ → List ℕ
written_part octet =
    if octet == percent then codes "%25"
    else if octet == lf then codes "%0A"
    else if octet == cr then codes "%0D"
    else octet ∷ []

-- the spelling that is written
abbrev pub written_spelling : List ℕ → List ℕ
written_spelling path = flat_map written_part path

-- A fault that is returned for a text: `BadEscape` if it spells no octets, otherwise the first fault of the octets that
-- it spells, or `Memory`.
abbrev pub RefusesSpelling : PathFault → Version → List ℕ → Type 0
RefusesSpelling Memory version text = Unit {0}
RefusesSpelling BadEscape version text = SpellsNothing version text
RefusesSpelling fault version text = (path : List ℕ) × Spells version path text
    × RefusesPath fault path
