-- Lines: what it means that lines are those of some octets, and the function that gives them. A line ends at LF, CR or
-- CR LF (RFC 8493 section 2.3).
use Rattle.std.specs.Prelude.{◌≡◌, ◌≢◌, ◌==◌, ℕ, Bool, true, false, List, [], ◌∷◌, ◌++◌, if◌then◌else◌}
use Rattle.std.specs.List.{AllByRecursion, flat_map}
use Rattle.bag_path.specs.declared.lines.Ending.{Ending}
use Rattle.bag_path.specs.declared.lines.Ending.TheVariants.{Lf, Cr, CrLf, Nothing}
use Rattle.bag_path.specs.Octets.{lf, cr}

-- a line, without its place in memory
pub record Text : Type 0 where
  pub text : List ℕ
  pub ending : Ending

abbrev pub line : List ℕ → Ending → Text
line text ending = record { text = text; ending = ending }

abbrev pub ending_octets : Ending → List ℕ
ending_octets Lf = lf ∷ []
ending_octets Cr = cr ∷ []
ending_octets CrLf = cr ∷ lf ∷ []
ending_octets Nothing = []

-- the octets of a line, with its ending
abbrev pub octets_of_line : Text → List ℕ
octets_of_line line = line.text ++ ending_octets line.ending

abbrev pub octets_of_lines : List Text → List ℕ
octets_of_lines lines = flat_map octets_of_line lines

-- neither LF nor CR
abbrev pub IsPlain : ℕ → Type 0
IsPlain octet = (octet ≢ lf) × (octet ≢ cr)

abbrev pub is_lone_lf : List ℕ → Ending → Bool
is_lone_lf [] Lf = true
is_lone_lf _ _ = false

-- What may follow a line. Only the last line may have no ending, and then it isn't empty. A line that ends in CR isn't
-- followed by an empty line that ends in LF, since CR LF is one ending.
abbrev pub MayStand : List ℕ → Ending → List Text → Type 0
MayStand text Nothing lines = (text ≢ []) × (lines ≡ [])
MayStand text Cr (next ∷ lines) = is_lone_lf next.text next.ending ≡ false
MayStand text _ lines = Unit {0}

abbrev pub AreLines : List Text → Type 0
AreLines [] = Unit {0}
AreLines (line ∷ lines) =
    AllByRecursion IsPlain line.text × MayStand line.text line.ending lines × AreLines lines

-- these are the lines of the octets
pub record HasLines (octets : List ℕ) (lines : List Text) : Type 0 where
  pub whole : octets ≡ octets_of_lines lines
  pub each : AreLines lines

-- texts as they are written, with LF after each
abbrev pub written_lines : List (List ℕ) → List ℕ
written_lines texts = flat_map (λ text. text ++ lf ∷ []) texts

-- the lines after a CR is put in front of them; with an empty line that ends in LF it makes one ending
abbrev pub lines_with_cr : List Text → List Text
lines_with_cr [] = line [] Cr ∷ []
lines_with_cr (next ∷ lines) =
    if is_lone_lf next.text next.ending then line [] CrLf ∷ lines
    else line [] Cr ∷ next ∷ lines

-- the lines after an octet of text is put in front of them; it goes to the first line
abbrev pub lines_with_octet : ℕ → List Text → List Text
lines_with_octet octet [] = line (octet ∷ []) Nothing ∷ []
lines_with_octet octet (next ∷ lines) = line (octet ∷ next.text) next.ending ∷ lines

-- the lines of the octets, computed from the end
unfoldable pub lines_of : List ℕ → List Text
lines_of [] = []
lines_of (octet ∷ octets) =
    if octet == lf then line [] Lf ∷ lines_of octets
    else if octet == cr then lines_with_cr (lines_of octets)
    else lines_with_octet octet (lines_of octets)
