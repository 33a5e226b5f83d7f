-- How a line is cut: the list up to the first element that passes a test, and what follows.
use Rattle.std.specs.Prelude.{◌==◌, ℕ, Bool, not, List, [], ◌∷◌, if◌then◌else◌}
use Rattle.bag_tags.specs.Octets.{colon, dot}
use Rattle.bag_tags.specs.declared.splitting.Cut.{Cut}
use Rattle.bag_tags.specs.declared.splitting.Cut.TheVariants.{Blank, NoBlank, Dot, Colon}
use Rattle.bag_tags.specs.Words.{is_blank}

unfoldable pub until : (ℕ → Bool) → List ℕ → List ℕ × List ℕ
until test [] = ([], [])
until test (x ∷ xs) = if test x then ([], x ∷ xs) else (x ∷ (until test xs).0, (until test xs).1)

abbrev pub is_not_blank : ℕ → Bool
is_not_blank octet = not (is_blank octet)

abbrev pub is_dot : ℕ → Bool
is_dot octet = octet == dot

abbrev pub is_colon : ℕ → Bool
is_colon octet = octet == colon

-- the octets at which a text is cut
abbrev pub cuts : Cut → ℕ → Bool
cuts Blank = is_blank
cuts NoBlank = is_not_blank
cuts Dot = is_dot
cuts Colon = is_colon
