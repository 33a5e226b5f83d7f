-- The number of lines of octets that come in pieces.
use Rattle.std.specs.Prelude.{◌≡◌, ◌+◌, ◌-◌, ◌^◌, ◌==◌, ◌&&◌, ◌||◌, ℕ, Bool, not, List, [], ◌∷◌, if◌then◌else◌, length, min}
use Rattle.bag_path.specs.declared.line_count.LineCount.{LineCount}
use Rattle.bag_path.specs.Lines.{lines_of}
use Rattle.bag_path.specs.Octets.{lf, cr}

-- whether an octet begins a line after this one; an LF after a CR belongs to the same ending
abbrev pub begins_line : ℕ → ℕ → Bool
begins_line last octet = last == lf || (last == cr && not (octet == lf))

-- a count of lines after one more octet, up to the greatest `u64`
abbrev pub lines_with : ℕ → ℕ → ℕ → ℕ
lines_with lines last octet = if begins_line last octet then min (lines + 1) (2 ^ 64 - 1) else lines

-- the last of these octets, or the one before them if there are none
abbrev pub last_after : ℕ → List ℕ → ℕ
last_after last [] = last
last_after last (octet ∷ octets) = last_after octet octets

-- the lines of these octets were counted, up to the greatest `u64`; the first line begins as if after an LF
pub record HasCounted (count : LineCount) (octets : List ℕ) : Type 0 where
  pub lines : count.lines ≡ min (length (lines_of octets)) (2 ^ 64 - 1)
  pub last : count.last ≡ last_after lf octets
