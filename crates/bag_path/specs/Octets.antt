-- Octets with a meaning in paths, in their spellings and between lines.
use Rattle.std.specs.Prelude.{ℕ}

-- NUL, which no path contains
abbrev pub nul : ℕ
nul = 0

-- LF, a newline
abbrev pub lf : ℕ
lf = 10

-- CR, a carriage return
abbrev pub cr : ℕ
cr = 13

-- `%`, which begins an escape
abbrev pub percent : ℕ
percent = 37

-- `/`, which separates the segments of a path
abbrev pub slash : ℕ
slash = 47
