-- The lines that an iterator over lines has left.
use Rattle.std.specs.Prelude.{ℕ, List}
use Rattle.std.specs.List.{enumerate_from}
use Rattle.bag_path.specs.declared.lines.Lines.{Lines}
use Rattle.bag_path.specs.declared.lines.Line.{Line}
use Rattle.bag_path.specs.Lines.{Text, line, lines_of}

-- the number and the text of a line
abbrev pub numbered_text : Line → ℕ × Text
numbered_text l = (l.number, line l.text.now l.ending)

-- the lines that are left, with their numbers
abbrev pub lines_left : Lines → List (ℕ × Text)
lines_left s = enumerate_from s.number (lines_of s.rest.now)
