-- Text tag files that come in pieces: what was read so far, and how the lines go on. Only private functions and the
-- definition of a feed cite this.
use Rattle.std.specs.Prelude.{◌≡◌, ◌+◌, ◌++◌, ◌==◌, ℕ, Bool, true, false, List, [], ◌∷◌, map, length, if◌then◌else◌}
use Rattle.std.specs.List.{enumerate_from}
use Rattle.bag_path.specs.declared.lines.Ending.{Ending}
use Rattle.bag_path.specs.declared.lines.Ending.TheVariants.{Cr}
use Rattle.bag_path.specs.Lines.{Text, lines_of}
use Rattle.bag_path.specs.Octets.{lf}
use Rattle.bag_tags.specs.declared.last_line.LastLine.{LastLine}
use Rattle.bag_tags.specs.TagLines.{TagLine, LeadsOn, Lead, mark}
use Rattle.bag_tags.specs.Words.{without}

-- the texts of the lines of these octets
abbrev pub texts_of : List ℕ → List (List ℕ)
texts_of octets = map (λ (line : Text). line.text) (lines_of octets)

abbrev pub tag_text : ℕ × List ℕ → TagLine
tag_text line = record { number = line.0; text = line.1 }

-- lines with these texts, numbered from 1
abbrev pub numbered : List (List ℕ) → List TagLine
numbered texts = map tag_text (enumerate_from 1 texts)

abbrev pub is_cr : Ending → Bool
is_cr Cr = true
is_cr _ = false

-- the octets that follow a line; an LF after a CR belongs to the ending of that line
abbrev pub after_ending : Bool → List ℕ → List ℕ
after_ending true octets = without (lf ∷ []) octets
after_ending false octets = octets

-- the octets from the line with this number on, without a byte order mark before the first line
abbrev pub unmarked : ℕ → List ℕ → List ℕ
unmarked number octets = if number == 1 then without mark octets else octets

-- the octets from the last line on, if these are left
abbrev pub going_on : LastLine → List ℕ → List ℕ
going_on last left = unmarked last.number (last.octets.items ++ after_ending last.after_cr left)

-- the last line, if it ends after this text
abbrev pub last_line : LastLine → List ℕ → TagLine
last_line last text =
    record { number = last.number; text = unmarked last.number (last.octets.items ++ text) }

-- Of all octets these are left. The lines of all are those that lead to this value, and those from the last line on.
pub record Awaits {A : Type 0} (leads : A → ℕ → List ℕ → A → Type 0) (start : A)
    (all left : List ℕ) (last : LastLine) (value : A) : Type 0 where
  pub texts : List (List ℕ)
  pub lines : texts_of (without mark all) ≡ texts ++ texts_of (going_on last left)
  pub lead : Lead (LeadsOn leads) start (numbered texts) value
  pub number : last.number ≡ length texts + 1

-- no line yet, and no octet
pub record IsBegun (last : LastLine) : Type 0 where
  pub number : last.number ≡ 1
  pub octets : last.octets.items ≡ []
  pub after_cr : last.after_cr ≡ false

-- the same line with these octets more
pub record IsLonger (old : LastLine) (octets : List ℕ) (new : LastLine) : Type 0 where
  pub number : new.number ≡ old.number
  pub goes_on : (left : List ℕ) → going_on new left ≡ going_on old (octets ++ left)

-- the next line, without an octet
pub record IsNext (old : LastLine) (after_cr : Bool) (new : LastLine) : Type 0 where
  pub number : new.number ≡ old.number + 1
  pub octets : new.octets.items ≡ []
  pub after_cr_is : new.after_cr ≡ after_cr
