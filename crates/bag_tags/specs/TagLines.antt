-- Text tag files, which are read line by line: manifests, `bag-info.txt` and `fetch.txt` (RFC 8493 sections 2.1.3,
-- 2.2.2 and 2.2.3). That blank lines are skipped and a byte order mark is dropped is this project's own.
use Rattle.std.specs.Prelude.{◌≡◌, ◌⊎◌, ℕ, true, false, List, [], ◌∷◌, ◌++◌, map}
use Rattle.std.specs.List.{enumerate_from}
use Rattle.std.specs.Str.{IsUtf8}
use Rattle.bag_path.specs.declared.path.PathFault.{PathFault}
use Rattle.bag_path.specs.declared.path.PathFault.TheVariants as path
use Rattle.bag_path.specs.Lines.{Text, HasLines}
use Rattle.bag_tags.specs.declared.tag_fault.LineCause.{LineCause}
use Rattle.bag_tags.specs.declared.tag_fault.LineCause.TheVariants.{BadPath, NotUtf8}
use Rattle.bag_tags.specs.declared.tag_fault.LineFault.{LineFault}
use Rattle.bag_tags.specs.declared.tag_fault.TagCause.{TagCause}
use Rattle.bag_tags.specs.declared.tag_fault.TagCause.TheVariants as cause
use Rattle.bag_tags.specs.declared.tag_fault.TagFault.{TagFault}
use Rattle.bag_tags.specs.declared.tag_fault.TagFault.TheVariants as fault
use Rattle.bag_tags.specs.Words.{is_blank_line, without}

-- the byte order mark of UTF-8
abbrev pub mark : List ℕ
mark = 0xEF ∷ 0xBB ∷ 0xBF ∷ []

-- the number of a line, and its octets without the line end
pub record TagLine : Type 0 where
  pub number : ℕ
  pub text : List ℕ

abbrev pub tag_line : ℕ × Text → TagLine
tag_line line = record { number = line.0; text = line.1.text }

-- the lines, numbered from 1
abbrev pub tag_lines : List Text → List TagLine
tag_lines lines = map tag_line (enumerate_from 1 lines)

-- The value that a line leads to from the value before it. A blank line changes nothing. Any other line is UTF-8 and
-- adds what it says.
abbrev pub LeadsOn : {A : Type 0} → (A → ℕ → List ℕ → A → Type 0) → A → TagLine → A → Type 0
LeadsOn leads before line after = ((is_blank_line line.text ≡ true) × (after ≡ before))
    ⊎ ((is_blank_line line.text ≡ false) × IsUtf8 line.text
    × leads before line.number line.text after)

-- Why a text that isn't blank is faulty after a value: it is not UTF-8, or it is UTF-8 and is refused.
abbrev pub HasCause : {A : Type 0} → (A → List ℕ → LineCause → Type 0) → A → List ℕ → LineCause
    → Type 0
HasCause refuses before text cause =
    ((cause ≡ NotUtf8) × ¬ IsUtf8 text) ⊎ (IsUtf8 text × refuses before text cause)

abbrev pub IsRefused : {A : Type 0} → (A → List ℕ → LineCause → Type 0) → A → TagLine → LineCause
    → Type 0
IsRefused refuses before line cause =
    (is_blank_line line.text ≡ false) × HasCause refuses before line.text cause

-- Lines lead from one value to another, each from the value so far to the next.
abbrev pub Lead : {A : Type 0} → (A → TagLine → A → Type 0) → A → List TagLine → A → Type 0
Lead step before [] after = after ≡ before
Lead step before (line ∷ lines) after = (next : _) × step before line next
    × Lead step next lines after

-- Without one byte order mark at their start, the octets are a text of the value: their lines lead to it.
pub record IsTextOf {A : Type 0} (leads : A → ℕ → List ℕ → A → Type 0) (start : A) (octets : List ℕ)
    (value : A) : Type 0 where
  pub lines : List Text
  pub has_lines : HasLines (without mark octets) lines
  pub lead : Lead (LeadsOn leads) start (tag_lines lines) value

-- The lines before this one lead to a value, after which this one is refused for this cause.
pub record StopsAt {A : Type 0} (leads : A → ℕ → List ℕ → A → Type 0)
    (refuses : A → List ℕ → LineCause → Type 0)
    (start : A) (octets : List ℕ) (fault : LineFault) : Type 0 where
  pub lines : List Text
  pub has_lines : HasLines (without mark octets) lines
  pub before : List TagLine
  pub faulty : TagLine
  pub after : List TagLine
  pub cut : tag_lines lines ≡ before ++ faulty ∷ after
  pub so_far : A
  pub lead : Lead (LeadsOn leads) start before so_far
  pub number : fault.line ≡ faulty.number
  pub refused : IsRefused refuses so_far faulty fault.cause

-- The first fault of a text: the lines before the faulty one lead to a value, and from there it leads to none.
pub record IsFirstFault {A : Type 0} (leads : A → ℕ → List ℕ → A → Type 0)
    (refuses : A → List ℕ → LineCause → Type 0)
    (start : A) (octets : List ℕ) (fault : LineFault) : Type 0 where
  pub stops : StopsAt leads refuses start octets fault
  pub no_further : (next : A) → LeadsOn leads stops.so_far stops.faulty next → ⊥

-- Why a text has either one value or one first fault: a line in UTF-8 leads to one value or is refused for one cause.
pub record AreExact {A : Type 0} (leads : A → ℕ → List ℕ → A → Type 0)
    (refuses : A → List ℕ → LineCause → Type 0)
    : Type 0 where
  pub one_value : (before : A) (number : ℕ) (text : List ℕ) (next other : A)
      → leads before number text next → leads before number text other → next ≡ other
  pub one_cause : (before : A) (text : List ℕ) (cause other : LineCause)
      → refuses before text cause → refuses before text other → cause ≡ other
  pub not_both : (before : A) (number : ℕ) (text : List ℕ) (next : A) (cause : LineCause)
      → leads before number text next → refuses before text cause → ⊥
  pub one_of_both : (before : A) (number : ℕ) (text : List ℕ) → IsUtf8 text
      → ((next : A) × leads before number text next)
      ⊎ ((cause : LineCause) × refuses before text cause)

-- why a line isn't read whose path is refused
abbrev pub cause_of : PathFault → TagCause
cause_of path.Memory = cause.Memory
cause_of fault = cause.Line (BadPath fault)

-- a fact about the cause of a faulty line or about the first faulty line; `Memory` says nothing of the text
abbrev pub Causes : (LineCause → Type 0) → TagCause → Type 0
Causes P (cause.Line c) = P c
Causes P cause.Memory = Unit {0}

abbrev pub Faults : (LineFault → Type 0) → TagFault → Type 0
Faults P (fault.Line f) = P f
Faults P fault.Memory = Unit {0}

-- a line is refused after a value, with this fault
abbrev pub RefusedAt : {A : Type 0} → (A → List ℕ → LineCause → Type 0) → A → TagLine → LineFault
    → Type 0
RefusedAt refuses before line fault = (fault.line ≡ line.number)
    × IsRefused refuses before line fault.cause
