-- What a terminal is shown of a text.
use Rattle.std.specs.Prelude.{◌≡◌, ◌+◌, ◌/◌, ◌%◌, ◌==◌, ◌&&◌, ◌||◌, ◌∷◌, ℕ, Bool, List, [], if◌then◌else◌, nat_lt, not}
use Rattle.std.specs.Char.{encode_utf8, is_control}
use Rattle.std.specs.Int.{is_in_range}
use Rattle.std.specs.List.{flat_map}
use Rattle.std.specs.Str.{IsUtf8, chars}

-- A terminal obeys this character instead of showing it: a control character, a separator of lines or of paragraphs, or a
-- mark that turns the direction of text.
abbrev pub is_obeyed : ℕ → Bool
is_obeyed c = is_control c || c == 0x061C || is_in_range 0x200E 0x200F c
    || is_in_range 0x2028 0x202E c || is_in_range 0x2066 0x2069 c

abbrev pub hex_digit : ℕ → ℕ
hex_digit value = if nat_lt value 10 then 48 + value else 55 + value

-- `%` and two hexadecimal digits
abbrev pub escape_of : ℕ → List ℕ
escape_of octet = 37 ∷ hex_digit (octet / 16) ∷ hex_digit (octet % 16) ∷ []

-- each octet of what would be obeyed is escaped, but for a line feed
abbrev pub shown_char : ℕ → List ℕ
shown_char c = if not (c == 10) && is_obeyed c
    then flat_map escape_of (encode_utf8 c) else encode_utf8 c

-- The octets of a text are shown so, character by character. Of what is no text each octet is escaped.
pub record IsShownAs (octets shown : List ℕ) : Type 0 where
  pub text : IsUtf8 octets → shown ≡ flat_map shown_char (chars octets)
  pub other : (IsUtf8 octets → ⊥) → shown ≡ flat_map escape_of octets
