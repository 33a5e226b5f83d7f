-- Octets with a meaning in tag files.
use Rattle.std.specs.Prelude.{ℕ}

abbrev pub space : ℕ
space = 32

abbrev pub tab : ℕ
tab = 9

abbrev pub colon : ℕ
colon = 58

abbrev pub star : ℕ
star = 42

abbrev pub plus : ℕ
plus = 43

abbrev pub hyphen : ℕ
hyphen = 45

abbrev pub dot : ℕ
dot = 46

abbrev pub underscore : ℕ
underscore = 95

-- U+007F, the last control of ASCII
abbrev pub delete : ℕ
delete = 127

-- `0`
abbrev pub zero_digit : ℕ
zero_digit = 48

-- `!` and `~`, the first and the last visible character of ASCII
abbrev pub first_visible : ℕ
first_visible = 33

abbrev pub last_visible : ℕ
last_visible = 126
