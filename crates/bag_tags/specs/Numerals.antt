-- Decimal numerals in ASCII digits.
use Rattle.std.specs.Prelude.{◌≡◌, ◌≢◌, ℕ, List, []}
use Rattle.std.specs.Char.{IsAsciiDigit}
use Rattle.std.specs.List.{AllByRecursion}
use Rattle.std.specs.Str.Parse.{digits_value}

-- one or more digits, with this value; leading zeros are accepted
pub record IsNumeral (text : List ℕ) (value : ℕ) : Type 0 where
  pub some : text ≢ []
  pub digits : AllByRecursion IsAsciiDigit text
  pub value_is : value ≡ digits_value 10 text
