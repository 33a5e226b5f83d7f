-- The value of `Payload-Oxum` (RFC 8493 section 2.2.2): how many octets the payload has, and in
-- how many files.
use Rattle.std.specs.Prelude.{◌≡◌, ◌<◌, ◌^◌, ◌++◌, ℕ, List, codes}
use Rattle.std.specs.List.{AllByRecursion}
use Rattle.std.specs.Fmt.{decimal}
use Rattle.bag_tags.specs.Numerals.{IsNumeral}
use Rattle.bag_tags.specs.Words.{IsBlank}

-- Blanks, the number of octets, a dot, the number of files and blanks, each number below 2^64. That blanks at both ends
-- are dropped and leading zeros accepted is this project's own.
pub record OxumText (text : List ℕ) (octets streams : ℕ) : Type 0 where
  pub front : List ℕ
  pub before_dot : List ℕ
  pub after_dot : List ℕ
  pub back : List ℕ
  pub whole : text ≡ front ++ before_dot ++ codes "." ++ after_dot ++ back
  pub front_blank : AllByRecursion IsBlank front
  pub octets_are : IsNumeral before_dot octets
  pub octets_fit : octets < 2 ^ 64
  pub streams_are : IsNumeral after_dot streams
  pub streams_fit : streams < 2 ^ 64
  pub back_blank : AllByRecursion IsBlank back

-- the text that is written: no blanks, and no leading zeros
abbrev pub written_oxum : ℕ → ℕ → List ℕ
written_oxum octets streams = decimal octets ++ codes "." ++ decimal streams
