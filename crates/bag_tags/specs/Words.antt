-- The words of a line: what is before, between and after its blanks.
use Rattle.std.specs.Prelude.{◌≡◌, ◌≢◌, ◌==◌, ◌||◌, ℕ, Bool, true, false, List, [], ◌∷◌, ◌++◌, length, drop, nat_eq, if◌then◌else◌}
use Rattle.bag_tags.specs.Octets.{space, tab}
use Rattle.std.specs.List.{AllByRecursion, list_all, starts_with}

-- a space or a tab
abbrev pub is_blank : ℕ → Bool
is_blank octet = octet == space || octet == tab

abbrev pub IsBlank : ℕ → Type 0
IsBlank octet = is_blank octet ≡ true

abbrev pub IsNotBlank : ℕ → Type 0
IsNotBlank octet = is_blank octet ≡ false

-- a line that is empty or only blanks
abbrev pub is_blank_line : List ℕ → Bool
is_blank_line text = list_all is_blank text

abbrev pub begins_blank : List ℕ → Bool
begins_blank [] = false
begins_blank (octet ∷ octets) = is_blank octet

abbrev pub ends_blank : List ℕ → Bool
ends_blank [] = false
ends_blank (octet ∷ []) = is_blank octet
ends_blank (octet ∷ octets) = ends_blank octets

-- The text is a word without blanks, the blanks after it, of which there is at least one, and what follows them.
pub record IsCut (text word blanks rest : List ℕ) : Type 0 where
  pub whole : text ≡ word ++ blanks ++ rest
  pub word_ends : AllByRecursion IsNotBlank word
  pub some_blank : blanks ≢ []
  pub only_blanks : AllByRecursion IsBlank blanks
  pub rest_begins : begins_blank rest ≡ false

-- the rest of a text after this front, or the whole text if it doesn't begin with it
abbrev pub without : List ℕ → List ℕ → List ℕ
without front text = if starts_with nat_eq text front then drop (length front) text else text
