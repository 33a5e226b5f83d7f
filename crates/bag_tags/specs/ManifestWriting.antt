-- A manifest as it is written (RFC 8493 section 2.1.3).
use Rattle.std.specs.Prelude.{◌==◌, ◌||◌, ◌++◌, ℕ, Bool, false, List, [], ◌∷◌, codes, if◌then◌else◌}
use Rattle.bag_path.specs.Octets.{lf}
use Rattle.bag_tags.specs.Octets.{star}
use Rattle.std.specs.List.{flat_map}
use Rattle.bag_path.specs.Spellings.{written_spelling}
use Rattle.bag_path.specs.Paths.{IsPath}
use Rattle.bag_digest.specs.Hash.{alg_of}
use Rattle.bag_digest.specs.Spelling.{SpellsDigest, lower_case_of}
use Rattle.bag_tags.specs.declared.listing.Pair.{Pair}
use Rattle.bag_tags.specs.Words.{is_blank}

-- whether a path begins with `*` or a blank, which a reader would drop
abbrev pub needs_dot : List ℕ → Bool
needs_dot [] = false
needs_dot (octet ∷ octets) = octet == star || is_blank octet

-- the written spelling of a path, after `./` if the path begins so (this project's own)
abbrev pub written_path : List ℕ → List ℕ
written_path path = (if needs_dot path then codes "./" else []) ++ written_spelling path

-- a line: lower case hex, two spaces, the path and LF
abbrev pub written_pair : Pair → List ℕ
written_pair pair = lower_case_of pair.digest ++ codes "  " ++ written_path pair.path ++ lf ∷ []

abbrev pub written_manifest : List Pair → List ℕ
written_manifest pairs = flat_map written_pair pairs

-- a pair that can be written: a path, and a digest that its lower case spelling spells (as each value of the Rust types
-- is)
abbrev pub CanBeWritten : Pair → Type 0
CanBeWritten pair = IsPath pair.path × SpellsDigest (alg_of pair.digest)
    (lower_case_of pair.digest) pair.digest
