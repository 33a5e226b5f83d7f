-- What `fetch.txt` lists (RFC 8493 section 2.2.3).
use Rattle.std.specs.Prelude.{◌<◌, ◌+◌, ◌^◌, ℕ, List, [], ◌∷◌, IfSome}
use Rattle.std.specs.List.{flat_map}
use Rattle.bag_tags.specs.declared.fetch.FetchLine.{FetchLine}
use Rattle.bag_tags.specs.FetchEntries.{FetchItem, IsEntry, written_entry}

-- an entry with the number of its line
abbrev pub fetch_line : ℕ → FetchItem → FetchLine
fetch_line line entry = record { line = line; entry = entry }

-- the same entries on lines with consecutive numbers from this one
abbrev pub numbered_from : ℕ → List FetchLine → List FetchLine
numbered_from n [] = []
numbered_from n (line ∷ lines) = fetch_line n line.entry ∷ numbered_from (n + 1) lines

-- a line as it is written
abbrev pub written_line : FetchLine → List ℕ
written_line line = written_entry line.entry

abbrev pub written_fetch : List FetchLine → List ℕ
written_fetch lines = flat_map written_line lines

-- an entry that can be written, with a length below 2^64 (as each value of the Rust types is)
abbrev pub CanBeFetched : FetchLine → Type 0
CanBeFetched line = IsEntry line.entry × IfSome line.entry.octets (λ n. n < 2 ^ 64)
