use Rattle.std.proofs.Common.{List, ℕ, codes, Some, None, ◌++◌, ◌∷◌, [], refl, arith, rules}
use Rattle.bag_path.specs.Lines.{lines_of}
use Rattle.bag_path.specs.Paths.{path_fault}
use Rattle.bag_path.specs.SpellingReading.{octets_spelled_after}
use Rattle.bag_path.specs.declared.version.Version.TheVariants.{V1}
use Rattle.bag_path.proofs.AsciiLemmas.{ascii_path}
use Rattle.bag_tags.specs.declared.fetch.FetchLine.{FetchLine}
use Rattle.bag_tags.specs.FetchEntries.{IsUrl, fetch_item}
use Rattle.bag_tags.specs.Fetches.{fetch_line}
use Rattle.bag_tags.specs.FetchText.{IsLength, AddsEntry}
use Rattle.bag_tags.specs.WordsReading.{until}
use Rattle.bag_tags.proofs.ExampleLines.{text_of, leads_on, adds_entry}
use Rattle.bag_tags.proofs.examples.a_fetch_list_lists_its_entries.Goals as goal

abbrev first : FetchLine
first = fetch_line 1 (fetch_item (codes "http:x") None (codes "data/a"))

abbrev second : FetchLine
second = fetch_line 2 (fetch_item (codes "https://example.org/b") (Some 5) (codes "data/b c"))

short_url : IsUrl (codes "http:x")
short_url = record { scheme = codes "http"; rest = codes "x"; whole = refl; is_scheme = search rules; some = λ e. cc; no_control = search rules }

long_url : IsUrl (codes "https://example.org/b")
long_url = record { scheme = codes "https"; rest = codes "//example.org/b"; whole = refl; is_scheme = search rules; some = λ e. cc; no_control = search rules }

abbrev one : List ℕ
one = codes "http:x - data/a"

abbrev two : List ℕ
two = codes "https://example.org/b" ++ 9 ∷ codes "05" ++ 9 ∷ codes "data/b c"

abbrev after_one : List FetchLine
after_one = first ∷ []

abbrev after_two : List FetchLine
after_two = first ∷ second ∷ []

five : IsLength (codes "05") (Some 5)
five = (record { some = λ e. cc; digits = search rules; value_is = refl }, omega arith)

adds_one : AddsEntry V1 [] 1 one after_one
unfolding until octets_spelled_after path_fault
adds_one = adds_entry one None (codes "data/a") refl short_url refl refl (ascii_path (codes "data/a") refl refl) [] 1 refl

adds_two : AddsEntry V1 after_one 2 two after_two
unfolding until octets_spelled_after path_fault
adds_two = adds_entry two (Some 5) (codes "data/b c") refl long_url five refl (ascii_path (codes "data/b c") refl refl) after_one 2 refl

pub returns : goal.returns
unfolding lines_of
returns c = text_of (AddsEntry V1) [] (one ++ 10 ∷ two ++ 10 ∷ []) after_two
    (after_one, leads_on (AddsEntry V1) _ _ _ refl refl adds_one, (after_two, leads_on (AddsEntry V1) _ _ _ refl refl adds_two, refl))
