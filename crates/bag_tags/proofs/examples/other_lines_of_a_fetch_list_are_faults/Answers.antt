use Rattle.std.proofs.Common.{◌≡◌, ℕ, Option, Some, None, codes, true, [], refl, inl, inr, arith, rules}
use Rattle.bag_path.specs.Lines.{lines_of}
use Rattle.bag_path.specs.Paths.{path_fault, is_payload}
use Rattle.bag_path.specs.SpellingReading.{octets_spelled_after}
use Rattle.bag_path.specs.declared.version.Version.TheVariants.{V1}
use Rattle.bag_path.proofs.AsciiLemmas.{ascii_path}
use Rattle.bag_tags.specs.declared.tag_fault.LineCause.TheVariants.{NoSeparator, BadUrl, BadLength, WrongPlace}
use Rattle.bag_tags.specs.FetchEntries.{IsUrl, fetch_item}
use Rattle.bag_tags.specs.FetchText.{IsLength, AddsEntry, RefusesFetchLine}
use Rattle.bag_tags.specs.WordsReading.{until}
use Rattle.bag_tags.proofs.ExampleLemmas.{other_text}
use Rattle.bag_tags.proofs.ExampleLines.{at, faulty, has_words, gives_entry}
use Rattle.bag_tags.proofs.FetchDecisionLemmas.{fetch_exact}
use Rattle.bag_tags.proofs.FetchLineLemmas.{lacks_of, url_parts}
use Rattle.bag_tags.proofs.examples.other_lines_of_a_fetch_list_are_faults.Goals as goal

is_url : IsUrl (codes "http:x")
is_url = record { scheme = codes "http"; rest = codes "x"; whole = refl; is_scheme = search rules; some = λ e. cc; no_control = search rules }

no_url : ¬ IsUrl (codes "1http:x")
unfolding until
no_url h = elim (url_parts (codes "1http:x") (codes "1http") (codes ":x") refl h).0.0 [ inl e ↦ omega (arith, e.0) | inr e ↦ omega (arith, e.0) ]

no_length : (octets : Option ℕ) → ¬ IsLength (codes "-1") octets
no_length None = other_text (codes "-1") (codes "-") refl
no_length (Some n) = λ h. omega (arith, h.0.digits.0)

not_payload : ¬ (is_payload (codes "a") ≡ true)
not_payload e = cc

pub returns : goal.returns
unfolding lines_of until octets_spelled_after path_fault
returns c = (
  faulty (AddsEntry V1) (RefusesFetchLine V1) (fetch_exact V1) [] [] (codes "1http:x - data/a") [] [] (at 1 (codes "1http:x - data/a")) BadUrl refl refl refl refl
      (record { url = codes "1http:x"; length = codes "-"; path_text = codes "data/a"; words = has_words (codes "1http:x - data/a") refl; no_url = no_url }),
  faulty (AddsEntry V1) (RefusesFetchLine V1) (fetch_exact V1) [] [] (codes "http:x -1 data/a") [] [] (at 1 (codes "http:x -1 data/a")) BadLength refl refl refl refl
      (record { url = codes "http:x"; length = codes "-1"; path_text = codes "data/a"; words = has_words (codes "http:x -1 data/a") refl; is_url = is_url; no_length = no_length }),
  faulty (AddsEntry V1) (RefusesFetchLine V1) (fetch_exact V1) [] [] (codes "http:x 5 a") [] [] (at 1 (codes "http:x 5 a")) WrongPlace refl refl refl refl (record {
    entry = fetch_item (codes "http:x") (Some 5) (codes "a");
    gives = gives_entry (codes "http:x 5 a") (Some 5) (codes "a") refl is_url (record { some = λ e. cc; digits = search rules; value_is = refl }, omega arith) refl (ascii_path (codes "a") refl refl);
    no_payload = not_payload;
  }),
  faulty (AddsEntry V1) (RefusesFetchLine V1) (fetch_exact V1) [] [] (codes "http:x data/a") [] [] (at 1 (codes "http:x data/a")) NoSeparator refl refl refl refl
      (lacks_of (codes "http:x data/a") (codes "http:x") (codes " data/a") (codes " ") (codes "data/a") (codes "data/a") [] refl refl refl refl),
)
