use Rattle.std.proofs.Common.{◌≡◌, ◌≢◌, ◌∙◌, ℕ, None, false, true, List, [], ◌∷◌, codes, refl, sym, ap, inl, rules}
use Rattle.bag_path.specs.Lines.{lines_of}
use Rattle.bag_path.specs.Paths.{path_fault}
use Rattle.bag_path.specs.SpellingReading.{octets_spelled_after}
use Rattle.bag_tags.specs.FetchEntries.{IsUrl, fetch_item}
use Rattle.bag_tags.specs.Fetches.{fetch_line}
use Rattle.bag_tags.specs.FetchText.{AddsEntry, FetchText}
use Rattle.bag_tags.specs.WordsReading.{until}
use Rattle.bag_tags.proofs.ExampleLines.{adds_entry}
use Rattle.bag_rules.proofs.Words.{Alg, ascii_path, Bag, FetchLine, FetchNotListed, Greater, HasFault, leads_on, lists_path, manifest_file, Md5, nat_cmp, Payload, Sha1, Sha256, Sha512, slice_cmp, text_of, V097}
use Rattle.bag_rules.specs.ExampleBags.{bag_of_0_97}
use Rattle.bag_rules.specs.Listed.{IsListed, IsUnlisted}
use Rattle.bag_rules.proofs.TwoManifests.{first_lists, none_lists}
use Rattle.bag_rules.proofs.FirstManifest.{first_md5}
use Rattle.bag_rules.proofs.examples.in_version_0_97_the_first_manifest_is_told_of_an_unlisted_file.Goals as goal

abbrev bag : Bag
bag = bag_of_0_97 []

-- no manifest lists anything, and the first is reported
none : (path : List ℕ) → ¬ IsListed V097 bag path
none path h = let k : false ≡ true = ap (λ pairs. lists_path pairs path) (sym (none_lists h.0 h.1 h.2)) ∙ h.3 in cc

first : (path : List ℕ) → IsUnlisted V097 bag Md5 path
first path = (record { there = ([], first_lists []); first = λ other pairs lists. first_md5 (λ alg. Unit {0}) other tt }, none path)

only : (alg : Alg) → slice_cmp nat_cmp (manifest_file Payload alg) (manifest_file Payload Md5) ≢ Greater → alg ≡ Md5
only Md5 at_most = refl
only Sha1 at_most = absurd (at_most refl)
only Sha256 at_most = absurd (at_most refl)
only Sha512 at_most = absurd (at_most refl)

one : (path : List ℕ) (alg : Alg) → IsUnlisted V097 bag alg path → alg ≡ Md5
one path alg unlisted = only alg (unlisted.0.first Md5 [] (first_lists []))

-- the entry of `fetch.txt`
abbrev line : FetchLine
line = fetch_line 1 (fetch_item (codes "http:x") None (codes "data/z"))

url : IsUrl (codes "http:x")
url = record { scheme = codes "http"; rest = codes "x"; whole = refl; is_scheme = search rules; some = λ e. cc; no_control = search rules }

adds : AddsEntry V097 [] 1 (codes "http:x - data/z") (line ∷ [])
unfolding until octets_spelled_after path_fault
adds = adds_entry (codes "http:x - data/z") None (codes "data/z") refl url refl refl (ascii_path (codes "data/z") refl refl) [] 1 refl

lists : FetchText V097 (codes "http:x - data/z") (line ∷ [])
unfolding lines_of
lists = text_of (AddsEntry V097) [] (codes "http:x - data/z") (line ∷ []) (line ∷ [], leads_on (AddsEntry V097) _ _ _ refl refl adds, refl)

not_fetched : HasFault bag (FetchNotListed Md5 (codes "data/z"))
not_fetched = (first (codes "data/z"), (line, record { lines = line ∷ []; lists = record { octets = codes "http:x - data/z"; there = (2, refl); text = lists }; has = inl refl }, refl))

pub returns : goal.returns
returns c = (
  (first (codes "data/a.txt"), (codes "abc", (1, refl)), refl),
  not_fetched,
  λ alg. (λ fault. one (codes "data/a.txt") alg fault.0, λ fault. one (codes "data/z") alg fault.0),
)
