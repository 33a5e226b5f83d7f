-- What is written for entries is read as these entries.
use Rattle.std.proofs.Common.{◌≡◌, ◌≢◌, ◌<◌, ◌^◌, ◌+◌, ℕ, false, List, [], ◌∷◌, ◌++◌, Option, Some, None, IfSome, codes, map, nat_eq, refl, sym, ap, ◌∙◌, subst, inr, arith, append_assoc, append-nil}
use Rattle.std.specs.List.{AllByRecursion, starts_with}
use Rattle.std.specs.Char.{IsAsciiDigit}
use Rattle.std.specs.Fmt.{decimal}
use Rattle.std.specs.Str.{IsUtf8}
use Rattle.std.proofs.lemmas.Bool.{ne_eqb}
use Rattle.std.proofs.lemmas.Bool.Decides.{nat_tests}
use Rattle.std.proofs.lemmas.List.Concat.{flat_map-cons}
use Rattle.std.proofs.lemmas.Str.{IsUtf8-append}
use Rattle.bag_path.specs.Lines.{IsPlain, written_lines}
use Rattle.bag_path.specs.Spellings.{written_spelling}
use Rattle.bag_path.specs.declared.version.Version.TheVariants.{V1}
use Rattle.bag_path.proofs.SpellsLemmas.{written_spells}
use Rattle.bag_tags.specs.declared.fetch.FetchLine.{FetchLine}
use Rattle.bag_tags.specs.Words.{is_blank, IsNotBlank, is_blank_line, begins_blank}
use Rattle.bag_tags.specs.TagLines.{mark, LeadsOn, Lead}
use Rattle.bag_tags.specs.FetchEntries.{FetchItem, IsUrl, IsScheme, IsSchemeOctet, IsUrlOctet, written_length}
use Rattle.bag_tags.specs.Fetches.{CanBeFetched, fetch_line, numbered_from, written_line, written_fetch}
use Rattle.bag_tags.specs.FetchText.{IsLength, AddsEntry, FetchText}
use Rattle.bag_tags.proofs.NumeralLemmas.{digits_utf8}
use Rattle.bag_tags.proofs.OxumLemmas.{decimal_numeral}
use Rattle.bag_tags.proofs.TextCutLemmas.{all_both, utf8_one}
use Rattle.bag_tags.proofs.WritingLemmas.{numbered_texts, written_text, lines_cons, written_utf8, path_plain, payload_begins}
use Rattle.bag_tags.proofs.WordsLemmas.{each}

-- the text of a line
abbrev entry_text : FetchItem → List ℕ
entry_text entry = entry.url ++ codes " " ++ written_length entry.octets ++ codes " " ++ written_spelling entry.path

abbrev pub line_text : FetchLine → List ℕ
line_text line = entry_text line.entry

pub fetch_written : (lines : List FetchLine) → written_fetch lines ≡ written_lines (map line_text lines)
fetch_written [] = refl
fetch_written (line ∷ lines) = flat_map-cons written_line line lines ∙ ap (λ xs. written_line line ++ xs) (fetch_written lines) ∙ sym (lines_cons (line_text line) (map line_text lines))

-- the octets of a URL
all_graphic : (scheme : List ℕ) → IsScheme scheme → AllByRecursion (λ x. 32 < x) scheme
all_graphic [] h = absurd h
all_graphic (x ∷ scheme) h = (omega (arith, h.0), each IsSchemeOctet (λ x. 32 < x) (λ x o. omega (arith, o)) scheme h.1)

url_graphic : (url : List ℕ) → IsUrl url → AllByRecursion (λ x. 32 < x) url
url_graphic url h = subst (AllByRecursion (λ x. 32 < x)) (sym h.whole) (all_both (λ x. 32 < x) h.scheme (58 ∷ h.rest) (all_graphic h.scheme h.is_scheme) (omega arith, each IsUrlOctet (λ x. 32 < x) (λ x o. o.0) h.rest h.no_control))

graphic_not_blank : (x : ℕ) → 32 < x → is_blank x ≡ false
graphic_not_blank x h = grind (arith, nat_tests)

graphic_plain : (x : ℕ) → 32 < x → IsPlain x
graphic_plain x h = (λ e. omega arith, λ e. omega arith)

-- the octets of a length
length_graphic : (octets : Option ℕ) → IfSome octets (λ n. n < 2 ^ 64) → AllByRecursion (λ x. 32 < x) (written_length octets)
length_graphic None h = (omega arith, tt)
length_graphic (Some n) h = each IsAsciiDigit (λ x. 32 < x) (λ x d. omega (arith, d)) (decimal n) (decimal_numeral n h).digits

length_utf8 : (octets : Option ℕ) → IfSome octets (λ n. n < 2 ^ 64) → IsUtf8 (written_length octets)
length_utf8 None h = utf8_one 45 (omega arith)
length_utf8 (Some n) h = digits_utf8 (decimal n) (decimal_numeral n h).digits

length_some : (octets : Option ℕ) → IfSome octets (λ n. n < 2 ^ 64) → written_length octets ≢ []
length_some None h = λ e. cc
length_some (Some n) h = (decimal_numeral n h).some

length_says : (octets : Option ℕ) → IfSome octets (λ n. n < 2 ^ 64) → IsLength (written_length octets) octets
length_says None h = refl
length_says (Some n) h = (decimal_numeral n h, h)

begins_graphic : (xs ys : List ℕ) → xs ≢ [] → AllByRecursion (λ x. 32 < x) xs → begins_blank (xs ++ ys) ≡ false
begins_graphic [] ys some h = absurd (some refl)
begins_graphic (x ∷ xs) ys some h = graphic_not_blank x h.0

-- a line without line ends
text_plain : (line : FetchLine) → CanBeFetched line → AllByRecursion IsPlain (line_text line)
text_plain line h =
    let e = line.entry in
    let space : IsPlain 32 = (λ e. cc, λ e. cc) in
    let plain = λ (xs : List ℕ) (g : AllByRecursion (λ x. 32 < x) xs). each (λ x. 32 < x) IsPlain graphic_plain xs g in
    all_both IsPlain (e.url ++ codes " " ++ written_length e.octets ++ codes " ") (written_spelling e.path)
    (all_both IsPlain (e.url ++ codes " " ++ written_length e.octets) (codes " ")
    (all_both IsPlain (e.url ++ codes " ") (written_length e.octets)
    (all_both IsPlain e.url (codes " ") (plain e.url (url_graphic e.url h.0.url)) (space, tt))
    (plain (written_length e.octets) (length_graphic e.octets h.1)))
    (space, tt))
    (path_plain e.path)

pub texts_plain : (lines : List FetchLine) → AllByRecursion CanBeFetched lines → AllByRecursion (AllByRecursion IsPlain) (map line_text lines)
texts_plain [] h = tt
texts_plain (line ∷ lines) h = (text_plain line h.0, texts_plain lines h.1)

-- a line begins with a letter
scheme_unmarked : (scheme rest : List ℕ) → IsScheme scheme → starts_with nat_eq (scheme ++ rest) mark ≡ false
scheme_unmarked [] rest h = absurd h
scheme_unmarked (x ∷ scheme) rest h = rw (ne_eqb 239 x (λ e. omega (arith, h.0))) refl

scheme_not_blank : (scheme rest : List ℕ) → IsScheme scheme → is_blank_line (scheme ++ rest) ≡ false
scheme_not_blank [] rest h = absurd h
scheme_not_blank (x ∷ scheme) rest h = rw (graphic_not_blank x (omega (arith, h.0))) refl

all_right : (s r a b c d rest : List ℕ) → (s ++ r) ++ a ++ b ++ c ++ d ++ rest ≡ s ++ (r ++ (a ++ (b ++ (c ++ (d ++ rest)))))
all_right s r a b c d rest = simp append_assoc

from_scheme : (url : List ℕ) (h : IsUrl url) (a b c d rest : List ℕ) → url ++ a ++ b ++ c ++ d ++ rest ≡ h.scheme ++ ((58 ∷ h.rest) ++ (a ++ (b ++ (c ++ (d ++ rest)))))
from_scheme url h a b c d rest = ap (λ u. u ++ a ++ b ++ c ++ d ++ rest) h.whole ∙ all_right h.scheme (58 ∷ h.rest) a b c d rest

-- the parts of a line
gives : (line : FetchLine) (n : ℕ) (before : List FetchLine) → CanBeFetched line → AddsEntry V1 before n (line_text line) (before ++ fetch_line n line.entry ∷ [])
gives line n before h =
    let e = line.entry in
    let len = written_length e.octets in
    let graphic = length_graphic e.octets h.1 in
    record {
      entry = e;
      gives = record {
        length = len;
        path_text = written_spelling e.path;
        words = record {
          after_url = codes " ";
          rest = len ++ codes " " ++ written_spelling e.path;
          after_length = codes " ";
          url_cut = record {
            whole = regroup e.url len (written_spelling e.path);
            word_ends = each (λ x. 32 < x) IsNotBlank graphic_not_blank e.url (url_graphic e.url h.0.url);
            some_blank = λ k. cc;
            only_blanks = (refl, tt);
            rest_begins = ap begins_blank (append_assoc len (codes " ") (written_spelling e.path)) ∙ begins_graphic len (codes " " ++ written_spelling e.path) (length_some e.octets h.1) graphic;
          };
          length_cut = record {
            whole = refl;
            word_ends = each (λ x. 32 < x) IsNotBlank graphic_not_blank len graphic;
            some_blank = λ k. cc;
            only_blanks = (refl, tt);
            rest_begins = payload_begins e.path h.0.payload;
          };
        };
        is_url = h.0.url;
        is_length = length_says e.octets h.1;
        spells = written_spells e.path;
        is_path = h.0.path;
      };
      payload = h.0.payload;
      adds = refl;
    }
  where
    regroup : (url len path : List ℕ) → url ++ codes " " ++ len ++ codes " " ++ path ≡ url ++ codes " " ++ (len ++ codes " " ++ path)
    regroup url len path = simp append_assoc

not_blank : (line : FetchLine) → CanBeFetched line → is_blank_line (line_text line) ≡ false
not_blank line h =
    let e = line.entry in
    ap is_blank_line (sym (append-nil (line_text line)) ∙ from_scheme e.url h.0.url (codes " ") (written_length e.octets) (codes " ") (written_spelling e.path) [])
    ∙ scheme_not_blank h.0.url.scheme ((58 ∷ h.0.url.rest) ++ (codes " " ++ (written_length e.octets ++ (codes " " ++ (written_spelling e.path ++ []))))) h.0.url.is_scheme

line_utf8 : (line : FetchLine) → CanBeFetched line → IsUtf8 (line_text line)
line_utf8 line h =
    let e = line.entry in
    let len = written_length e.octets in
    IsUtf8-append (e.url ++ codes " " ++ len ++ codes " ") (written_spelling e.path)
    (IsUtf8-append (e.url ++ codes " " ++ len) (codes " ") (IsUtf8-append (e.url ++ codes " ") len (IsUtf8-append e.url (codes " ") h.0.utf8 (utf8_one 32 (omega arith))) (length_utf8 e.octets h.1)) (utf8_one 32 (omega arith)))
    (written_utf8 e.path h.0.path.utf8)

lead_fetch : (lines before : List FetchLine) (n : ℕ) → AllByRecursion CanBeFetched lines → Lead (LeadsOn (AddsEntry V1)) before (numbered_texts n (map line_text lines)) (before ++ numbered_from n lines)
lead_fetch [] before n h = append-nil before
lead_fetch (line ∷ lines) before n h = (
  before ++ fetch_line n line.entry ∷ [],
  inr (not_blank line h.0, line_utf8 line h.0, gives line n before h.0),
  subst (λ after. Lead (LeadsOn (AddsEntry V1)) (before ++ fetch_line n line.entry ∷ []) (numbered_texts (n + 1) (map line_text lines)) after)
      (append_assoc before (fetch_line n line.entry ∷ []) (numbered_from (n + 1) lines)) (lead_fetch lines (before ++ fetch_line n line.entry ∷ []) (n + 1) h.1),
)

fetch_unmarked : (lines : List FetchLine) → AllByRecursion CanBeFetched lines → starts_with nat_eq (written_lines (map line_text lines)) mark ≡ false
fetch_unmarked [] h = refl
fetch_unmarked (line ∷ lines) h =
    let e = line.entry in
    let u = h.0.0.url in
    let more = 10 ∷ [] ++ written_lines (map line_text lines) in
    ap (λ octets. starts_with nat_eq octets mark)
    (lines_cons (line_text line) (map line_text lines) ∙ append_assoc (line_text line) (10 ∷ []) (written_lines (map line_text lines))
    ∙ from_scheme e.url u (codes " ") (written_length e.octets) (codes " ") (written_spelling e.path) more)
    ∙ scheme_unmarked u.scheme ((58 ∷ u.rest) ++ (codes " " ++ (written_length e.octets ++ (codes " " ++ (written_spelling e.path ++ more))))) u.is_scheme

pub fetch_reads : (octets : List ℕ) (lines : List FetchLine) → octets ≡ written_fetch lines → AllByRecursion CanBeFetched lines → FetchText V1 octets (numbered_from 1 lines)
fetch_reads octets lines e h = subst (λ text. FetchText V1 text (numbered_from 1 lines)) (sym (e ∙ fetch_written lines))
    (written_text (AddsEntry V1) [] (numbered_from 1 lines) (map line_text lines) (fetch_unmarked lines h) (texts_plain lines h) (lead_fetch lines [] 1 h))
