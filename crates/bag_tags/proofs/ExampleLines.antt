-- Lines of worked examples in ASCII. What they give is computed from their parts.
use Rattle.std.proofs.Common.{◌≡◌, ◌-◌, ◌==◌, ℕ, true, false, List, ◌∷◌, [], ◌++◌, length, nat_eq, slice_index, Option, Some, refl, inl, inr}
use Rattle.std.specs.List.{starts_with}
use Rattle.bag_path.specs.Lines.{lines_of}
use Rattle.bag_path.specs.Paths.{IsPath, is_payload}
use Rattle.bag_path.specs.SpellingReading.{octets_spelled}
use Rattle.bag_path.specs.declared.version.Version.{Version}
use Rattle.bag_path.specs.declared.version.Version.TheVariants.{V1}
use Rattle.bag_path.proofs.AsciiLemmas.{is_ascii_text, ascii_utf8}
use Rattle.bag_path.proofs.LinesLemmas.{one_list}
use Rattle.bag_path.proofs.SpellsLemmas.{spells_if_read}
use Rattle.bag_digest.specs.declared.digest.Digest.{Digest}
use Rattle.bag_digest.specs.Spelling.{SpellsDigest}
use Rattle.bag_tags.specs.declared.tag_fault.LineCause.{LineCause}
use Rattle.bag_tags.specs.declared.fetch.FetchLine.{FetchLine}
use Rattle.bag_tags.specs.FetchEntries.{fetch_item, IsUrl}
use Rattle.bag_tags.specs.Fetches.{fetch_line}
use Rattle.bag_tags.specs.FetchText.{AreWords, IsLength, GivesEntry, AddsEntry}
use Rattle.bag_tags.specs.Infos.{MetadataElement, element, element_with_line, IsFit}
use Rattle.bag_tags.specs.InfoText.{AddsInfo, HasParts}
use Rattle.bag_tags.specs.Listings.{Listing, pair, with_pair, IsInPlace, lists_path}
use Rattle.bag_tags.specs.Manifests.{plain_path, HasChecksum, Gives, AddsPair}
use Rattle.bag_tags.specs.TagLines.{mark, TagLine, LeadsOn, Lead, IsTextOf, IsFirstFault, AreExact}
use Rattle.bag_tags.specs.Words.{is_blank, begins_blank, is_blank_line, without}
use Rattle.bag_tags.specs.WordsReading.{until, is_not_blank}
use Rattle.bag_tags.proofs.FetchLineLemmas.{words_of, gives_of}
use Rattle.bag_tags.proofs.InfoLineLemmas as info
use Rattle.bag_tags.proofs.NumeralLemmas.{not_empty}
use Rattle.bag_tags.proofs.TagLinesLemmas.{numbered, first_fault}
use Rattle.bag_tags.proofs.WordsLemmas.{word_of, after_word, after_blanks, cut_at}

-- the value that the lines lead to
pub text_of : {A : Type 0} (leads : A → ℕ → List ℕ → A → Type 0) (start : A) (octets : List ℕ) (value : A) → Lead (LeadsOn leads) start (numbered octets) value → IsTextOf leads start octets value
text_of leads start octets value led = record {
  lines = lines_of (without mark octets);
  has_lines = (one_list (without mark octets) (lines_of (without mark octets))).1 refl;
  lead = led;
}

-- a line that leads on
pub leads_on : {A : Type 0} (leads : A → ℕ → List ℕ → A → Type 0) (before : A) (line : TagLine) (after : A) → is_blank_line line.text ≡ false → is_ascii_text line.text ≡ true → leads before line.number line.text after → LeadsOn leads before line after
leads_on leads before line after not_blank ascii on = inr (not_blank, ascii_utf8 line.text ascii, on)

-- the faulty line among the lines
pub faulty : {A : Type 0} (leads : A → ℕ → List ℕ → A → Type 0) (refuses : A → List ℕ → LineCause → Type 0) → AreExact leads refuses
    → (start so_far : A) (octets : List ℕ) (before after : List TagLine) (line : TagLine) (cause : LineCause)
    → numbered octets ≡ before ++ line ∷ after → Lead (LeadsOn leads) start before so_far → is_blank_line line.text ≡ false → is_ascii_text line.text ≡ true → refuses so_far line.text cause
    → IsFirstFault leads refuses start octets (record { line = line.number; cause = cause })
faulty leads refuses exact start so_far octets before after line cause cut led not_blank ascii refused = first_fault leads refuses exact start octets (record { line = line.number; cause = cause }) (record {
  lines = lines_of (without mark octets);
  has_lines = (one_list (without mark octets) (lines_of (without mark octets))).1 refl;
  before = before;
  faulty = line;
  after = after;
  cut = cut;
  so_far = so_far;
  lead = led;
  number = refl;
  refused = (not_blank, inr (ascii_utf8 line.text ascii, refused));
})

-- a line, by its number and its text
abbrev pub at : ℕ → List ℕ → TagLine
at number text = record { number = number; text = text }

-- manifests
module _ (before : Listing) (text : List ℕ) (digest : Digest) (some : (length (after_word text) == 0) ≡ false) (digits : SpellsDigest before.alg (word_of text) digest) where
  pub checksum : HasChecksum before.alg text digest (after_blanks (after_word text))
  checksum = record {
    checksum = word_of text;
    blanks = (until is_not_blank (after_word text)).0;
    cut = cut_at text some;
    spells_digest = digits;
  }

  module _ {version : Version} (path : List ℕ) (spelled_so : octets_spelled version (plain_path (after_blanks (after_word text))) ≡ Some path) (is_path : IsPath path) where
    pub gives : Gives version before.alg text path digest
    gives = record { path_text = after_blanks (after_word text); checksum = checksum; spells = spells_if_read version path (plain_path (after_blanks (after_word text))) spelled_so; is_path = is_path }

    pub adds_pair : (number : ℕ) → IsInPlace before.kind path → lists_path before.pairs path ≡ false → AddsPair version before number text (with_pair before (pair path digest))
    adds_pair number in_place new = record {
      path = path;
      digest = digest;
      gives = gives;
      admitted = record { by_alg = digits.by_alg; in_place = in_place; not_listed = new };
      added = refl;
    }

-- `bag-info.txt`
pub fit : (label : List ℕ) → (length label == 0) ≡ false → is_blank (slice_index label 0) ≡ false → is_blank (slice_index label (length label - 1)) ≡ false → starts_with nat_eq label mark ≡ false → IsFit label
fit label some begins ends unmarked = record { some = not_empty label some; begins = begins; ends = ends; unmarked = unmarked }

pub adds_element : (version : Version) (before : List MetadataElement) (number : ℕ) (text label first : List ℕ) → HasParts version text label first → IsFit label → AddsInfo version before number text (before ++ element label first ∷ [])
adds_element version before number text label first parts is_fit = inr (record {
  element = element label first;
  gives = record { parts = parts; fit = is_fit };
  adds = refl;
})

pub adds_line : (earlier : List MetadataElement) (last : MetadataElement) (number : ℕ) (text : List ℕ) → begins_blank text ≡ true → AddsInfo V1 (earlier ++ last ∷ []) number text (earlier ++ element_with_line last (until is_not_blank text).1 ∷ [])
adds_line earlier last number text begins = inl (record {
  earlier = earlier;
  last = last;
  line = (until is_not_blank text).1;
  indented = info.indented text (until is_not_blank text).0 (until is_not_blank text).1 refl begins;
  has_last = refl;
  continues = refl;
})

-- `fetch.txt`
abbrev pub rest_of : List ℕ → List ℕ
rest_of text = after_blanks (after_word text)

pub has_words : (text : List ℕ) → (length (after_word (rest_of text)) == 0) ≡ false → AreWords text (word_of text) (word_of (rest_of text)) (rest_of (rest_of text))
has_words text some = words_of text _ _ _ _ _ _ _ _ refl refl refl some refl

module _ {version : Version} (text : List ℕ) (octets : Option ℕ) (path : List ℕ) (some : (length (after_word (rest_of text)) == 0) ≡ false) (is_url : IsUrl (word_of text)) (is_length : IsLength (word_of (rest_of text)) octets) (spelled_so : octets_spelled version (rest_of (rest_of text)) ≡ Some path) (is_path : IsPath path) where
  pub gives_entry : GivesEntry version text (fetch_item (word_of text) octets path)
  gives_entry = gives_of version text (word_of text) (word_of (rest_of text)) (rest_of (rest_of text)) octets path (has_words text some) is_url is_length (spells_if_read version path (rest_of (rest_of text)) spelled_so) is_path

  pub adds_entry : (before : List FetchLine) (number : ℕ) → is_payload path ≡ true → AddsEntry version before number text (before ++ fetch_line number (fetch_item (word_of text) octets path) ∷ [])
  adds_entry before number payload = record { entry = fetch_item (word_of text) octets path; gives = gives_entry; payload = payload; adds = refl }
