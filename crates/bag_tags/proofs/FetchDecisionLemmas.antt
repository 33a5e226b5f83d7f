-- A line of `fetch.txt` adds an entry or is refused, and reading is exact.
use Rattle.std.proofs.Common.{◌≡◌, ◌≢◌, ◌<◌, ◌^◌, ◌==◌, ◌⊎◌, ◌++◌, ℕ, false, List, [], ◌∷◌, codes, length, drop, Option, Some, None, refl, inl, inr, true, sym, ap, ◌∙◌, subst}
use Rattle.std.specs.Char.{IsAsciiAlphabetic}
use Rattle.std.specs.List.{AllByRecursion}
use Rattle.std.specs.Str.{IsUtf8, bytes_eq}
use Rattle.std.proofs.lemmas.Bool.{cases_Bool}
use Rattle.std.proofs.lemmas.Slice.Eq.{bytes_eq-Decides}
use Rattle.bag_path.specs.declared.version.Version.{Version}
use Rattle.bag_path.specs.Paths.{is_payload}
use Rattle.bag_tags.specs.declared.tag_fault.LineCause.{LineCause}
use Rattle.bag_tags.specs.declared.tag_fault.LineCause.TheVariants.{NoSeparator, BadUrl, BadLength, BadPath, WrongPlace}
use Rattle.bag_tags.specs.declared.fetch.FetchLine.{FetchLine}
use Rattle.bag_tags.specs.Numerals.{IsNumeral}
use Rattle.bag_tags.specs.Words.{is_blank}
use Rattle.bag_tags.specs.WordsReading.{until, is_not_blank, is_colon}
use Rattle.bag_tags.specs.FetchEntries.{FetchItem, fetch_item, IsUrl, IsScheme, IsSchemeOctet, IsUrlOctet}
use Rattle.bag_tags.specs.Fetches.{fetch_line}
use Rattle.bag_tags.specs.FetchText.{AreWords, IsLength, GivesEntry, AddsEntry, RefusesFetchLine, HasNoPath, GivesNoEntry}
use Rattle.bag_tags.specs.TagLines.{AreExact}
use Rattle.bag_tags.proofs.DecisionLemmas.{Decided, decided_as, decided_by, decided_both, decided_either, decided_not, decided_all, decided_below, decided_equal, decided_letter, decided_digit, decided_true}
use Rattle.bag_tags.proofs.FetchLineLemmas.{fetch_one, words_utf8, gives_of, url_of, url_parts, one_words, one_entry, not_lacking}
use Rattle.bag_tags.proofs.OxumDecisionLemmas.{numeral_or_none}
use Rattle.bag_tags.proofs.PathDecisionLemmas.{path_or_fault, one_path_fault, no_path}
use Rattle.bag_tags.proofs.WordsLemmas.{word_of, after_word, after_blanks, cut_at, none_passes}
use Rattle.bag_path.specs.declared.path.PathFault.{PathFault}
use Rattle.bag_path.specs.Spellings.{Spells}
use Rattle.bag_tags.specs.Manifests.{SpellsNoPath}
use Rattle.bag_tags.proofs.CauseLemmas.{Fate, AtMostOne, Is, Unless, on, for, one_is, one_unless, same_cause, on_or_for}

-- ONE CAUSE AT MOST
module _ (version : Version) (text : List ℕ) where
  -- what a line has to have, in this order
  abbrev SomeWords : Type 0
  SomeWords = (url length path_text : List ℕ) × AreWords text url length path_text

  abbrev SomeUrl : Type 0
  SomeUrl = (url length path_text : List ℕ) × AreWords text url length path_text × IsUrl url

  abbrev SomeLength : Type 0
  SomeLength = (url length path_text : List ℕ) × AreWords text url length path_text × ((number : Option ℕ) × IsLength length number)

  abbrev SomeEntry : Type 0
  SomeEntry = (entry : FetchItem) × GivesEntry version text entry

  abbrev OfPayload : Type 0
  OfPayload = (entry : FetchItem) × GivesEntry version text entry × (is_payload entry.path ≡ true)

  -- the fate of the text of a path
  abbrev OfPath : Fate → Type 0
  OfPath fate = (fault : PathFault) × (fate ≡ for (BadPath fault)) × HasNoPath version text fault

  -- the fate of a line, by the first of these that it lacks
  abbrev AfterLength : Fate → Type 0
  AfterLength = Unless SomeEntry OfPath (Unless OfPayload (Is (for WrongPlace)) (Is on))

  abbrev AfterWords : Fate → Type 0
  AfterWords = Unless SomeUrl (Is (for BadUrl)) (Unless SomeLength (Is (for BadLength)) AfterLength)

  abbrev HasFate : Fate → Type 0
  HasFate = Unless SomeWords (Is (for NoSeparator)) AfterWords

  one_of_path : AtMostOne OfPath
  one_of_path c d h k =
      let a = h.2 in
      let b = k.2 in
      let same = one_words text a.url a.length a.path_text b.url b.length b.path_text a.words b.words in
      h.1 ∙ ap (λ f. for (BadPath f)) (one_path_fault version b.path_text h.0 k.0 (subst (SpellsNoPath h.0 version) same.2 a.no_path) b.no_path) ∙ sym k.1

  one_fate : AtMostOne HasFate
  one_fate =
      one_unless SomeWords (Is (for NoSeparator)) _ (one_is _)
      (one_unless SomeUrl (Is (for BadUrl)) _ (one_is _)
      (one_unless SomeLength (Is (for BadLength)) _ (one_is _)
      (one_unless SomeEntry OfPath _ one_of_path
      (one_unless OfPayload (Is (for WrongPlace)) (Is on) (one_is _) (one_is _)))))

  -- a line with words, and one with a length
  with_words : (fate : Fate) (u l p : List ℕ) → AreWords text u l p → AfterWords fate → HasFate fate
  with_words fate u l p h later = inr ((u, l, p, h), later)

  with_length : (fate : Fate) (u l p : List ℕ) (number : Option ℕ) → AreWords text u l p → IsUrl u → IsLength l number → AfterLength fate → HasFate fate
  with_length fate u l p number h url length later = with_words fate u l p h (inr ((u, l, p, h, url), inr ((u, l, p, h, (number, length)), later)))

  with_entry : (fate : Fate) (entry : FetchItem) → GivesEntry version text entry → Unless OfPayload (Is (for WrongPlace)) (Is on) fate → HasFate fate
  with_entry fate entry g later = with_length fate entry.url g.length g.path_text entry.octets g.words g.is_url g.is_length (inr ((entry, g), later))

  -- a line with a bad path gives no entry
  no_entry : (fault : PathFault) → HasNoPath version text fault → SomeEntry → ⊥
  no_entry fault r h =
      let g = h.1 in
      let same = one_words text h.0.url g.length g.path_text r.url r.length r.path_text g.words r.words in
      no_path version r.path_text h.0.path fault (subst (Spells version h.0.path) same.2 g.spells) g.is_path r.no_path

  refused_fate : (cause : LineCause) → GivesNoEntry version text cause → HasFate (for cause)
  refused_fate NoSeparator r = inl (λ h. not_lacking text h.0 h.1 h.2 h.3 r, refl)
  refused_fate BadUrl r = with_words _ r.url r.length r.path_text r.words (inl (λ h. r.no_url (subst IsUrl (one_words text h.0 h.1 h.2 r.url r.length r.path_text h.3 r.words).0 h.4), refl))
  refused_fate BadLength r = with_words _ r.url r.length r.path_text r.words (inr ((r.url, r.length, r.path_text, r.words, r.is_url), inl (λ h. r.no_length h.4.0 (subst (λ t. IsLength t h.4.0) (one_words text h.0 h.1 h.2 r.url r.length r.path_text h.3 r.words).1 h.4.1), refl)))
  refused_fate (BadPath fault) r = with_length _ r.url r.length r.path_text r.number r.words r.is_url r.is_length (inl (no_entry fault r, (fault, refl, r)))
  refused_fate WrongPlace r = with_entry _ r.entry r.gives (inl (λ h. r.no_payload (ap (λ (e : FetchItem). is_payload e.path) (one_entry version text r.entry h.0 r.gives h.1) ∙ h.2), refl))
  refused_fate cause r = absurd r

  pub one_cause : (before : List FetchLine) (cause other : LineCause) → GivesNoEntry version text cause → GivesNoEntry version text other → cause ≡ other
  one_cause before cause other r s = same_cause cause other (one_fate (for cause) (for other) (refused_fate cause r) (refused_fate other s))

  pub not_both : (before : List FetchLine) (number : ℕ) (next : List FetchLine) (cause : LineCause) → AddsEntry version before number text next → GivesNoEntry version text cause → ⊥
  not_both before number next cause a r = on_or_for cause (one_fate on (for cause) (with_entry on a.entry a.gives (inr ((a.entry, a.gives, a.payload), refl))) (refused_fate cause r))

-- ONE ENTRY, OR A CAUSE
decided_scheme_octet : (octet : ℕ) → Decided (IsSchemeOctet octet)
decided_scheme_octet octet =
    decided_either _ _ (decided_letter octet)
    (decided_either _ _ (decided_digit octet)
    (decided_either _ _ (decided_equal octet 43)
    (decided_either _ _ (decided_equal octet 45) (decided_equal octet 46))))

decided_scheme : (scheme : List ℕ) → Decided (IsScheme scheme)
decided_scheme [] = inr (λ h. h)
decided_scheme (octet ∷ octets) = decided_both (IsAsciiAlphabetic octet) (AllByRecursion IsSchemeOctet octets) (decided_letter octet) (decided_all IsSchemeOctet decided_scheme_octet octets)

decided_url_octet : (octet : ℕ) → Decided (IsUrlOctet octet)
decided_url_octet octet = decided_both (32 < octet) (octet ≢ 127) (decided_below 32 octet) (decided_not (octet ≡ 127) (decided_equal octet 127))

-- a URL, by its parts
abbrev UrlParts : List ℕ → List ℕ → Type 0
UrlParts scheme rest = IsScheme scheme × ((1 < length rest) × AllByRecursion IsUrlOctet (drop 1 rest))

pub decided_url : (url : List ℕ) → Decided (IsUrl url)
decided_url url =
    let scheme = (until is_colon url).0 in
    let rest = (until is_colon url).1 in
    decided_as (UrlParts scheme rest) (IsUrl url) (λ h. url_of url scheme rest refl h.0 h.1) (λ h. url_parts url scheme rest refl h)
    (decided_both _ _ (decided_scheme scheme) (decided_both _ _ (decided_below 1 (length rest)) (decided_all IsUrlOctet decided_url_octet (drop 1 rest))))

-- a text either is a length or isn't
no_length : (text : List ℕ) → ¬ (text ≡ codes "-") → ((n : ℕ) → IsNumeral text n → n < 2 ^ 64 → ⊥) → (octets : Option ℕ) → ¬ IsLength text octets
no_length text other none None h = other h
no_length text other none (Some n) h = none n h.0 h.1

pub length_or_none : (text : List ℕ) → ((octets : Option ℕ) × IsLength text octets) ⊎ ((octets : Option ℕ) → ¬ IsLength text octets)
length_or_none text = elim (decided_by (text ≡ codes "-") (bytes_eq text (codes "-")) (bytes_eq-Decides text (codes "-"))) [
  | inl dash ↦ inl (None, dash)
  | inr other ↦ elim (numeral_or_none text) [
    | inl n ↦ inl (Some n.0, (n.1, n.2))
    | inr none ↦ inr (no_length text other none)
  ]
]

module _ (version : Version) (before : List FetchLine) (number : ℕ) (text : List ℕ) where
  abbrev EntryOrCause : Type 0
  EntryOrCause = ((next : List FetchLine) × AddsEntry version before number text next) ⊎ ((cause : LineCause) × RefusesFetchLine version before text cause)

  -- a line that gives an entry
  of_entry : (entry : FetchItem) → GivesEntry version text entry → EntryOrCause
  of_entry entry gives = elim (decided_true (is_payload entry.path)) [
    | inl payload ↦ inl (before ++ fetch_line number entry ∷ [], record { entry = entry; gives = gives; payload = payload; adds = refl })
    | inr other ↦ inr (WrongPlace, record { entry = entry; gives = gives; no_payload = other })
  ]

  -- a line with a URL and a length
  of_length : (url len path_text : List ℕ) (octets : Option ℕ) → IsUtf8 text → AreWords text url len path_text → IsUrl url → IsLength len octets → EntryOrCause
  of_length url len path_text octets utf8 words is_url is_length = elim (path_or_fault version path_text (words_utf8 text url len path_text words utf8).1) [
    | inl p ↦ of_entry (fetch_item url octets p.0) (gives_of version text url len path_text octets p.0 words is_url is_length p.1 p.2)
    | inr f ↦ inr (BadPath f.0, record { url = url; length = len; path_text = path_text; number = octets; words = words; is_url = is_url; is_length = is_length; no_path = f.1 })
  ]

  -- a line of three words
  of_words : (url len path_text : List ℕ) → IsUtf8 text → AreWords text url len path_text → EntryOrCause
  of_words url len path_text utf8 words = elim (decided_url url) [
    | inr none ↦ inr (BadUrl, record { url = url; length = len; path_text = path_text; words = words; no_url = none })
    | inl is_url ↦ elim (length_or_none len) [
      | inr none ↦ inr (BadLength, record { url = url; length = len; path_text = path_text; words = words; is_url = is_url; no_length = none })
      | inl l ↦ of_length url len path_text l.0 utf8 words is_url l.1
    ]
  ]

  -- a line with a blank
  of_cut : IsUtf8 text → (length (after_word text) == 0) ≡ false → EntryOrCause
  of_cut utf8 some =
      let rest = after_blanks (after_word text) in
      let cut = cut_at text some in
      elim (cases_Bool (length (after_word rest) == 0)) [
        | inl none ↦ inr (NoSeparator, inr (word_of text, ((until is_not_blank (after_word text)).0, (rest, cut, none_passes is_blank rest none))))
        | inr more ↦ of_words (word_of text) (word_of rest) (after_blanks (after_word rest)) utf8 (record {
          after_url = (until is_not_blank (after_word text)).0;
          rest = rest;
          after_length = (until is_not_blank (after_word rest)).0;
          url_cut = cut;
          length_cut = cut_at rest more;
        })
      ]

  entry_or_cause : IsUtf8 text → EntryOrCause
  entry_or_cause utf8 = elim (cases_Bool (length (after_word text) == 0)) [
    | inl none ↦ inr (NoSeparator, inl (none_passes is_blank text none))
    | inr some ↦ of_cut utf8 some
  ]

pub fetch_exact : (version : Version) → AreExact (AddsEntry version) (RefusesFetchLine version)
fetch_exact version = record {
  one_value = fetch_one version;
  one_cause = λ before text. one_cause version text before;
  not_both = λ before number text. not_both version text before number;
  one_of_both = entry_or_cause version;
}
