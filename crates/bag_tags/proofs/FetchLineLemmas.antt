-- A line of `fetch.txt` adds one entry.
use Rattle.std.proofs.Common.{◌≡◌, ◌==◌, ◌<◌, ℕ, Bool, true, false, List, [], ◌∷◌, ◌++◌, Option, Some, None, codes, length, refl, sym, ap, ◌∙◌, subst, inl, inr, arith, append_assoc, drop}
use Rattle.std.specs.List.{AllByRecursion}
use Rattle.std.specs.Str.{IsUtf8}
use Rattle.std.proofs.lemmas.Bool.{cases_Bool, ne_eqb}
use Rattle.bag_path.specs.declared.version.Version.{Version}
use Rattle.bag_path.specs.Paths.{IsPath}
use Rattle.bag_path.specs.Spellings.{Spells}
use Rattle.bag_path.proofs.SpellsLemmas.{one_path}
use Rattle.bag_tags.specs.declared.fetch.FetchLine.{FetchLine}
use Rattle.bag_tags.specs.Numerals.{IsNumeral}
use Rattle.bag_tags.specs.Words.{is_blank, IsNotBlank, IsCut}
use Rattle.bag_tags.specs.WordsReading.{until, is_not_blank, is_colon}
use Rattle.bag_tags.specs.FetchEntries.{FetchItem, fetch_item, IsUrl, IsScheme, IsSchemeOctet, IsUrlOctet}
use Rattle.bag_tags.specs.Fetches.{fetch_line}
use Rattle.bag_tags.specs.FetchText.{AreWords, IsLength, GivesEntry, AddsEntry, LacksWord}
use Rattle.bag_tags.proofs.ManifestLemmas.{cut_by, same_word, same_rest, no_cut}
use Rattle.bag_tags.proofs.NumeralLemmas.{some_length}
use Rattle.bag_tags.proofs.WordsLemmas.{none_passes, until_here, begins_with, each}
use Rattle.bag_tags.proofs.TextCutLemmas.{first_of, blank_below, utf8_before, utf8_after, utf8_after_blanks, second_of, whole_of}
use Rattle.bag_tags.proofs.InfoLineLemmas.{is_58}

pub one_words : (text u l p v m q : List ℕ) → AreWords text u l p → AreWords text v m q → (u ≡ v) × (l ≡ m) × (p ≡ q)
one_words text u l p v m q h k =
    let rest = same_rest text u h.after_url h.rest v k.after_url k.rest h.url_cut k.url_cut in
    let cut = subst (λ xs. IsCut xs l h.after_length p) rest h.length_cut in (
      (same_word text u h.after_url h.rest v k.after_url k.rest h.url_cut k.url_cut).0,
      (same_word k.rest l h.after_length p m k.after_length q cut k.length_cut).0,
      same_rest k.rest l h.after_length p m k.after_length q cut k.length_cut,
    )

pub not_lacking : (text u l p : List ℕ) → AreWords text u l p → LacksWord text → ⊥
not_lacking text u l p h n = elim n [
  | inl a ↦ no_cut text u h.after_url h.rest h.url_cut a
  | inr a ↦ no_cut h.rest l h.after_length p h.length_cut (subst (AllByRecursion IsNotBlank) (same_rest text a.0 a.1.0 a.1.1.0 u h.after_url h.rest a.1.1.1 h.url_cut) a.1.1.2)
]

-- a text is one length
dash_no_numeral : (n : ℕ) → IsNumeral (codes "-") n → ⊥
dash_no_numeral n h = absurd (let d = h.digits.0 in omega arith)

one_length : (text : List ℕ) (a b : Option ℕ) → IsLength text a → IsLength text b → a ≡ b
one_length text None None h k = refl
one_length text (Some n) (Some m) h k = ap Some (h.0.value_is ∙ sym k.0.value_is)
one_length text None (Some m) h k = absurd (dash_no_numeral m (subst (λ t. IsNumeral t m) h k.0))
one_length text (Some n) None h k = absurd (dash_no_numeral n (subst (λ t. IsNumeral t n) k h.0))

-- a line gives one entry
pub one_entry : (version : Version) (text : List ℕ) (d e : FetchItem) → GivesEntry version text d → GivesEntry version text e → d ≡ e
one_entry version text d e h k =
    let w = one_words text d.url h.length h.path_text e.url k.length k.path_text h.words k.words in
    ap (λ u. fetch_item u d.octets d.path) w.0
    ∙ ap (λ o. fetch_item e.url o d.path) (one_length k.length d.octets e.octets (subst (λ t. IsLength t d.octets) w.1 h.is_length) k.is_length)
    ∙ ap (λ p. fetch_item e.url e.octets p) (one_path version d.path e.path k.path_text (subst (Spells version d.path) w.2 h.spells) k.spells)

pub fetch_one : (version : Version) (before : List FetchLine) (number : ℕ) (text : List ℕ) (next other : List FetchLine) → AddsEntry version before number text next → AddsEntry version before number text other → next ≡ other
fetch_one version before number text next other a b = a.adds ∙ ap (λ e. before ++ fetch_line number e ∷ []) (one_entry version text a.entry b.entry a.gives b.gives) ∙ sym b.adds

-- a line that was cut at its blanks
nothing_after : (test : ℕ → Bool) (xs ys zs : List ℕ) → until test xs ≡ (ys, zs) → xs ≡ [] → zs ≡ []
unfolding until
nothing_after test xs ys zs e n = sym (ap (λ (u : List ℕ × List ℕ). u.1) e) ∙ ap (λ xs. (until test xs).1) n

nothing : (xs : List ℕ) → (length xs == 0) ≡ true → xs ≡ []
nothing [] h = refl
nothing (x ∷ xs) h = absurd (let k : (length (x ∷ xs) == 0) ≡ false = ne_eqb (length (x ∷ xs)) 0 (λ e. omega arith) in let b : true ≡ false = sym h ∙ k in cc)

pub words_of : (text url after_url blanks rest len after_len other path : List ℕ) → until is_blank text ≡ (url, after_url) → until is_not_blank after_url ≡ (blanks, rest) → until is_blank rest ≡ (len, after_len) → (length after_len == 0) ≡ false → until is_not_blank after_len ≡ (other, path) → AreWords text url len path
words_of text url after_url blanks rest len after_len other path e f g some h = elim (cases_Bool (length after_url == 0)) [
  | inl n ↦ absurd (
      let none : after_len ≡ [] = nothing_after is_blank rest len after_len g (nothing_after is_not_blank after_url blanks rest f (nothing after_url n)) in
      let k : true ≡ false = sym (ap (λ xs. length xs == 0) none) ∙ some in cc)
  | inr n ↦ record {
    after_url = blanks;
    rest = rest;
    after_length = other;
    url_cut = cut_by text url after_url blanks rest e n f;
    length_cut = cut_by rest len after_len other path g some h;
  }
]

left_of : (text word rest : List ℕ) → until is_blank text ≡ (word, rest) → (length rest == 0) ≡ true → AllByRecursion IsNotBlank text
left_of text word rest e n = none_passes is_blank text (ap (λ (u : List ℕ × List ℕ). length u.1 == 0) e ∙ n)

pub lacks_of : (text url after_url blanks rest len after_len : List ℕ) → until is_blank text ≡ (url, after_url) → until is_not_blank after_url ≡ (blanks, rest) → until is_blank rest ≡ (len, after_len) → (length after_len == 0) ≡ true → LacksWord text
lacks_of text url after_url blanks rest len after_len e f g none = elim (cases_Bool (length after_url == 0)) [
  | inl n ↦ inl (left_of text url after_url e n)
  | inr n ↦ inr (url, (blanks, (rest, cut_by text url after_url blanks rest e n f, left_of rest len after_len g none)))
]

-- the words in UTF-8
pub cut_utf8 : (text word blanks rest : List ℕ) → IsCut text word blanks rest → IsUtf8 text → IsUtf8 word × IsUtf8 rest
cut_utf8 text word [] rest h u = absurd (h.some_blank refl)
cut_utf8 text word (b ∷ blanks) rest h u =
    let whole = subst IsUtf8 (h.whole ∙ append_assoc word (b ∷ blanks) rest) u in
    let below : b < 128 = blank_below b h.only_blanks.0 in
    (utf8_before word (blanks ++ rest) b below whole, utf8_after_blanks blanks rest h.only_blanks.1 (utf8_after word (blanks ++ rest) b below whole))

pub words_utf8 : (text url len path : List ℕ) → AreWords text url len path → IsUtf8 text → IsUtf8 url × IsUtf8 path
words_utf8 text url len path h u =
    let first = cut_utf8 text url h.after_url h.rest h.url_cut u in
    (first.0, (cut_utf8 h.rest len h.after_length path h.length_cut first.1).1)

-- the entry of the parts that were read
pub gives_of : (version : Version) (text url len path_text : List ℕ) (octets : Option ℕ) (path : List ℕ) → AreWords text url len path_text → IsUrl url → IsLength len octets → Spells version path path_text → IsPath path → GivesEntry version text (fetch_item url octets path)
gives_of version text url len path_text octets path w u l s p = record { length = len; path_text = path_text; words = w; is_url = u; is_length = l; spells = s; is_path = p }

-- a URL is cut at its first colon
scheme_no_colon : (scheme : List ℕ) → IsScheme scheme → AllByRecursion (λ x. is_colon x ≡ false) scheme
scheme_no_colon [] h = absurd h
scheme_no_colon (x ∷ scheme) h = (ne_eqb x 58 (λ e. omega (arith, h.0)), each IsSchemeOctet _ (λ y o. ne_eqb y 58 (λ e. omega (arith, o))) scheme h.1)

pub url_cut : (url : List ℕ) (h : IsUrl url) → until is_colon url ≡ (h.scheme, 58 ∷ h.rest)
url_cut url h = ap (until is_colon) h.whole ∙ until_here is_colon h.scheme h.rest 58 (scheme_no_colon h.scheme h.is_scheme) refl

pub url_of : (url scheme rest : List ℕ) → until is_colon url ≡ (scheme, rest) → IsScheme scheme → (1 < length rest) × AllByRecursion IsUrlOctet (drop 1 rest) → IsUrl url
url_of url scheme [] e s h = absurd (let k : 1 < 0 = h.0 in omega arith)
url_of url scheme (x ∷ rest) e s h = record {
  scheme = scheme;
  rest = rest;
  whole = whole_of is_colon url scheme (x ∷ rest) e ∙ ap (λ y. scheme ++ y ∷ rest) (is_58 x (begins_with is_colon url x rest (ap (λ (u : List ℕ × List ℕ). u.1) e)));
  is_scheme = s;
  some = λ n. absurd (omega (arith, h.0, ap length n));
  no_control = h.1;
}

pub url_parts : (url scheme rest : List ℕ) → until is_colon url ≡ (scheme, rest) → IsUrl url → IsScheme scheme × ((1 < length rest) × AllByRecursion IsUrlOctet (drop 1 rest))
url_parts url scheme rest e h =
    let same : (let u : List ℕ × List ℕ = (scheme, rest) in u) ≡ (h.scheme, 58 ∷ h.rest) = sym e ∙ url_cut url h in
    let some = some_length h.rest h.some in
    let long : 1 < length (58 ∷ h.rest) = omega arith in (
      subst IsScheme (sym (first_of scheme h.scheme rest (58 ∷ h.rest) same)) h.is_scheme,
      subst (λ xs. (1 < length xs) × AllByRecursion IsUrlOctet (drop 1 xs)) (sym (second_of scheme h.scheme rest (58 ∷ h.rest) same)) (long, h.no_control),
    )
