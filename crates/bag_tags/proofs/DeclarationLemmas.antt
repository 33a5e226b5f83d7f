-- The bag declaration.
use Rattle.std.proofs.Common.{◌≡◌, ◌≢◌, ◌↔◌, ℕ, ◌+◌, Bool, true, false, List, [], ◌∷◌, ◌++◌, Result, Ok, Err, IsTrue, length, map, ltb-true, nat_eq, nat_lt, get_or, take, drop, codes, refl, sym, ap, ◌∙◌, subst, inl, inr, arith, rules, append_assoc}
use Rattle.std.specs.Char.{IsAsciiDigit}
use Rattle.std.specs.List.{AllByRecursion, starts_with, enumerate_from, list_all}
use Rattle.std.specs.Result.{MatchResult, IfOk, is_err}
use Rattle.std.specs.Str.{is_utf8, IsUtf8}
use Rattle.std.specs.Cmp.Lexicographic.{pointwise}
use Rattle.std.proofs.lemmas.Str.{IsUtf8-from_ascii, is_utf8-from_IsUtf8, IsUtf8-from_is_utf8}
use Rattle.std.proofs.lemmas.Str.Ascii.{IsAscii-from_all}
use Rattle.std.proofs.lemmas.List.Sums.{AllPass-from_list_all}
use Rattle.std.proofs.lemmas.Bool.{ne_eqb, false_from_ne_true}
use Rattle.std.proofs.lemmas.Slice.Eq.{bytes_eq-Decides}
use Rattle.std.proofs.lemmas.List.{take-append-drop}
use Rattle.std.proofs.Math.Seq.{take-append_seam}
use Rattle.bag_path.specs.declared.lines.Ending.TheVariants.{Lf}
use Rattle.bag_path.specs.Lines.{Text, line, HasLines, lines_of}
use Rattle.bag_path.proofs.LinesLemmas.{one_list}
use Rattle.bag_tags.specs.declared.declaration.Declaration.{Declaration}
use Rattle.bag_tags.specs.declared.declaration.DeclFault.{DeclFault}
use Rattle.bag_tags.specs.declared.declaration.DeclFault.TheVariants.{NotUtf8, Mark, LineCount, Label, Version, EncodingName}
use Rattle.bag_tags.specs.TagLines.{mark}
use Rattle.bag_tags.specs.WordsReading.{until, is_dot}
use Rattle.bag_tags.specs.Declarations.{version_label, encoding_label, IsVersionPart, IsVersion, IsEncodingName, NamesUtf8, IsUnmarked, HasLabels, IsDeclaration, HaveNoLabels, IsDeclarationFault, current, written_declaration}
use Rattle.bag_tags.proofs.ListingLemmas.{unlike}
use Rattle.bag_tags.proofs.WordsLemmas.{until_whole, until_here}

-- digits have no dot
no_dot : (text : List ℕ) → AllByRecursion IsAsciiDigit text → AllByRecursion (λ x. is_dot x ≡ false) text
no_dot [] h = tt
no_dot (x ∷ text) h = (ne_eqb x 46 (λ e. omega (arith, h.0)), no_dot text h.1)

-- a version is cut at its dot
cut_version : (text : List ℕ) (major minor : ℕ) (v : IsVersion text major minor) → until is_dot text ≡ (v.before_dot, 46 ∷ v.after_dot)
cut_version text major minor v =
    ap (until is_dot) (v.whole ∙ append_assoc v.before_dot (46 ∷ []) v.after_dot)
    ∙ until_here is_dot v.before_dot v.after_dot 46 (no_dot v.before_dot v.major_is.numeral.digits) refl

module _ (text front rest : List ℕ) (cut : until is_dot text ≡ (front, rest)) where
  front_is : (major minor : ℕ) (v : IsVersion text major minor) → v.before_dot ≡ front
  front_is major minor v = ap (λ (p : List ℕ × List ℕ). p.0) (sym (cut_version text major minor v) ∙ cut)

  rest_is : (major minor : ℕ) (v : IsVersion text major minor) → 46 ∷ v.after_dot ≡ rest
  rest_is major minor v = ap (λ (p : List ℕ × List ℕ). p.1) (sym (cut_version text major minor v) ∙ cut)

  pub without_dot : ((after : List ℕ) → rest ≢ 46 ∷ after) → (major minor : ℕ) → IsVersion text major minor → ⊥
  without_dot none major minor v = none v.after_dot (sym (rest_is major minor v))

  pub bad_major : ((value : ℕ) → IsVersionPart front value → ⊥) → (major minor : ℕ) → IsVersion text major minor → ⊥
  bad_major none major minor v = none major (subst (λ t. IsVersionPart t major) (front_is major minor v) v.major_is)

  module _ (after : List ℕ) (dot : rest ≡ 46 ∷ after) where
    pub bad_minor : ((value : ℕ) → IsVersionPart after value → ⊥) → (major minor : ℕ) → IsVersion text major minor → ⊥
    bad_minor none major minor v =
        let same : v.after_dot ≡ after = ap (drop 1) (rest_is major minor v ∙ dot) in
        none minor (subst (λ t. IsVersionPart t minor) same v.minor_is)

    pub good_version : (major minor : ℕ) → IsVersionPart front major → IsVersionPart after minor → IsVersion text major minor
    good_version major minor p q = record {
      before_dot = front;
      after_dot = after;
      whole = until_whole is_dot text ∙ ap (λ (p : List ℕ × List ℕ). p.0 ++ p.1) cut ∙ ap (λ r. front ++ r) dot ∙ sym (append_assoc front (46 ∷ []) after);
      major_is = p;
      minor_is = q;
    }

one_part : (text : List ℕ) (a b : ℕ) → IsVersionPart text a → IsVersionPart text b → a ≡ b
one_part text a b p q = p.numeral.value_is ∙ sym q.numeral.value_is

one_version : (text : List ℕ) (a b c d : ℕ) → IsVersion text a b → IsVersion text c d → (a ≡ c) × (b ≡ d)
one_version text a b c d v w =
    let e = sym (cut_version text a b v) ∙ cut_version text c d w in
    let before : v.before_dot ≡ w.before_dot = ap (λ (p : List ℕ × List ℕ). p.0) e in
    let after : v.after_dot ≡ w.after_dot = ap (λ (p : List ℕ × List ℕ). drop 1 p.1) e in (
      one_part w.before_dot a c (subst (λ t. IsVersionPart t a) before v.major_is) w.major_is,
      one_part w.after_dot b d (subst (λ t. IsVersionPart t b) after v.minor_is) w.minor_is,
    )

-- one list of lines
same_lines : (octets : List ℕ) (a b : List Text) → HasLines octets a → HasLines octets b → a ≡ b
same_lines octets a b h k = (one_list octets a).0 h ∙ sym ((one_list octets b).0 k)

one_labels : (octets a b c d : List ℕ) → HasLabels octets a b → HasLabels octets c d → (a ≡ c) × (b ≡ d)
one_labels octets a b c d h k =
    let e = same_lines octets (h.first ∷ h.second ∷ []) (k.first ∷ k.second ∷ []) h.two_lines k.two_lines in
    let one : h.first ≡ k.first = cc in
    let two : h.second ≡ k.second = cc in (
      ap (drop 15) (sym h.first_is ∙ ap (λ (line : Text). line.text) one ∙ k.first_is),
      ap (drop 29) (sym h.second_is ∙ ap (λ (line : Text). line.text) two ∙ k.second_is),
    )

-- what the result of `strip_prefix` says about a label
pub label_gone : (text label : List ℕ) → pointwise nat_eq (take (length label) text) label ≡ false → starts_with nat_eq text label ≡ false
label_gone text label h = unlike (take (length label) text) label h

pub label_not : (text label : List ℕ) → pointwise nat_eq (take (length label) text) label ≡ false → (rest : List ℕ) → text ≢ label ++ rest
label_not text label h rest e =
    let k = (bytes_eq-Decides (take (length label) text) label).1 (ap (take (length label)) e ∙ take-append_seam label rest) in
    cc

pub label_there : (text label rest : List ℕ) → pointwise nat_eq (take (length label) text) label ≡ true → rest ≡ drop (length label) text → text ≡ label ++ rest
label_there text label rest h e =
    sym (take-append-drop (length label) text) ∙ ap (λ xs. xs ++ drop (length label) text) ((bytes_eq-Decides (take (length label) text) label).0 h) ∙ ap (λ xs. label ++ xs) (sym e)

-- the lines that `Lines` gave, one after the other
numbered_texts : (n : ℕ) (lines : List Text) → map (λ (p : ℕ × Text). p.1.text) (enumerate_from n lines) ≡ map (λ (line : Text). line.text) lines
numbered_texts n [] = refl
numbered_texts n (line ∷ lines) = ap (λ texts. line.text ∷ texts) (numbered_texts (n + 1) lines)

numbered_length : (n : ℕ) (lines : List Text) → length (enumerate_from n lines) ≡ length lines
numbered_length n [] = refl
numbered_length n (line ∷ lines) = omega (arith, numbered_length (n + 1) lines)

pub given_texts : (lines : List Text) (given : List (ℕ × Text)) → enumerate_from 1 lines ≡ given → map (λ (line : Text). line.text) lines ≡ map (λ (p : ℕ × Text). p.1.text) given
given_texts lines given e = sym (numbered_texts 1 lines) ∙ ap (map (λ (p : ℕ × Text). p.1.text)) e

pub given_length : (lines : List Text) (given : List (ℕ × Text)) → enumerate_from 1 lines ≡ given → length lines ≡ length given
given_length lines given e = sym (numbered_length 1 lines) ∙ ap length e

-- what the result of `from_utf8` says
pub text_from : {A E : Type 0} (octets : List ℕ) (P : A → Type 0) (Q : E → Type 0) (r : Result A E) → MatchResult r (λ s. P s × IsUtf8 octets) Q → is_err r ≡ false → is_utf8 octets ≡ true
text_from octets P Q (Ok s) h e = is_utf8-from_IsUtf8 octets h.1
text_from octets P Q (Err s) h e = cc

pub no_text_from : {A E : Type 0} (octets : List ℕ) (P : A → Type 0) (Q : E → Type 0) (r : Result A E) → MatchResult r P (λ e. (IsUtf8 octets → ⊥) × Q e) → is_err r ≡ true → is_utf8 octets ≡ false
no_text_from octets P Q (Ok s) h e = cc
no_text_from octets P Q (Err s) h e = false_from_ne_true (is_utf8 octets) (λ t. h.0 (IsUtf8-from_is_utf8 octets t))

-- two lines with these texts
record TwoLines (octets one two : List ℕ) : Type 0 where
  first : Text
  second : Text
  are_lines : HasLines octets (first ∷ second ∷ [])
  first_is : first.text ≡ one
  second_is : second.text ≡ two

abbrev pub texts_of : List ℕ → List (List ℕ)
texts_of octets = map (λ (line : Text). line.text) (lines_of octets)

two_of : (octets one two : List ℕ) (lines : List Text) → HasLines octets lines → map (λ (line : Text). line.text) lines ≡ one ∷ two ∷ [] → TwoLines octets one two
two_of octets one two (a ∷ b ∷ []) h e = record { first = a; second = b; are_lines = h; first_is = cc; second_is = cc }
two_of octets one two lines h e = absurd (omega (arith, ap length e))

two_lines : (octets one two : List ℕ) → texts_of octets ≡ one ∷ two ∷ [] → TwoLines octets one two
two_lines octets one two e = two_of octets one two (lines_of octets) ((one_list octets (lines_of octets)).1 refl) e

module _ (octets : List ℕ) (unmarked : IsUnmarked octets) where
  pub count_fault : length (lines_of octets) ≢ 2 → IsDeclarationFault octets LineCount
  count_fault n = (unmarked, (lines_of octets, (one_list octets (lines_of octets)).1 refl, n))

  module _ (one two : List ℕ) (texts : texts_of octets ≡ one ∷ two ∷ []) where
    pub label_fault : HaveNoLabels one two → IsDeclarationFault octets Label
    label_fault none =
        let t = two_lines octets one two texts in
        (unmarked, (t.first, t.second, t.are_lines, subst (λ a. HaveNoLabels a t.second.text) (sym t.first_is) (subst (HaveNoLabels one) (sym t.second_is) none)))

    pub labels_are : (version encoding : List ℕ) → one ≡ version_label ++ version → two ≡ encoding_label ++ encoding → HasLabels octets version encoding
    labels_are version encoding a b =
        let t = two_lines octets one two texts in
        record {
          first = t.first;
          second = t.second;
          unmarked = unmarked;
          two_lines = t.are_lines;
          first_is = t.first_is ∙ a;
          second_is = t.second_is ∙ b;
        }

-- a text that begins with its label
begins : (text label rest : List ℕ) → text ≡ label ++ rest → starts_with nat_eq text label ≡ false → ⊥
begins text label rest e h =
    let k = (bytes_eq-Decides label (take (length label) text)).1 (sym (ap (take (length label)) e ∙ take-append_seam label rest)) in
    cc

no_clash : (b : Bool) → b ≡ true → b ≡ false → ⊥
no_clash b t f = cc

count_excludes : (octets : List ℕ) (lines : List Text) (first second : Text) → HasLines octets lines → length lines ≢ 2 → HasLines octets (first ∷ second ∷ []) → ⊥
count_excludes octets lines first second h n k = n (ap length (same_lines octets lines (first ∷ second ∷ []) h k))

labels_exclude : (octets version encoding : List ℕ) (first second : Text) → HasLabels octets version encoding → HasLines octets (first ∷ second ∷ []) → HaveNoLabels first.text second.text → ⊥
labels_exclude octets version encoding first second l h none =
    let e = same_lines octets (l.first ∷ l.second ∷ []) (first ∷ second ∷ []) l.two_lines h in
    let one : l.first ≡ first = cc in
    let two : l.second ≡ second = cc in
    elim none [
      | inl a ↦ begins first.text version_label version (ap (λ (line : Text). line.text) (sym one) ∙ l.first_is) a
      | inr b ↦ begins second.text encoding_label encoding (ap (λ (line : Text). line.text) (sym two) ∙ l.second_is) b
    ]

-- a declaration has no fault
pub excludes : (octets : List ℕ) (declaration : Declaration) (fault : DeclFault) → IsDeclaration octets declaration → IsDeclarationFault octets fault → ⊥
excludes octets d NotUtf8 h f = no_clash (is_utf8 octets) h.labels.unmarked.0 f
excludes octets d Mark h f = no_clash (starts_with nat_eq octets mark) f.1 h.labels.unmarked.1
excludes octets d LineCount h f = count_excludes octets f.1.0 h.labels.first h.labels.second f.1.1 f.1.2 h.labels.two_lines
excludes octets d Label h f = labels_exclude octets h.version h.encoding f.1.0 f.1.1 h.labels f.1.2 f.1.3
excludes octets d Version h f =
    let same = one_labels octets h.version h.encoding f.0 f.1 h.labels f.2 in
    f.3 d.major d.minor (subst (λ v. IsVersion v d.major d.minor) same.0 h.version_is)
excludes octets d EncodingName h f =
    let same = one_labels octets h.version h.encoding f.0 f.1 h.labels f.4 in
    f.6 (subst IsEncodingName same.1 h.named)

same_truth : (a b : Bool) (P : Type 0) → (IsTrue a ↔ P) → (IsTrue b ↔ P) → a ≡ b
same_truth true b P h k = sym (k.1 (h.0 refl))
same_truth false b P h k = sym (false_from_ne_true b (λ t. let f : false ≡ true = h.1 (k.0 t) in cc))

abbrev declares : ℕ → ℕ → Bool → Declaration
declares major minor utf8 = record { major = major; minor = minor; utf8 = utf8 }

-- octets make at most one declaration
pub one_declaration : (octets : List ℕ) (a b : Declaration) → IsDeclaration octets a → IsDeclaration octets b → a ≡ b
one_declaration octets a b h k =
    let same = one_labels octets h.version h.encoding k.version k.encoding h.labels k.labels in
    let v = one_version k.version a.major a.minor b.major b.minor (subst (λ t. IsVersion t a.major a.minor) same.0 h.version_is) k.version_is in
    let u = same_truth a.utf8 b.utf8 (NamesUtf8 k.encoding) (subst (λ t. IsTrue a.utf8 ↔ NamesUtf8 t) same.1 h.utf8_is) k.utf8_is in
    ap (λ n. declares n a.minor a.utf8) v.0 ∙ ap (λ n. declares b.major n a.utf8) v.1 ∙ ap (declares b.major b.minor) u

pub read_so : (octets version encoding : List ℕ) (major minor : ℕ) (utf8 : Bool) → HasLabels octets version encoding → IsVersion version major minor → IsEncodingName encoding → (IsTrue utf8 ↔ NamesUtf8 encoding) → IsDeclaration octets (declares major minor utf8)
read_so octets version encoding major minor utf8 labels version_is named utf8_is = record {
  version = version;
  encoding = encoding;
  labels = labels;
  version_is = version_is;
  named = named;
  utf8_is = utf8_is;
}

version_excludes : (octets version encoding other name : List ℕ) (major minor : ℕ) → HasLabels octets version encoding → ((m n : ℕ) → IsVersion version m n → ⊥) → HasLabels octets other name → IsVersion other major minor → ⊥
version_excludes octets version encoding other name major minor h none k v =
    none major minor (subst (λ t. IsVersion t major minor) (one_labels octets other name version encoding k h).0 v)

-- octets have at most one first fault
pub one_fault : (octets : List ℕ) (a b : DeclFault) → IsDeclarationFault octets a → IsDeclarationFault octets b → a ≡ b
one_fault octets LineCount LineCount f g = refl
one_fault octets LineCount Label f g = absurd (count_excludes octets f.1.0 g.1.0 g.1.1 f.1.1 f.1.2 g.1.2)
one_fault octets LineCount Version f g = absurd (count_excludes octets f.1.0 g.2.first g.2.second f.1.1 f.1.2 g.2.two_lines)
one_fault octets LineCount EncodingName f g = absurd (count_excludes octets f.1.0 g.4.first g.4.second f.1.1 f.1.2 g.4.two_lines)
one_fault octets Label LineCount f g = absurd (count_excludes octets g.1.0 f.1.0 f.1.1 g.1.1 g.1.2 f.1.2)
one_fault octets Label Label f g = refl
one_fault octets Label Version f g = absurd (labels_exclude octets g.0 g.1 f.1.0 f.1.1 g.2 f.1.2 f.1.3)
one_fault octets Label EncodingName f g = absurd (labels_exclude octets g.0 g.1 f.1.0 f.1.1 g.4 f.1.2 f.1.3)
one_fault octets Version LineCount f g = absurd (count_excludes octets g.1.0 f.2.first f.2.second g.1.1 g.1.2 f.2.two_lines)
one_fault octets Version Label f g = absurd (labels_exclude octets f.0 f.1 g.1.0 g.1.1 f.2 g.1.2 g.1.3)
one_fault octets Version Version f g = refl
one_fault octets Version EncodingName f g = absurd (version_excludes octets f.0 f.1 g.0 g.1 g.2 g.3 f.2 f.3 g.4 g.5)
one_fault octets EncodingName LineCount f g = absurd (count_excludes octets g.1.0 f.4.first f.4.second g.1.1 g.1.2 f.4.two_lines)
one_fault octets EncodingName Label f g = absurd (labels_exclude octets f.0 f.1 g.1.0 g.1.1 f.4 g.1.2 g.1.3)
one_fault octets EncodingName Version f g = absurd (version_excludes octets g.0 g.1 f.0 f.1 f.2 f.3 g.2 g.3 f.4 f.5)
one_fault octets EncodingName EncodingName f g = refl
one_fault octets NotUtf8 NotUtf8 f g = refl
one_fault octets Mark Mark f g = refl
one_fault octets a b f g = cc

written_lines : lines_of written_declaration ≡ line (codes "BagIt-Version: 1.0") Lf ∷ line (codes "Tag-File-Character-Encoding: UTF-8") Lf ∷ []
unfolding lines_of
written_lines = refl

ascii_text : (text : List ℕ) → list_all (λ b. nat_lt b 128) text ≡ true → is_utf8 text ≡ true
ascii_text text h =
    let each = AllPass-from_list_all (λ b. nat_lt b 128) text h in
    is_utf8-from_IsUtf8 text (IsUtf8-from_ascii text (IsAscii-from_all text (λ k d below. ltb-true (get_or text k d) 128 (each k d below))))

-- what is written declares this format's version, and UTF-8
pub written_declares : IsDeclaration written_declaration current
unfolding until
written_declares = read_so written_declaration (codes "1.0") (codes "UTF-8") 1 0 true
    (record {
      first = line (codes "BagIt-Version: 1.0") Lf;
      second = line (codes "Tag-File-Character-Encoding: UTF-8") Lf;
      unmarked = (ascii_text written_declaration refl, refl);
      two_lines = (one_list written_declaration (line (codes "BagIt-Version: 1.0") Lf ∷ line (codes "Tag-File-Character-Encoding: UTF-8") Lf ∷ [])).1 (sym written_lines);
      first_is = refl;
      second_is = refl;
    })
    (good_version (codes "1.0") (codes "1") (codes ".0") refl (codes "0") refl 1 0
    (record { numeral = record { some = λ e. cc; digits = search rules; value_is = refl }; short = search rules; no_leading_zero = inl refl })
    (record { numeral = record { some = λ e. cc; digits = search rules; value_is = refl }; short = search rules; no_leading_zero = inl refl }))
    (λ e. cc, search rules)
    (λ e. refl, λ e. refl)

-- a copy of what is written declares the same
pub copy_declares : {V E : Type 0} (items : V → List ℕ) (r : Result V E) → IfOk r (λ v. ((x y : ℕ) → y ≡ x → y ≡ x) → items v ≡ written_declaration) → IfOk r (λ v. IsDeclaration (items v) current)
copy_declares items (Ok v) h = subst (λ octets. IsDeclaration octets current) (sym (h (λ x y e. e))) written_declares
copy_declares items (Err e) h = tt
