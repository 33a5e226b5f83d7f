-- Texts that are written line by line are read as these lines.
use Rattle.std.proofs.Common.{◌≡◌, ◌≢◌, ◌==◌, ℕ, false, List, [], ◌∷◌, ◌++◌, map, length, take, nat_eq, refl, sym, ap, ◌∙◌, subst, inl, inr, ◌<◌, true, codes, encode_utf8, encode_utf8_all, drop, take-append-drop, arith, append-nil}
use Rattle.std.specs.List.{AllByRecursion, All, enumerate_from, starts_with}
use Rattle.std.proofs.lemmas.Bool.{ne_eqb, cases_Bool, and_parts}
use Rattle.std.proofs.lemmas.List.Elements.{All-from_recursion, recursion_from_All}
use Rattle.std.proofs.lemmas.List.Concat.{flat_map-cons, flat_map-append}
use Rattle.std.proofs.Math.Seq.{take-length}
use Rattle.bag_path.specs.Lines.{Text, line, HasLines, IsPlain, written_lines}
use Rattle.bag_path.specs.declared.lines.Ending.TheVariants.{Lf}
use Rattle.bag_path.proofs.LinesLemmas.{one_list, lines_of-written_lines}
use Rattle.bag_tags.specs.Words.{without, begins_blank}
use Rattle.bag_tags.specs.TagLines.{mark, TagLine, tag_line, LeadsOn, Lead, IsTextOf}
use Rattle.std.specs.Str.{IsUtf8}
use Rattle.std.proofs.Math.Utf8.{scalars, encodes}
use Rattle.std.proofs.lemmas.Bool.Decides.{eqb_tells}
use Rattle.std.proofs.lemmas.Slice.Eq.{bytes_eq-Decides}
use Rattle.std.proofs.lemmas.Str.{IsUtf8-from_ascii, IsUtf8-append, IsUtf8-nil, encode_ascii}
use Rattle.bag_path.specs.Paths.{is_payload}
use Rattle.bag_path.specs.Spellings.{written_spelling, written_part}
use Rattle.bag_path.proofs.WrittenLemmas.{written_char, written_plain}
use Rattle.bag_tags.proofs.TextCutLemmas.{IsAscii-from_each}

-- a fact about the pieces so far is one about all of them at the end
pub all_of : {A : Type 0} (xs : List A) (n : ℕ) → n ≡ length xs → take n xs ≡ xs
all_of xs n e = ap (λ k. take k xs) e ∙ take-length xs

pub facts : {A : Type 0} (P : A → Type 0) (xs : List A) (n : ℕ) → n ≡ length xs → AllByRecursion P (take n xs) → AllByRecursion P xs
facts P xs n e h = subst (AllByRecursion P) (all_of xs n e) h

-- a line that is ended by LF
abbrev pub lf_line : List ℕ → Text
lf_line text = line text Lf

-- the texts as numbered lines
abbrev pub numbered_texts : ℕ → List (List ℕ) → List TagLine
numbered_texts n texts = map tag_line (enumerate_from n (map lf_line texts))

plain_texts : (texts : List (List ℕ)) → AllByRecursion (AllByRecursion IsPlain) texts → AllByRecursion (All IsPlain) texts
plain_texts [] h = tt
plain_texts (t ∷ texts) h = (All-from_recursion IsPlain t h.0, plain_texts texts h.1)

pub has_written_lines : (texts : List (List ℕ)) → AllByRecursion (AllByRecursion IsPlain) texts → HasLines (written_lines texts) (map lf_line texts)
has_written_lines texts h = (one_list (written_lines texts) (map lf_line texts)).1 (sym (lines_of-written_lines texts (All-from_recursion (All IsPlain) texts (plain_texts texts h))))

-- octets that don't begin with a mark
pub unmarked : (octets : List ℕ) → starts_with nat_eq octets mark ≡ false → without mark octets ≡ octets
unmarked octets h = rw h refl

-- written texts are a text of the value to which their lines lead
pub written_text : {A : Type 0} (leads : A → ℕ → List ℕ → A → Type 0) (start value : A) (texts : List (List ℕ)) → starts_with nat_eq (written_lines texts) mark ≡ false → AllByRecursion (AllByRecursion IsPlain) texts → Lead (LeadsOn leads) start (numbered_texts 1 texts) value → IsTextOf leads start (written_lines texts) value
written_text leads start value texts u h l = record {
  lines = map lf_line texts;
  has_lines = subst (λ octets. HasLines octets (map lf_line texts)) (sym (unmarked (written_lines texts) u)) (has_written_lines texts h);
  lead = l;
}

-- one more text is one more line
pub lines_cons : (text : List ℕ) (texts : List (List ℕ)) → written_lines (text ∷ texts) ≡ (text ++ 10 ∷ []) ++ written_lines texts
lines_cons text texts = flat_map-cons (λ t. t ++ 10 ∷ []) text texts

pub lines_append : (xs ys : List (List ℕ)) → written_lines (xs ++ ys) ≡ written_lines xs ++ written_lines ys
lines_append xs ys = flat_map-append (λ t. t ++ 10 ∷ []) xs ys

pub each_append : {A : Type 0} (P : A → Type 0) (xs ys : List A) → AllByRecursion P xs → AllByRecursion P ys → AllByRecursion P (xs ++ ys)
each_append P [] ys h k = k
each_append P (x ∷ xs) ys h k = (h.0, each_append P xs ys h.1 k)

-- a word without a mark, followed by an ASCII octet, has no mark
pub no_mark : (word rest : List ℕ) (x : ℕ) → x ≢ 187 → x ≢ 191 → x ≢ 239 → starts_with nat_eq word mark ≡ false → starts_with nat_eq (word ++ x ∷ rest) mark ≡ false
no_mark [] rest x a b c h = rw (ne_eqb 239 x (λ e. c (sym e))) refl
no_mark (p ∷ []) rest x a b c h = rw (ne_eqb 187 x (λ e. a (sym e))) (elim (cases_Bool (239 == p)) [ inl e ↦ rw e refl | inr e ↦ rw e refl ])
no_mark (p ∷ q ∷ []) rest x a b c h = rw (ne_eqb 191 x (λ e. b (sym e))) (elim (cases_Bool (239 == p)) [
  | inl e ↦ rw e (elim (cases_Bool (187 == q)) [ inl f ↦ rw f refl | inr f ↦ rw f refl ])
  | inr e ↦ rw e refl
])
no_mark (p ∷ q ∷ r ∷ word) rest x a b c h = h

-- the written spelling of a path is UTF-8, and begins as the path does
small : (a b c : ℕ) → a < 128 → b < 128 → c < 128 → IsUtf8 (a ∷ b ∷ c ∷ [])
small a b c x y z = IsUtf8-from_ascii (a ∷ b ∷ c ∷ []) (IsAscii-from_each (a ∷ b ∷ c ∷ []) (x, (y, (z, tt))))

char_utf8 : (c : ℕ) → scalars (c ∷ []) ≡ true → IsUtf8 (encode_utf8 c)
char_utf8 c h = (c ∷ [], (h, append-nil (encode_utf8 c)))

written_one : (c : ℕ) → scalars (c ∷ []) ≡ true → IsUtf8 (written_spelling (encode_utf8 c))
written_one c h = elim (eqb_tells c 37) [
  | inl e ↦ subst (λ d. IsUtf8 (written_spelling (encode_utf8 d))) (sym e.1) (subst IsUtf8 (ap written_spelling (sym (encode_ascii 37 (omega arith)))) (small 37 50 53 (omega arith) (omega arith) (omega arith)))
  | inr e ↦ elim (eqb_tells c 10) [
    | inl f ↦ subst (λ d. IsUtf8 (written_spelling (encode_utf8 d))) (sym f.1) (subst IsUtf8 (ap written_spelling (sym (encode_ascii 10 (omega arith)))) (small 37 48 65 (omega arith) (omega arith) (omega arith)))
    | inr f ↦ elim (eqb_tells c 13) [
      | inl g ↦ subst (λ d. IsUtf8 (written_spelling (encode_utf8 d))) (sym g.1) (subst IsUtf8 (ap written_spelling (sym (encode_ascii 13 (omega arith)))) (small 37 48 68 (omega arith) (omega arith) (omega arith)))
      | inr g ↦ subst IsUtf8 (sym (written_char c e.1 f.1 g.1)) (char_utf8 c h)
    ]
  ]
]

written_chars : (cs : List ℕ) → scalars cs ≡ true → IsUtf8 (written_spelling (encode_utf8_all cs))
written_chars [] h = IsUtf8-nil
written_chars (c ∷ cs) h = subst IsUtf8 (sym (flat_map-append written_part (encode_utf8 c) (encode_utf8_all cs)))
    (IsUtf8-append (written_spelling (encode_utf8 c)) (written_spelling (encode_utf8_all cs)) (let s = (and_parts _ (scalars cs) h).0 in written_one c (rw s refl)) (written_chars cs (and_parts _ (scalars cs) h).1))

pub written_utf8 : (path : List ℕ) → IsUtf8 path → IsUtf8 (written_spelling path)
written_utf8 path u = subst (λ octets. IsUtf8 (written_spelling octets)) u.1.1 (written_chars u.0 u.1.0)

pub path_plain : (path : List ℕ) → AllByRecursion IsPlain (written_spelling path)
path_plain path = recursion_from_All IsPlain (written_spelling path) (written_plain path)

payload_whole : (path : List ℕ) → is_payload path ≡ true → path ≡ codes "data/" ++ drop 5 path
payload_whole path h = sym (take-append-drop 5 path) ∙ ap (λ xs. xs ++ drop 5 path) (sym ((bytes_eq-Decides (codes "data/") (take 5 path)).0 h))

pub payload_begins : (path : List ℕ) → is_payload path ≡ true → begins_blank (written_spelling path) ≡ false
payload_begins path h = ap (λ p. begins_blank (written_spelling p)) (payload_whole path h)
