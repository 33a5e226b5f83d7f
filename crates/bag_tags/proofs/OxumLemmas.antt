-- A text is at most one oxum, and is read as it is cut.
use Rattle.std.proofs.Common.{◌≡◌, ◌≢◌, ◌<◌, ◌^◌, ℕ, true, false, List, [], ◌∷◌, ◌++◌, length, codes, refl, sym, ap, ◌∙◌, subst, inl, inr, arith, take, drop, take-append-drop, append_assoc, append-nil}
use Rattle.std.specs.Fmt.{decimal}
use Rattle.std.specs.Str.Parse.{digits_value}
use Rattle.std.proofs.lemmas.Bool.{cases_Bool}
use Rattle.std.proofs.lemmas.Slice.Eq.{bytes_eq-Decides}
use Rattle.std.specs.List.{AllByRecursion}
use Rattle.std.specs.Str.{bytes_eq}
use Rattle.std.specs.Char.{IsAsciiDigit}
use Rattle.std.proofs.lemmas.Bool.Decides.{nat_tests}
use Rattle.std.proofs.lemmas.Fmt.{decimal_nonempty, digits_decimal, digits_value-decimal}
use Rattle.bag_tags.specs.Words.{is_blank, IsBlank, is_blank_line}
use Rattle.bag_tags.specs.WordsReading.{until, is_not_blank, is_dot}
use Rattle.bag_tags.specs.Numerals.{IsNumeral}
use Rattle.bag_tags.specs.Oxums.{OxumText, written_oxum}
use Rattle.bag_tags.specs.declared.oxum.Oxum.{Oxum}
use Rattle.bag_tags.proofs.WordsLemmas.{each, until_here, until_at, blanks_cut}
use Rattle.bag_tags.proofs.TextCutLemmas.{first_of, second_of, whole_of, blanks_of, blank_line_of}
use Rattle.bag_tags.proofs.NumeralLemmas.{digits_model}

digit_no_blank : (x : ℕ) → IsAsciiDigit x → is_blank x ≡ false
digit_no_blank x h = grind (arith, nat_tests)

digit_no_dot : (x : ℕ) → IsAsciiDigit x → is_dot x ≡ false
digit_no_dot x h = grind (arith, nat_tests)

-- a text that was cut: after its blanks, at the first dot and at the first blank after it
pub record IsCutOxum (text before after back : List ℕ) : Type 0 where
  pub front : List ℕ
  pub rest : List ℕ
  pub more : List ℕ
  pub at_front : until is_not_blank text ≡ (front, rest)
  pub at_dot : until is_dot rest ≡ (before, 46 ∷ more)
  pub at_back : until is_blank more ≡ (after, back)

-- a numeral begins with no blank
front_cut : (front digits more : List ℕ) → AllByRecursion IsBlank front → digits ≢ [] → AllByRecursion IsAsciiDigit digits → until is_not_blank (front ++ (digits ++ more)) ≡ (front, digits ++ more)
front_cut front [] more h some d = absurd (some refl)
front_cut front (x ∷ digits) more h some d = blanks_cut front (x ∷ (digits ++ more)) h (digit_no_blank x d.0)

-- blanks end a numeral
blank_begins : (back : List ℕ) → AllByRecursion IsBlank back → (until is_blank back).0 ≡ []
unfolding until
blank_begins [] h = refl
blank_begins (x ∷ back) h = rw h.0 refl

-- the same text, cut from the right
to_right : (front before after back : List ℕ) → front ++ before ++ codes "." ++ after ++ back ≡ front ++ (before ++ 46 ∷ (after ++ back))
to_right front before after back = simp append_assoc

pub cut_of : (text : List ℕ) (octets streams : ℕ) (h : OxumText text octets streams) → IsCutOxum text h.before_dot h.after_dot h.back
cut_of text octets streams h = record {
  front = h.front;
  rest = h.before_dot ++ 46 ∷ (h.after_dot ++ h.back);
  more = h.after_dot ++ h.back;
  at_front = ap (until is_not_blank) (h.whole ∙ to_right h.front h.before_dot h.after_dot h.back) ∙ front_cut h.front h.before_dot (46 ∷ (h.after_dot ++ h.back)) h.front_blank h.octets_are.some h.octets_are.digits;
  at_dot = until_here is_dot h.before_dot (h.after_dot ++ h.back) 46 (each IsAsciiDigit (λ x. is_dot x ≡ false) digit_no_dot h.before_dot h.octets_are.digits) refl;
  at_back = until_at is_blank h.after_dot h.back (each IsAsciiDigit (λ x. is_blank x ≡ false) digit_no_blank h.after_dot h.streams_are.digits) (blank_begins h.back h.back_blank);
}

-- a text is cut in one way
pub one_cut : (text b a k c d l : List ℕ) → IsCutOxum text b a k → IsCutOxum text c d l → (b ≡ c) × (a ≡ d) × (k ≡ l)
one_cut text b a k c d l p q =
    let rest : p.rest ≡ q.rest = second_of p.front q.front p.rest q.rest (sym p.at_front ∙ q.at_front) in
    let dot : (let u : List ℕ × List ℕ = (b, 46 ∷ p.more) in u) ≡ (c, 46 ∷ q.more) = sym p.at_dot ∙ ap (until is_dot) rest ∙ q.at_dot in
    let with_dot : (let u : List ℕ = 46 ∷ p.more in u) ≡ 46 ∷ q.more = second_of b c (46 ∷ p.more) (46 ∷ q.more) dot in
    let more : p.more ≡ q.more = cc in
    let back : (let u : List ℕ × List ℕ = (a, k) in u) ≡ (d, l) = sym p.at_back ∙ ap (until is_blank) more ∙ q.at_back in
    (first_of b c (46 ∷ p.more) (46 ∷ q.more) dot, first_of a d k l back, second_of a d k l back)

-- the dot at which a text was cut
dot_first : (rest more : List ℕ) → bytes_eq (take 1 rest) (46 ∷ []) ≡ true → more ≡ drop 1 rest → rest ≡ 46 ∷ more
dot_first rest more h e = sym (take-append-drop 1 rest) ∙ ap (λ xs. xs ++ drop 1 rest) ((bytes_eq-Decides (take 1 rest) (46 ∷ [])).0 h) ∙ ap (λ xs. 46 ∷ xs) (sym e)

pub cut_by : (text front rest before dotted more after back : List ℕ) → until is_not_blank text ≡ (front, rest) → until is_dot rest ≡ (before, dotted) → bytes_eq (take 1 dotted) (46 ∷ []) ≡ true → more ≡ drop 1 dotted → until is_blank more ≡ (after, back) → IsCutOxum text before after back
cut_by text front rest before dotted more after back e f h d g = record {
  front = front;
  rest = rest;
  more = more;
  at_front = e;
  at_dot = f ∙ ap (λ xs. (before, xs)) (dot_first dotted more h d);
  at_back = g;
}

-- no dot
pub no_dot : (text front rest before dotted : List ℕ) → until is_not_blank text ≡ (front, rest) → until is_dot rest ≡ (before, dotted) → bytes_eq (take 1 dotted) (46 ∷ []) ≡ false → (octets streams : ℕ) → OxumText text octets streams → ⊥
no_dot text front rest before dotted e f h octets streams o =
    let q = cut_of text octets streams o in
    let same : rest ≡ q.rest = second_of front q.front rest q.rest (sym e ∙ q.at_front) in
    let dot : dotted ≡ 46 ∷ q.more = second_of before o.before_dot dotted (46 ∷ q.more) (sym f ∙ ap (until is_dot) same ∙ q.at_dot) in
    let k : true ≡ false = sym (ap (λ xs. bytes_eq (take 1 xs) (46 ∷ [])) dot) ∙ h in cc

of_blank_line : (back : List ℕ) → is_blank_line back ≡ true → AllByRecursion IsBlank back
of_blank_line [] h = tt
of_blank_line (x ∷ back) h = elim (cases_Bool (is_blank x)) [
  | inl e ↦ (e, of_blank_line back (rw e at h))
  | inr e ↦ absurd (let k = rw e at h in cc)
]

-- no blanks at the end
pub no_back : (text before after back : List ℕ) → IsCutOxum text before after back → is_blank_line back ≡ false → (octets streams : ℕ) → OxumText text octets streams → ⊥
no_back text before after back p h octets streams o =
    let same = one_cut text before after back o.before_dot o.after_dot o.back p (cut_of text octets streams o) in
    let k : true ≡ false = sym (blank_line_of o.back o.back_blank) ∙ ap is_blank_line (sym same.2) ∙ h in cc

-- no numeral that fits
pub no_octets : (text before after back : List ℕ) → IsCutOxum text before after back → ((n : ℕ) → IsNumeral before n → n < 2 ^ 64 → ⊥) → (octets streams : ℕ) → OxumText text octets streams → ⊥
no_octets text before after back p none octets streams o =
    let same = one_cut text before after back o.before_dot o.after_dot o.back p (cut_of text octets streams o) in
    none octets (subst (λ xs. IsNumeral xs octets) (sym same.0) o.octets_are) o.octets_fit

pub no_streams : (text before after back : List ℕ) → IsCutOxum text before after back → ((n : ℕ) → IsNumeral after n → n < 2 ^ 64 → ⊥) → (octets streams : ℕ) → OxumText text octets streams → ⊥
no_streams text before after back p none octets streams o =
    let same = one_cut text before after back o.before_dot o.after_dot o.back p (cut_of text octets streams o) in
    none streams (subst (λ xs. IsNumeral xs streams) (sym same.1) o.streams_are) o.streams_fit

-- what was read
pub oxum_read : (text before after back : List ℕ) (octets streams : ℕ) → IsCutOxum text before after back → is_blank_line back ≡ true → IsNumeral before octets → octets < 2 ^ 64 → IsNumeral after streams → streams < 2 ^ 64 → OxumText text octets streams
oxum_read text before after back octets streams p h m a n b = record {
  front = p.front;
  before_dot = before;
  after_dot = after;
  back = back;
  whole = whole_of is_not_blank text p.front p.rest p.at_front
      ∙ ap (λ xs. p.front ++ xs) (whole_of is_dot p.rest before (46 ∷ p.more) p.at_dot)
      ∙ ap (λ xs. p.front ++ (before ++ 46 ∷ xs)) (whole_of is_blank p.more after back p.at_back)
      ∙ sym (to_right p.front before after back);
  front_blank = blanks_of text p.front p.rest p.at_front;
  octets_are = m;
  octets_fit = a;
  streams_are = n;
  streams_fit = b;
  back_blank = of_blank_line back h;
}

pub oxum_one : (text : List ℕ) (a b c d : ℕ) → OxumText text a b → OxumText text c d → (a ≡ c) × (b ≡ d)
oxum_one text a b c d o p =
    let same = one_cut text o.before_dot o.after_dot o.back p.before_dot p.after_dot p.back (cut_of text a b o) (cut_of text c d p) in
    (o.octets_are.value_is ∙ ap (digits_value 10) same.0 ∙ sym p.octets_are.value_is, o.streams_are.value_is ∙ ap (digits_value 10) same.1 ∙ sym p.streams_are.value_is)

pub oxum_same : (text : List ℕ) (o p : Oxum) → OxumText text o.octets o.streams → OxumText text p.octets p.streams → o ≡ p
oxum_same text o p h k =
    let e = oxum_one text o.octets o.streams p.octets p.streams h k in
    let f = λ (a b : ℕ). let r : Oxum = record { octets = a; streams = b } in r in
    ap (λ a. f a o.streams) e.0 ∙ ap (λ b. f p.octets b) e.1

-- what is written for a number is a numeral of it
pub decimal_numeral : (n : ℕ) → n < 2 ^ 64 → IsNumeral (decimal n) n
decimal_numeral n h = record {
  some = λ e. absurd (let k : 0 < length (decimal n) = decimal_nonempty n h in omega (arith, ap length e));
  digits = digits_decimal digits_model n h;
  value_is = sym (digits_value-decimal digits_model n h);
}

pub written_says : (octets streams : ℕ) → octets < 2 ^ 64 → streams < 2 ^ 64 → OxumText (written_oxum octets streams) octets streams
written_says octets streams h k = record {
  front = [];
  before_dot = decimal octets;
  after_dot = decimal streams;
  back = [];
  whole = sym (append-nil (decimal octets ++ codes "." ++ decimal streams));
  front_blank = tt;
  octets_are = decimal_numeral octets h;
  octets_fit = h;
  streams_are = decimal_numeral streams k;
  streams_fit = k;
  back_blank = tt;
}
