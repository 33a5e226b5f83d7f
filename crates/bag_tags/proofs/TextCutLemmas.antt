-- Parts of lists and of texts, and their UTF-8.
use Rattle.std.proofs.Common.{◌≡◌, ◌≢◌, ◌<◌, ◌≤◌, ◌+◌, drop, length-drop, slice_index, ℕ, Bool, true, false, List, [], ◌∷◌, ◌++◌, length, get_or, refl, sym, ap, ◌∙◌, subst, inl, inr, arith, length-append, zero, suc, take, nat_eq, take-append-drop}
use Rattle.std.proofs.Math.Seq.{take-append_seam, get_or-append_seam}
use Rattle.std.specs.List.{AllByRecursion, starts_with}
use Rattle.std.specs.Str.{IsUtf8, IsCharBoundary, IsAscii, chars}
use Rattle.std.proofs.lemmas.List.{get_or-drop, append_cancel_left}
use Rattle.std.proofs.lemmas.Bool.{not-false, cases_Bool, and_parts}
use Rattle.std.proofs.lemmas.Bool.Decides.{nat_tests}
use Rattle.std.proofs.lemmas.Str.{IsUtf8-take, IsUtf8-from_ascii, IsCharBoundary-before_ascii, IsCharBoundary-start, chars-append, scalars-chars, encodes-append, encodes-chars}
use Rattle.bag_tags.specs.Words.{is_blank, IsBlank, is_blank_line, begins_blank, without}
use Rattle.bag_tags.specs.WordsReading.{cuts, until, is_not_blank}
use Rattle.bag_tags.specs.declared.splitting.Cut.{Cut}
use Rattle.bag_tags.specs.declared.splitting.Cut.TheVariants.{Blank, NoBlank}
use Rattle.bag_tags.proofs.WordsLemmas.{each, until_whole, until_front, begins_with, unblank_rest}
use Rattle.std.proofs.lemmas.Slice.Eq.{bytes_eq-Decides}
use Rattle.std.proofs.Math.Utf8.{scalars, encodes}

scalars_rest : (cs ds : List ℕ) → scalars (cs ++ ds) ≡ true → scalars ds ≡ true
scalars_rest [] ds h = h
scalars_rest (c ∷ cs) ds h = scalars_rest cs ds (and_parts _ (scalars (cs ++ ds)) h).1

-- what follows UTF-8 within UTF-8 is UTF-8
pub IsUtf8-rest : (front rest : List ℕ) → IsUtf8 front → IsUtf8 (front ++ rest) → IsUtf8 rest
IsUtf8-rest front rest f whole = (
  chars rest,
  (
    scalars_rest (chars front) (chars rest) (ap scalars (sym (chars-append front rest f)) ∙ scalars-chars (front ++ rest) whole),
    append_cancel_left front (encodes (chars rest)) rest (
        ap (λ xs. xs ++ encodes (chars rest)) (sym (encodes-chars front f))
        ∙ sym (encodes-append (chars front) (chars rest))
        ∙ ap encodes (sym (chars-append front rest f))
        ∙ encodes-chars (front ++ rest) whole
        ),
  ),
)

-- octets below 128, one by one
below-cons : (b : ℕ) (bs : List ℕ) → b < 128 → IsAscii bs → IsAscii (b ∷ bs)
below-cons b bs h k zero = h
below-cons b bs h k (suc i) = k i

pub IsAscii-from_each : (bs : List ℕ) → AllByRecursion (λ b. b < 128) bs → IsAscii bs
IsAscii-from_each [] h = λ i. omega arith
IsAscii-from_each (b ∷ bs) h = below-cons b bs h.0 (IsAscii-from_each bs h.1)

-- a text that begins so is this front and the rest
starts_whole : (text front : List ℕ) → starts_with nat_eq text front ≡ true → text ≡ front ++ drop (length front) text
starts_whole text front h = sym (take-append-drop (length front) text) ∙ ap (λ xs. xs ++ drop (length front) text) (sym ((bytes_eq-Decides front (take (length front) text)).0 h))

-- what follows a front in ASCII that is dropped is UTF-8
pub without_utf8 : (front text : List ℕ) → IsAscii front → IsUtf8 text → IsUtf8 (without front text)
without_utf8 front text ascii utf8 = elim (cases_Bool (starts_with nat_eq text front)) [
  | inl h ↦ rw h (IsUtf8-rest front (drop (length front) text) (IsUtf8-from_ascii front ascii) (subst IsUtf8 (starts_whole text front h) utf8))
  | inr h ↦ rw h utf8
]

pub all_left : (P : ℕ → Type 0) (xs ys : List ℕ) → AllByRecursion P (xs ++ ys) → AllByRecursion P xs
all_left P [] ys h = tt
all_left P (x ∷ xs) ys h = (h.0, all_left P xs ys h.1)

pub all_right : (P : ℕ → Type 0) (xs ys : List ℕ) → AllByRecursion P (xs ++ ys) → AllByRecursion P ys
all_right P [] ys h = h
all_right P (x ∷ xs) ys h = all_right P xs ys h.1

pub all_both : (P : ℕ → Type 0) (xs ys : List ℕ) → AllByRecursion P xs → AllByRecursion P ys → AllByRecursion P (xs ++ ys)
all_both P [] ys h k = k
all_both P (x ∷ xs) ys h k = (h.0, all_both P xs ys h.1 k)

-- pairs of lists
pub first_of : (a c b d : List ℕ) → (let p : List ℕ × List ℕ = (a, b) in p) ≡ (c, d) → a ≡ c
first_of a c b d e = ap (λ (p : List ℕ × List ℕ). p.0) e

pub second_of : (a c b d : List ℕ) → (let p : List ℕ × List ℕ = (a, b) in p) ≡ (c, d) → b ≡ d
second_of a c b d e = ap (λ (p : List ℕ × List ℕ). p.1) e

pub same_tail : (x y : ℕ) (xs ys : List ℕ) → (let l : List ℕ = x ∷ xs in l) ≡ y ∷ ys → (x ≡ y) × (xs ≡ ys)
same_tail x y xs ys e = let a : x ≡ y = cc in let b : xs ≡ ys = cc in (a, b)

pub whole_of : (test : ℕ → Bool) (text front rest : List ℕ) → until test text ≡ (front, rest) → text ≡ front ++ rest
whole_of test text front rest e = until_whole test text ∙ ap (λ (u : List ℕ × List ℕ). u.0 ++ u.1) e

-- UTF-8 that is cut at an ASCII octet
pub utf8_before : (front rest : List ℕ) (b : ℕ) → b < 128 → IsUtf8 (front ++ b ∷ rest) → IsUtf8 front
utf8_before front rest b h u =
    let text : List ℕ = front ++ b ∷ rest in
    let here : get_or (front ++ b ∷ rest) (length front) 0 ≡ b = get_or-append_seam front b rest 0 in
    let below : length front < length (front ++ b ∷ rest) = omega (arith, length-append front (b ∷ rest)) in
    subst IsUtf8 (take-append_seam front (b ∷ rest)) (IsUtf8-take (front ++ b ∷ rest) (length front) u (IsCharBoundary-before_ascii (front ++ b ∷ rest) (length front) below (omega (arith, here))))

pub utf8_one : (b : ℕ) → b < 128 → IsUtf8 (b ∷ [])
utf8_one b h = IsUtf8-from_ascii (b ∷ []) (IsAscii-from_each (b ∷ []) (h, tt))

pub utf8_after : (front rest : List ℕ) (b : ℕ) → b < 128 → IsUtf8 (front ++ b ∷ rest) → IsUtf8 rest
utf8_after front rest b h u =
    IsUtf8-rest (b ∷ []) rest (utf8_one b h) (IsUtf8-rest front (b ∷ rest) (utf8_before front rest b h u) u)

pub blank_below : (b : ℕ) → IsBlank b → b < 128
blank_below b h = grind (arith, nat_tests)

pub utf8_after_blanks : (blanks rest : List ℕ) → AllByRecursion IsBlank blanks → IsUtf8 (blanks ++ rest) → IsUtf8 rest
utf8_after_blanks blanks rest h u = IsUtf8-rest blanks rest (IsUtf8-from_ascii blanks (IsAscii-from_each blanks (each IsBlank (λ b. b < 128) blank_below blanks h))) u

-- blanks that were cut off
pub blanks_of : (text blanks rest : List ℕ) → until is_not_blank text ≡ (blanks, rest) → AllByRecursion IsBlank blanks
blanks_of text blanks rest e = each (λ x. is_not_blank x ≡ false) IsBlank (λ x h. not-false (is_blank x) h) blanks (subst (λ (u : List ℕ × List ℕ). AllByRecursion (λ x. is_not_blank x ≡ false) u.0) e (until_front is_not_blank text))

pub rest_begins : (text blanks rest : List ℕ) → until is_not_blank text ≡ (blanks, rest) → begins_blank rest ≡ false
rest_begins text blanks rest e = ap (λ (u : List ℕ × List ℕ). begins_blank u.1) (sym e) ∙ unblank_rest text

pub blank_line_of : (xs : List ℕ) → AllByRecursion IsBlank xs → is_blank_line xs ≡ true
blank_line_of [] h = refl
blank_line_of (x ∷ xs) h = rw h.0 (blank_line_of xs h.1)

-- what follows the place where a text is cut
ascii_rest : (test : ℕ → Bool) → ((x : ℕ) → test x ≡ true → x < 128) → (text front rest : List ℕ) → until test text ≡ (front, rest) → IsUtf8 text → IsUtf8 rest
ascii_rest test below text front [] e u = IsUtf8-from_ascii [] (IsAscii-from_each [] tt)
ascii_rest test below text front (y ∷ ys) e u =
    let whole = subst IsUtf8 (whole_of test text front (y ∷ ys) e) u in
    let b = below y (begins_with test text y ys (ap (λ (u : List ℕ × List ℕ). u.1) e)) in
    IsUtf8-rest front (y ∷ ys) (utf8_before front ys y b whole) whole

cut_below : (cut : Cut) → cut ≢ NoBlank → (x : ℕ) → cuts cut x ≡ true → x < 128
cut_below Blank n x h = blank_below x h
cut_below NoBlank n x h = absurd (n refl)
cut_below cut n x h = grind (arith, nat_tests)

pub rest_utf8 : (cut : Cut) (text front rest : List ℕ) → until (cuts cut) text ≡ (front, rest) → IsUtf8 text → IsUtf8 rest
rest_utf8 NoBlank text front rest e u = utf8_after_blanks front rest (blanks_of text front rest e) (subst IsUtf8 (whole_of is_not_blank text front rest e) u)
rest_utf8 cut text front rest e u = ascii_rest (cuts cut) (cut_below cut (λ n. cc)) text front rest e u

pub boundary_of_rest : (text : List ℕ) (n : ℕ) → n ≤ length text → IsUtf8 (drop n text) → IsCharBoundary text n
boundary_of_rest text n within u = (
  within,
  λ below high.
      let start = IsCharBoundary-start (drop n text) u in
      let here : slice_index (drop n text) 0 ≡ slice_index text n =
      get_or-drop n text 0 0 ∙ (let same : n + 0 ≡ n = omega arith in ap (λ k. get_or text k 0) same) in
      let some : 0 < length (drop n text) = omega (arith, length-drop n text) in
      let h : 192 ≤ slice_index (drop n text) 0 = start.1 some (omega (arith, here)) in
      omega (arith, here, h),
)
