-- A text is cut exactly at its first blanks.
use Rattle.std.proofs.Common.{◌≡◌, ◌≢◌, ◌==◌, ℕ, Bool, true, false, not, List, [], ◌∷◌, ◌++◌, length, refl, sym, ap, ◌∙◌, inl, inr, arith, append_assoc, ◌+◌, ◌<◌, take, drop, get_or, append-nil, subst}
use Rattle.std.specs.List.{AllByRecursion}
use Rattle.std.proofs.lemmas.Bool.{not-false, not_from_true, cases_Bool, ne_eqb}
use Rattle.bag_tags.specs.Words.{is_blank, IsBlank, begins_blank, IsCut}
use Rattle.bag_tags.specs.WordsReading.{until, is_not_blank}
use Rattle.std.proofs.lemmas.List.{drop_more, take_more}
use Rattle.std.proofs.Math.Seq.{drop-length}

-- the front up to an element that passes
pub until_whole : (test : ℕ → Bool) (xs : List ℕ) → xs ≡ (until test xs).0 ++ (until test xs).1
unfolding until
until_whole test [] = refl
until_whole test (x ∷ xs) = elim (cases_Bool (test x)) [ inl h ↦ rw h refl | inr h ↦ rw h (ap (λ ys. x ∷ ys) (until_whole test xs)) ]

pub until_front : (test : ℕ → Bool) (xs : List ℕ) → AllByRecursion (λ x. test x ≡ false) (until test xs).0
unfolding until
until_front test [] = tt
until_front test (x ∷ xs) = elim (cases_Bool (test x)) [ inl h ↦ rw h tt | inr h ↦ rw h (h, until_front test xs) ]

pub until_none : (test : ℕ → Bool) (xs : List ℕ) → (until test xs).0 ≡ [] → until test xs ≡ ([], xs)
unfolding until
until_none test [] e = refl
until_none test (x ∷ xs) e = elim (cases_Bool (test x)) [ inl h ↦ rw h refl | inr h ↦ absurd (let k = rw h at e in cc) ]

pub until_at : (test : ℕ → Bool) (front rest : List ℕ) → AllByRecursion (λ x. test x ≡ false) front → (until test rest).0 ≡ [] → until test (front ++ rest) ≡ (front, rest)
unfolding until
until_at test [] rest p e = until_none test rest e
until_at test (x ∷ front) rest p e = rw p.0 (ap (λ (u : List ℕ × List ℕ). (x ∷ u.0, u.1)) (until_at test front rest p.1 e))

-- an element that passes is not in the front
pub until_here : (test : ℕ → Bool) (front rest : List ℕ) (x : ℕ) → AllByRecursion (λ x. test x ≡ false) front → test x ≡ true → until test (front ++ x ∷ rest) ≡ (front, x ∷ rest)
unfolding until
until_here test front rest x p h = until_at test front (x ∷ rest) p (rw h refl)

-- what follows the front begins with an element that passes, or is nothing
pub begins_with : (test : ℕ → Bool) (xs : List ℕ) (y : ℕ) (ys : List ℕ) → (until test xs).1 ≡ y ∷ ys → test y ≡ true
unfolding until
begins_with test [] y ys e = cc
begins_with test (x ∷ xs) y ys e = elim (cases_Bool (test x)) [
  | inl h ↦ let k : (let r : List ℕ = x ∷ xs in r) ≡ y ∷ ys = rw h at e in let same : x ≡ y = cc in ap test (sym same) ∙ h
  | inr h ↦ begins_with test xs y ys (rw h at e)
]

-- nothing passes if nothing is left
pub none_passes : (test : ℕ → Bool) (xs : List ℕ) → (length (until test xs).1 == 0) ≡ true → AllByRecursion (λ x. test x ≡ false) xs
unfolding until
none_passes test [] e = tt
none_passes test (x ∷ xs) e = elim (cases_Bool (test x)) [
  | inl h ↦ absurd (let k : (length (x ∷ xs) == 0) ≡ true = rw h at e in let n : (length (x ∷ xs) == 0) ≡ false = ne_eqb (length (x ∷ xs)) 0 (λ e. omega arith) in cc)
  | inr h ↦ (h, none_passes test xs (rw h at e))
]

-- nothing is left if nothing passes
pub nothing_left : (test : ℕ → Bool) (xs : List ℕ) → AllByRecursion (λ x. test x ≡ false) xs → (until test xs).1 ≡ []
unfolding until
nothing_left test [] h = refl
nothing_left test (x ∷ xs) h = rw h.0 (nothing_left test xs h.1)

-- what follows a front, if there is something, begins with an element that passes
then_passes : (p : ℕ → Bool) (text : List ℕ) → (length (until p text).1 == 0) ≡ false → (until (λ x. not (p x)) (until p text).1).0 ≢ []
unfolding until
then_passes p [] h = absurd (let k : true ≡ false = h in cc)
then_passes p (x ∷ text) h = elim (cases_Bool (p x)) [
  | inl e ↦ rw e (rw e (λ k. cc))
  | inr e ↦ rw e (then_passes p text (rw e at h))
]

pub each : (P Q : ℕ → Type 0) → ((x : ℕ) → P x → Q x) → (xs : List ℕ) → AllByRecursion P xs → AllByRecursion Q xs
each P Q f [] h = tt
each P Q f (x ∷ xs) h = (f x h.0, each P Q f xs h.1)

-- elements that pass leave no front
none_before : (p : ℕ → Bool) (front rest : List ℕ) → front ≢ [] → AllByRecursion (λ x. p x ≡ true) front → (until p (front ++ rest)).0 ≡ []
unfolding until
none_before p [] rest some h = absurd (some refl)
none_before p (x ∷ front) rest some h = rw h.0 refl

not_empty : (front rest : List ℕ) → front ≢ [] → (length (front ++ rest) == 0) ≡ false
not_empty [] rest some = absurd (some refl)
not_empty (x ∷ front) rest some = ne_eqb (length ((x ∷ front) ++ rest)) 0 (λ e. omega arith)

-- what begins with no blank leaves no front of blanks
unblank_front : (rest : List ℕ) → begins_blank rest ≡ false → (until is_not_blank rest).0 ≡ []
unfolding until
unblank_front [] h = refl
unblank_front (x ∷ rest) h = rw h refl

pub blanks_cut : (blanks rest : List ℕ) → AllByRecursion IsBlank blanks → begins_blank rest ≡ false → until is_not_blank (blanks ++ rest) ≡ (blanks, rest)
blanks_cut blanks rest h b = until_at is_not_blank blanks rest (each IsBlank _ (λ x e. not_from_true (is_blank x) e) blanks h) (unblank_front rest b)

pub unblank_rest : (xs : List ℕ) → begins_blank (until is_not_blank xs).1 ≡ false
unfolding until
unblank_rest [] = refl
unblank_rest (x ∷ xs) = elim (cases_Bool (is_blank x)) [ inl h ↦ rw h (unblank_rest xs) | inr h ↦ rw h h ]

-- the rest after the first word of a line, and after its blanks
abbrev pub word_of : List ℕ → List ℕ
word_of text = (until is_blank text).0

abbrev pub after_word : List ℕ → List ℕ
after_word text = (until is_blank text).1

abbrev pub after_blanks : List ℕ → List ℕ
after_blanks text = (until is_not_blank text).1

-- a line with a blank is cut there
pub cut_at : (text : List ℕ) → (length (after_word text) == 0) ≡ false → IsCut text (word_of text) (until is_not_blank (after_word text)).0 (after_blanks (after_word text))
cut_at text some =
    let rest = after_word text in
    record {
      whole = until_whole is_blank text ∙ ap (λ xs. word_of text ++ xs) (until_whole is_not_blank rest) ∙ sym (append_assoc (word_of text) (until is_not_blank rest).0 (until is_not_blank rest).1);
      word_ends = until_front is_blank text;
      some_blank = then_passes is_blank text some;
      only_blanks = each _ IsBlank (λ x h. not-false (is_blank x) h) (until is_not_blank rest).0 (until_front is_not_blank rest);
      rest_begins = unblank_rest rest;
    }

-- a line is cut nowhere else
pub cut_word : (text word blanks rest : List ℕ) → IsCut text word blanks rest → until is_blank text ≡ (word, blanks ++ rest)
cut_word text word blanks rest cut =
    ap (until is_blank) (cut.whole ∙ append_assoc word blanks rest)
    ∙ until_at is_blank word (blanks ++ rest) cut.word_ends (none_before is_blank blanks rest cut.some_blank cut.only_blanks)

pub cut_blanks : (text word blanks rest : List ℕ) → IsCut text word blanks rest → until is_not_blank (blanks ++ rest) ≡ (blanks, rest)
cut_blanks text word blanks rest cut = blanks_cut blanks rest cut.only_blanks cut.rest_begins

pub cut_some : (text word blanks rest : List ℕ) → IsCut text word blanks rest → (length (blanks ++ rest) == 0) ≡ false
cut_some text word blanks rest cut = not_empty blanks rest cut.some_blank

-- Going through a list up to the first element that passes: the first n elements don't pass, and the rest is cut as a
-- list of its own.
abbrev pub Spans : (ℕ → Bool) → List ℕ → ℕ → Type 0
Spans test text n = until test text ≡ (take n text ++ (until test (drop n text)).0, (until test (drop n text)).1)

-- an element that doesn't pass is added to the front
onto : (test : ℕ → Bool) (x : ℕ) (xs : List ℕ) → test x ≡ false → until test (x ∷ xs) ≡ (x ∷ (until test xs).0, (until test xs).1)
unfolding until
onto test x xs h = rw h refl

stop : (test : ℕ → Bool) (x : ℕ) (xs : List ℕ) → test x ≡ true → until test (x ∷ xs) ≡ ([], x ∷ xs)
unfolding until
stop test x xs h = rw h refl

pub spans_on : (test : ℕ → Bool) (text : List ℕ) (n : ℕ) → n < length text → test (get_or text n 0) ≡ false → Spans test text n → Spans test text (n + 1)
spans_on test text n below h s =
    let U = until test (drop (n + 1) text) in
    let go = λ (p : List ℕ × List ℕ). let r : List ℕ × List ℕ = (take n text ++ p.0, p.1) in r in
    let more : take n text ++ (get_or text n 0 ∷ U.0) ≡ take (n + 1) text ++ U.0 = sym (ap (λ xs. xs ++ U.0) (take_more text n 0 below) ∙ append_assoc (take n text) (get_or text n 0 ∷ []) U.0) in
    s ∙ ap go (ap (until test) (drop_more text n 0 below) ∙ onto test (get_or text n 0) (drop (n + 1) text) h) ∙ ap (λ xs. (xs, U.1)) more

pub spans_stop : (test : ℕ → Bool) (text : List ℕ) (n : ℕ) → n < length text → test (get_or text n 0) ≡ true → Spans test text n → until test text ≡ (take n text, drop n text)
spans_stop test text n below h s =
    let go = λ (p : List ℕ × List ℕ). let r : List ℕ × List ℕ = (take n text ++ p.0, p.1) in r in
    s ∙ ap go (ap (until test) (drop_more text n 0 below) ∙ stop test (get_or text n 0) (drop (n + 1) text) h ∙ ap (λ xs. ([], xs)) (sym (drop_more text n 0 below)))
    ∙ ap (λ xs. (xs, drop n text)) (append-nil (take n text))

pub spans_end : (test : ℕ → Bool) (text : List ℕ) (n : ℕ) → n ≡ length text → Spans test text n → until test text ≡ (take (length text) text, drop (length text) text)
unfolding until
spans_end test text n e s =
    let go = λ (p : List ℕ × List ℕ). let r : List ℕ × List ℕ = (take (length text) text ++ p.0, p.1) in r in
    subst (Spans test text) e s ∙ ap go (ap (until test) (drop-length text)) ∙ (ap (λ xs. (xs, [])) (append-nil (take (length text) text))) ∙ ap (λ xs. (take (length text) text, xs)) (sym (drop-length text))
