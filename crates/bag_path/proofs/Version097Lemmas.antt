-- What can be spelled in version 0.97, and what can't.
use Rattle.std.proofs.Common.{◌≡◌, ◌≢◌, ◌==◌, ◌∷◌, ◌++◌, ℕ, zero, suc, List, [], Option, Some, None, if◌then◌else◌, refl, sym, subst, ap, ◌∙◌, inl, inr, get_or, take, drop, arith, codes}
use Rattle.std.specs.List.{All, AllByRecursion, flat_map}
use Rattle.std.proofs.lemmas.Bool.Decides.{eqb_tells}
use Rattle.std.proofs.lemmas.List.Elements.{All-nil, All-append, All-from_recursion}
use Rattle.bag_path.specs.Lines.{IsPlain}
use Rattle.bag_path.specs.declared.version.Version.TheVariants.{V097}
use Rattle.bag_path.specs.SpellingReading.{octet_of_escape, octet_of_percent, octets_with_first, octets_spelled_after, taken_by}
use Rattle.bag_path.specs.Spellings.{IsLineEscape, BeginsLineEscape, StandsFor, Spells}
use Rattle.bag_path.proofs.SpellingLemmas.{plain_octet, percent_after, percent_of}
use Rattle.bag_path.proofs.SpellsLemmas.{begun, spells_if_read}

-- reading the text gives some octets
abbrev Reads : ℕ → List ℕ → Type 0
Reads taken text = (path : List ℕ) × (octets_spelled_after taken V097 text ≡ Some path)

some_octet : (escape : Option ℕ) → (octet : ℕ) × (octet_of_percent V097 escape ≡ Some octet)
some_octet (Some octet) = (octet, refl)
some_octet None = (37, refl)

both : (first : Option ℕ) (octet : ℕ) (read : Option (List ℕ)) (path : List ℕ) → first ≡ Some octet → read ≡ Some path → octets_with_first first read ≡ Some (octet ∷ path)
both first octet read path e f = rw (e, f) refl

reads_percent : (text : List ℕ) → Reads (taken_by (octet_of_escape V097 (take 2 text))) text → Reads 0 (37 ∷ text)
reads_percent text more =
    let first = some_octet (octet_of_escape V097 (take 2 text)) in
    (first.0 ∷ more.0, percent_after V097 text ∙ both (percent_of V097 text) first.0 _ more.0 first.1 more.1)

reads_after : (text : List ℕ) (taken : ℕ) → Reads taken text
unfolding octets_spelled_after
reads_after [] taken = ([], refl)
reads_after (x ∷ text) (suc taken) = reads_after text taken
reads_after (x ∷ text) zero = elim (eqb_tells x 37) [
  | inl h ↦ subst (λ x. Reads 0 (x ∷ text)) (sym h.1) (reads_percent text (reads_after text (taken_by (octet_of_escape V097 (take 2 text)))))
  | inr h ↦
      let more = reads_after text 0 in
      (x ∷ more.0, plain_octet V097 x text h.1 ∙ ap (octets_with_first (Some x)) more.1)
]

pub spells_some : (text : List ℕ) → (path : List ℕ) × Spells V097 path text
spells_some text =
    let read = reads_after text 0 in
    (read.0, spells_if_read V097 read.0 text read.1)

-- an octet that is no line end stands for itself
plain_part : (part : List ℕ) (octet : ℕ) (rest : List ℕ) → octet ≢ 10 → octet ≢ 13 → StandsFor V097 part octet rest → (part ≡ octet ∷ []) × ¬ BeginsLineEscape (octet ∷ rest)
plain_part part octet rest a b (inl h) = h
plain_part part octet rest a b (inr (inl h)) = absurd (a h.0)
plain_part part octet rest a b (inr (inr h)) = absurd (b h.0)

-- no text spells `%` and a code of LF or CR
no_code : (letter octet : ℕ) (after text : List ℕ) → letter ≢ 10 → letter ≢ 13 → octet_of_escape V097 (48 ∷ letter ∷ []) ≡ Some octet → ¬ Spells V097 (37 ∷ 48 ∷ letter ∷ after) text
no_code letter octet after text a b e h =
    let percent = plain_part h.0 37 h.1 (omega arith) (omega arith) h.3 in
    let zero = plain_part h.4.0 48 h.4.1 (omega arith) (omega arith) h.4.3 in
    let last = plain_part h.4.4.0 letter h.4.4.1 a b h.4.4.3 in
    let rest : h.1 ≡ 48 ∷ letter ∷ h.4.4.1 = h.4.2 ∙ ap (λ part. part ++ h.4.1) zero.0 ∙ ap (λ rest. 48 ∷ rest) (h.4.4.2 ∙ ap (λ part. part ++ h.4.4.1) last.0) in
    percent.1 (begun h.1 octet (ap (λ text. octet_of_escape V097 (take 2 text)) rest ∙ e))

no_escape : (part after text : List ℕ) (octet : ℕ) → IsLineEscape part octet → ¬ Spells V097 (part ++ after) text
no_escape part after text octet (inl (e, inl k)) = subst (λ part. ¬ Spells V097 (part ++ after) text) (sym k) (no_code 65 10 after text (omega arith) (omega arith) refl)
no_escape part after text octet (inl (e, inr k)) = subst (λ part. ¬ Spells V097 (part ++ after) text) (sym k) (no_code 97 10 after text (omega arith) (omega arith) refl)
no_escape part after text octet (inr (e, inl k)) = subst (λ part. ¬ Spells V097 (part ++ after) text) (sym k) (no_code 68 13 after text (omega arith) (omega arith) refl)
no_escape part after text octet (inr (e, inr k)) = subst (λ part. ¬ Spells V097 (part ++ after) text) (sym k) (no_code 100 13 after text (omega arith) (omega arith) refl)

pub no_spelling : (before part after text : List ℕ) (octet : ℕ) → IsLineEscape part octet → ¬ Spells V097 (before ++ part ++ after) text
no_spelling [] part after text octet e h = no_escape part after text octet e h
no_spelling (x ∷ before) part after text octet e h = no_spelling before part after h.1 octet e h.4

-- the path contains no escape of LF or CR
abbrev HasNoLineEscape : List ℕ → Type 0
HasNoLineEscape path = (before part after : List ℕ) (octet : ℕ) → IsLineEscape part octet → path ≢ (before ++ part ++ after)

pub spells_itself : (path : List ℕ) → HasNoLineEscape path → Spells V097 path path
spells_itself [] none = refl
spells_itself (octet ∷ path) none =
    let alone : ¬ BeginsLineEscape (octet ∷ path) = λ h. none [] h.0 h.1 h.2 h.4 h.3 in
    let more = spells_itself path (λ before part after escaped e same. none (octet ∷ before) part after escaped e (ap (λ path. octet ∷ path) same)) in
    (octet ∷ [], path, refl, inl (refl, alone), more)

-- a path on one line: LF and CR are escaped
abbrev line_part_of : ℕ → List ℕ
line_part_of octet = if octet == 10 then codes "%0A" else if octet == 13 then codes "%0D" else octet ∷ []

abbrev line_text : List ℕ → List ℕ
line_text path = flat_map line_part_of path

by_line_part : (P : ℕ → Type 0) → P 10 → P 13 → ((x : ℕ) → IsPlain x → line_part_of x ≡ x ∷ [] → P x) → (x : ℕ) → P x
by_line_part P lf cr itself x = elim (eqb_tells x 10) [ inl a ↦ subst P (sym a.1) lf | inr a ↦ elim (eqb_tells x 13) [ inl b ↦ subst P (sym b.1) cr | inr b ↦ itself x (a.1, b.1) (rw (a.0, b.0) refl) ] ]

first_of_texts : (x y : ℕ) (xs ys : List ℕ) → (x ∷ xs) ≡ (y ∷ ys) → x ≡ y
first_of_texts x y xs ys e = ap (λ text. get_or text 0 0) e

-- an octet other than `%` is the same in the text and in the path
raw : (path : List ℕ) (x : ℕ) (more : List ℕ) → x ≢ 37 → line_text path ≡ x ∷ more → (rest : List ℕ) × (path ≡ x ∷ rest) × (line_text rest ≡ more)
raw [] x more other e = absurd (let h : [] ≡ x ∷ more = e in cc)
raw (y ∷ path) x more other e = by_line_part (λ y. line_text (y ∷ path) ≡ x ∷ more → (rest : List ℕ) × (y ∷ path ≡ x ∷ rest) × (line_text rest ≡ more))
    (λ e. absurd (other (sym (first_of_texts 37 x _ more e))))
    (λ e. absurd (other (sym (first_of_texts 37 x _ more e))))
    (λ y plain same e.
    let cut : y ∷ line_text path ≡ x ∷ more = ap (λ part. part ++ line_text path) (sym same) ∙ e in
    (path, ap (λ y. y ∷ path) (first_of_texts y x _ more cut), ap (drop 1) cut))
    y e

-- if the text begins with an escape, the path begins with it or with its octet
begun_raw : (x letter : ℕ) (path part rest : List ℕ) → letter ≢ 37 → part ≡ 37 ∷ 48 ∷ letter ∷ [] → x ∷ line_text path ≡ part ++ rest → (after : List ℕ) × (x ∷ path ≡ part ++ after)
begun_raw x letter path part rest other e cut =
    let same : x ∷ line_text path ≡ 37 ∷ 48 ∷ letter ∷ rest = cut ∙ ap (λ part. part ++ rest) e in
    let zero = raw path 48 (letter ∷ rest) (omega arith) (ap (drop 1) same) in
    let last = raw zero.0 letter rest other zero.2 in
    (last.0, ap (λ x. x ∷ path) (first_of_texts x 37 _ _ same) ∙ ap (λ path. 37 ∷ path) (zero.1 ∙ ap (λ path. 48 ∷ path) last.1) ∙ ap (λ part. part ++ last.0) (sym e))

begun_in_path : (x octet : ℕ) (path part rest : List ℕ) → IsLineEscape part octet → x ∷ line_text path ≡ part ++ rest → (after : List ℕ) × (x ∷ path ≡ part ++ after)
begun_in_path x octet path part rest (inl (e, inl k)) cut = begun_raw x 65 path part rest (omega arith) k cut
begun_in_path x octet path part rest (inl (e, inr k)) cut = begun_raw x 97 path part rest (omega arith) k cut
begun_in_path x octet path part rest (inr (e, inl k)) cut = begun_raw x 68 path part rest (omega arith) k cut
begun_in_path x octet path part rest (inr (e, inr k)) cut = begun_raw x 100 path part rest (omega arith) k cut

no_escape_begun : (x : ℕ) (path : List ℕ) → HasNoLineEscape (x ∷ path) → ¬ BeginsLineEscape (x ∷ line_text path)
no_escape_begun x path none h =
    let found = begun_in_path x h.2 path h.0 h.1 h.4 h.3 in
    none [] h.0 found.0 h.2 h.4 found.1

none_after : (x : ℕ) (path : List ℕ) → HasNoLineEscape (x ∷ path) → HasNoLineEscape path
none_after x path none = λ before part after escaped e same. none (x ∷ before) part after escaped e (ap (λ path. x ∷ path) same)

line_spells : (path : List ℕ) → HasNoLineEscape path → Spells V097 path (line_text path)
line_spells [] none = refl
line_spells (octet ∷ path) none =
    let more : Spells V097 path (line_text path) = line_spells path (none_after octet path none) in
    by_line_part (λ octet. HasNoLineEscape (octet ∷ path) → Spells V097 (octet ∷ path) (line_text (octet ∷ path)))
    (λ none. (codes "%0A", line_text path, refl, inr (inl (refl, inl refl)), more))
    (λ none. (codes "%0D", line_text path, refl, inr (inr (refl, inl refl)), more))
    (λ x plain same none. (x ∷ [], line_text path, ap (λ part. part ++ line_text path) same, inl (refl, no_escape_begun x path none), more))
    octet none

part_plain : (octet : ℕ) → AllByRecursion IsPlain (line_part_of octet)
part_plain octet = by_line_part (λ octet. AllByRecursion IsPlain (line_part_of octet))
    ((λ e. cc, λ e. cc), ((λ e. cc, λ e. cc), ((λ e. cc, λ e. cc), tt)))
    ((λ e. cc, λ e. cc), ((λ e. cc, λ e. cc), ((λ e. cc, λ e. cc), tt)))
    (λ octet h e. rw e (h, tt)) octet

line_plain : (path : List ℕ) → All IsPlain (line_text path)
line_plain [] = All-nil IsPlain
line_plain (octet ∷ path) = All-append IsPlain (line_part_of octet) (line_text path) (All-from_recursion IsPlain (line_part_of octet) (part_plain octet)) (line_plain path)

pub spells_on_a_line : (path : List ℕ) → HasNoLineEscape path → (text : List ℕ) × Spells V097 path text × All IsPlain text
spells_on_a_line path none = (line_text path, line_spells path none, line_plain path)
