-- What is written for pairs is read as these pairs.
use Rattle.std.proofs.Common.{◌≡◌, ◌⊎◌, ◌≢◌, ◌==◌, ◌<◌, ◌*◌, ◌+◌, ℕ, true, false, List, [], ◌∷◌, ◌++◌, codes, map, length, nat_eq, if◌then◌else◌, refl, sym, ap, ◌∙◌, subst, inl, inr, arith, append_assoc, append-nil}
use Rattle.std.specs.List.{AllByRecursion, All, starts_with}
use Rattle.std.specs.Str.{IsUtf8, bytes_eq}
use Rattle.std.proofs.lemmas.Bool.{ne_eqb, cases_Bool, or_parts}
use Rattle.std.proofs.lemmas.Bool.Decides.{eqb_tells, nat_tests}
use Rattle.std.proofs.lemmas.List.Concat.{flat_map-cons}
use Rattle.std.proofs.lemmas.List.Elements.{recursion_from_All, All-from_recursion, All-head}
use Rattle.std.proofs.lemmas.List.Splits.{slice_split_at}
use Rattle.std.proofs.lemmas.Str.{IsUtf8-append, IsUtf8-from_ascii}
use Rattle.hex.specs.Hex.{is_hex_digit}
use Rattle.hex.proofs.HexLemmas.{IsOk-decode_sized}
use Rattle.bag_path.specs.Lines.{IsPlain, written_lines}
use Rattle.bag_path.specs.Paths.{IsPath, segments}
use Rattle.bag_path.specs.Spellings.{Spells, written_spelling, written_part}
use Rattle.bag_path.specs.declared.version.Version.TheVariants.{V1}
use Rattle.bag_path.proofs.SpellsLemmas.{written_spells}
use Rattle.bag_digest.specs.declared.algorithm.Alg.{Alg}
use Rattle.bag_digest.specs.declared.algorithm.Alg.TheVariants.{Md5}
use Rattle.bag_digest.specs.declared.digest.Digest.{Digest}
use Rattle.bag_digest.specs.Algorithm.{size_of}
use Rattle.bag_digest.specs.Hash.{alg_of}
use Rattle.bag_digest.specs.Spelling.{SpellsDigest, lower_case_of}
use Rattle.bag_tags.specs.declared.listing.Kind.{Kind}
use Rattle.bag_tags.specs.declared.listing.Pair.{Pair}
use Rattle.bag_tags.specs.Words.{is_blank, IsNotBlank, is_blank_line, begins_blank}
use Rattle.bag_tags.specs.TagLines.{mark, LeadsOn, Lead}
use Rattle.bag_tags.specs.Listings.{Listing, lists_path, NoneTwice, nothing_listed}
use Rattle.bag_tags.specs.ManifestView.{FitEach}
use Rattle.bag_tags.specs.Manifests.{plain_path, AddsPair, ManifestText}
use Rattle.bag_tags.specs.ManifestWriting.{CanBeWritten, needs_dot, written_path, written_pair, written_manifest}
use Rattle.bag_tags.proofs.TextCutLemmas.{all_both, utf8_one, IsAscii-from_each}
use Rattle.bag_tags.proofs.ListingLemmas.{unlike}
use Rattle.bag_tags.proofs.WritingLemmas.{numbered_texts, written_text, lines_cons, written_utf8, path_plain}
use Rattle.bag_tags.proofs.WordsLemmas.{each}

-- the text of a line
abbrev pub pair_text : Pair → List ℕ
pair_text pair = lower_case_of pair.digest ++ codes "  " ++ written_path pair.path

pub pairs_written : (pairs : List Pair) → written_manifest pairs ≡ written_lines (map pair_text pairs)
pairs_written [] = refl
pairs_written (p ∷ pairs) = flat_map-cons written_pair p pairs ∙ ap (λ xs. written_pair p ++ xs) (pairs_written pairs) ∙ sym (lines_cons (pair_text p) (map pair_text pairs))

-- the digits of a checksum
record IsHex (text : List ℕ) : Type 0 where
  some : text ≢ []
  digits : AllByRecursion (λ x. is_hex_digit x ≡ true) text

size_some : (alg : Alg) → 0 < size_of alg
size_some Md5 = omega arith
size_some alg = omega arith

hex_of : (alg : Alg) (text : List ℕ) (digest : Digest) → SpellsDigest alg text digest → IsHex text
hex_of alg text digest h =
    let r = (IsOk-decode_sized text (size_of alg)).0 (rw h.digits refl) in
    let some = size_some alg in
    record {
      some = λ e. absurd (let none : 0 ≡ 2 * size_of alg = sym (ap length e) ∙ r.0 in omega arith);
      digits = recursion_from_All (λ x. is_hex_digit x ≡ true) text r.1;
    }

digit_graphic : (x : ℕ) → is_hex_digit x ≡ true → (32 < x) × (x < 128)
digit_graphic x h = (grind (arith, nat_tests), grind (arith, nat_tests))

digit_plain : (x : ℕ) → is_hex_digit x ≡ true → IsPlain x
digit_plain x h = let g = digit_graphic x h in (λ e. omega (arith, g.0), λ e. omega (arith, g.0))

digit_not_blank : (x : ℕ) → is_hex_digit x ≡ true → is_blank x ≡ false
digit_not_blank x h = grind (arith, nat_tests)

hex_utf8 : (text : List ℕ) → IsHex text → IsUtf8 text
hex_utf8 text h = IsUtf8-from_ascii text (IsAscii-from_each text (each (λ x. is_hex_digit x ≡ true) (λ x. x < 128) (λ x d. (digit_graphic x d).1) text h.digits))

hex_not_blank : (text rest : List ℕ) → IsHex text → is_blank_line (text ++ rest) ≡ false
hex_not_blank [] rest h = absurd (h.some refl)
hex_not_blank (x ∷ text) rest h = rw (digit_not_blank x h.digits.0) refl

hex_unmarked : (text rest : List ℕ) → IsHex text → starts_with nat_eq (text ++ rest) mark ≡ false
hex_unmarked [] rest h = absurd (h.some refl)
hex_unmarked (x ∷ text) rest h = let g = digit_graphic x h.digits.0 in rw (ne_eqb 239 x (λ e. omega (arith, g.1))) refl

-- what is written for an octet is that octet, or begins with `%`
part_of : (x : ℕ) → ((code : List ℕ) × (written_part x ≡ 37 ∷ code)) ⊎ (written_part x ≡ x ∷ [])
part_of x = elim (eqb_tells x 37) [
  | inl a ↦ inl (50 ∷ 53 ∷ [], rw a.0 refl)
  | inr a ↦ elim (eqb_tells x 10) [
    | inl b ↦ inl (48 ∷ 65 ∷ [], rw (a.0, b.0) refl)
    | inr b ↦ elim (eqb_tells x 13) [ inl c ↦ inl (48 ∷ 68 ∷ [], rw (a.0, b.0, c.0) refl) | inr c ↦ inr (rw (a.0, b.0, c.0) refl) ]
  ]
]

part_not : (x y : ℕ) (rest : List ℕ) → y ≢ x → y ≢ 37 → starts_with nat_eq (written_part x ++ rest) (y ∷ []) ≡ false
part_not x y rest n m = elim (part_of x) [ inl p ↦ rw (p.1, ne_eqb y 37 m) refl | inr p ↦ rw (p, ne_eqb y x n) refl ]

part_no_dot : (x : ℕ) (rest : List ℕ) → 46 ≢ x → starts_with nat_eq (written_part x ++ rest) (codes "./") ≡ false
part_no_dot x rest n = elim (part_of x) [ inl p ↦ rw p.1 refl | inr p ↦ rw (p, ne_eqb 46 x n) refl ]

part_begins : (x : ℕ) (rest : List ℕ) → is_blank x ≡ false → begins_blank (written_part x ++ rest) ≡ false
part_begins x rest h = elim (part_of x) [ inl p ↦ rw p.1 refl | inr p ↦ rw p h ]

-- no path begins with `./`
dot_segment : (rest : List ℕ) → segments (46 ∷ 47 ∷ rest) ≡ (46 ∷ []) ∷ segments rest
dot_segment rest = slice_split_at (λ octet. octet == 47) (46 ∷ []) 47 rest (All-from_recursion (λ octet. (octet == 47) ≡ false) (46 ∷ []) (refl, tt)) refl

no_dot_first : (rest : List ℕ) → IsPath (46 ∷ 47 ∷ rest) → ⊥
no_dot_first rest h =
    let IsFree = λ (segment : List ℕ). (segment ≢ codes ".") × (segment ≢ codes "..") in
    (All-head IsFree (46 ∷ []) (segments rest) (subst (All IsFree) (dot_segment rest) h.no_dot_segment)).0 refl

abbrev IsNotDotted : List ℕ → Type 0
IsNotDotted path = (rest : List ℕ) → path ≢ 46 ∷ 47 ∷ rest

not_dotted : (path : List ℕ) → IsPath path → IsNotDotted path
not_dotted path h = λ rest e. no_dot_first rest (subst IsPath e h)

slash_one : (y : ℕ) (text : List ℕ) → y ≢ 47 → starts_with nat_eq (written_part y ++ text) (codes "/") ≡ false
slash_one y text n = part_not y 47 text (λ k. n (sym k)) (λ k. absurd (omega (arith, k)))

slash_next : (rest : List ℕ) → IsNotDotted (46 ∷ rest) → starts_with nat_eq (written_spelling rest) (codes "/") ≡ false
slash_next [] h = refl
slash_next (y ∷ rest) h = slash_one y (written_spelling rest) (λ f. h rest (ap (λ z. 46 ∷ z ∷ rest) f))

no_dot : (x : ℕ) (path : List ℕ) → IsNotDotted (x ∷ path) → starts_with nat_eq (written_spelling (x ∷ path)) (codes "./") ≡ false
no_dot x path h = elim (eqb_tells x 46) [
  | inl e ↦ ap (λ z. starts_with nat_eq (written_spelling (z ∷ path)) (codes "./")) e.1 ∙ (slash_next path (subst (λ z. IsNotDotted (z ∷ path)) e.1 h))
  | inr e ↦ part_no_dot x (written_spelling path) (λ k. e.1 (sym k))
]

not_42 : (x : ℕ) → (x == 42) ≡ false → 42 ≢ x
not_42 x h e = let k : true ≡ false = sym (ap (λ y. y == 42) (sym e)) ∙ h in cc

dotted_by : (path : List ℕ) (P : List ℕ → Type 0) → P (codes "./" ++ written_spelling path) → (needs_dot path ≡ false → P (written_spelling path)) → P (written_path path)
dotted_by path P d p = elim (cases_Bool (needs_dot path)) [ inl e ↦ subst (λ b. P ((if b then codes "./" else []) ++ written_spelling path)) (sym e) d | inr e ↦ subst (λ b. P ((if b then codes "./" else []) ++ written_spelling path)) (sym e) (p e) ]

read_plain : (text : List ℕ) → starts_with nat_eq text (codes "*") ≡ false → starts_with nat_eq text (codes "./") ≡ false → plain_path text ≡ text
read_plain text star dot = rw (star, dot) refl

star_one : (x : ℕ) (text : List ℕ) → (x == 42) ≡ false → starts_with nat_eq (written_part x ++ text) (codes "*") ≡ false
star_one x text h = part_not x 42 text (not_42 x h) (λ k. absurd (omega (arith, k)))

no_star : (path : List ℕ) → path ≢ [] → needs_dot path ≡ false → starts_with nat_eq (written_spelling path) (codes "*") ≡ false
no_star [] some h = absurd (some refl)
no_star (x ∷ path) some h = star_one x (written_spelling path) (or_parts (x == 42) (is_blank x) h).0

no_dot_path : (path : List ℕ) → path ≢ [] → IsNotDotted path → starts_with nat_eq (written_spelling path) (codes "./") ≡ false
no_dot_path [] some h = absurd (some refl)
no_dot_path (x ∷ path) some h = no_dot x path h

-- what is written for a path is read as its written spelling
read_same : (path : List ℕ) → path ≢ [] → IsNotDotted path → plain_path (written_path path) ≡ written_spelling path
read_same path some h = dotted_by path (λ text. plain_path text ≡ written_spelling path) refl (λ e. read_plain (written_spelling path) (no_star path some e) (no_dot_path path some h))

path_begins : (path : List ℕ) → path ≢ [] → begins_blank (written_path path) ≡ false
path_begins [] some = absurd (some refl)
path_begins (x ∷ path) some = elim (cases_Bool (needs_dot (x ∷ path))) [ inl e ↦ rw e refl | inr e ↦ rw e (part_begins x (written_spelling path) (or_parts _ _ e).1) ]

path_text_plain : (path : List ℕ) → AllByRecursion IsPlain (written_path path)
path_text_plain path = dotted_by path (AllByRecursion IsPlain) ((λ e. cc, λ e. cc), ((λ e. cc, λ e. cc), path_plain path)) (λ n. path_plain path)

path_text_utf8 : (path : List ℕ) → IsUtf8 path → IsUtf8 (written_path path)
path_text_utf8 path u = dotted_by path IsUtf8 (IsUtf8-append (codes "./") (written_spelling path) (IsUtf8-append (46 ∷ []) (47 ∷ []) (utf8_one 46 (omega arith)) (utf8_one 47 (omega arith))) (written_utf8 path u)) (λ n. written_utf8 path u)

hex_of_pair : (p : Pair) → CanBeWritten p → IsHex (lower_case_of p.digest)
hex_of_pair p h = hex_of (alg_of p.digest) (lower_case_of p.digest) p.digest h.1

text_plain : (p : Pair) → CanBeWritten p → AllByRecursion IsPlain (pair_text p)
text_plain p h =
    let hex = lower_case_of p.digest in
    all_both IsPlain (hex ++ codes "  ") (written_path p.path)
    (all_both IsPlain hex (codes "  ") (each (λ x. is_hex_digit x ≡ true) IsPlain digit_plain hex (hex_of_pair p h).digits) ((λ e. cc, λ e. cc), ((λ e. cc, λ e. cc), tt)))
    (path_text_plain p.path)

pub texts_plain : (pairs : List Pair) → AllByRecursion CanBeWritten pairs → AllByRecursion (AllByRecursion IsPlain) (map pair_text pairs)
texts_plain [] h = tt
texts_plain (p ∷ pairs) h = (text_plain p h.0, texts_plain pairs h.1)

not_blank : (p : Pair) → CanBeWritten p → is_blank_line (pair_text p) ≡ false
not_blank p h = ap is_blank_line (append_assoc (lower_case_of p.digest) (codes "  ") (written_path p.path)) ∙ hex_not_blank (lower_case_of p.digest) (codes "  " ++ written_path p.path) (hex_of_pair p h)

-- no pair before has the path
among : (bs rest : List Pair) (p : Pair) (q : List ℕ) → lists_path (bs ++ p ∷ rest) q ≡ false → bytes_eq p.path q ≡ false
among [] rest p q h = (or_parts _ _ h).0
among (b ∷ bs) rest p q h = among bs rest p q (or_parts _ _ h).1

not_before : (bs rest : List Pair) (p : Pair) → NoneTwice (bs ++ p ∷ rest) → lists_path bs p.path ≡ false
not_before [] rest p h = refl
not_before (b ∷ bs) rest p h = rw (unlike p.path b.path (among bs rest p b.path h.0)) (not_before bs rest p h.1)

abbrev listing : Alg → Kind → List Pair → Listing
listing alg kind pairs = record { alg = alg; kind = kind; pairs = pairs }

-- the parts of a line
adds : (alg : Alg) (kind : Kind) (before rest : List Pair) (p : Pair) (n : ℕ) → CanBeWritten p → FitEach alg kind (p ∷ rest) → NoneTwice (before ++ p ∷ rest) → AddsPair V1 (listing alg kind before) n (pair_text p) (listing alg kind (before ++ p ∷ []))
adds alg kind before rest p n h fit once =
    let hex = lower_case_of p.digest in
    let is_hex = hex_of_pair p h in
    record {
      path = p.path;
      digest = p.digest;
      gives = record {
        path_text = written_path p.path;
        checksum = record {
          checksum = hex;
          blanks = codes "  ";
          cut = record {
            whole = refl;
            word_ends = each (λ x. is_hex_digit x ≡ true) IsNotBlank digit_not_blank hex is_hex.digits;
            some_blank = λ k. cc;
            only_blanks = (refl, (refl, tt));
            rest_begins = path_begins p.path h.0.some_octet;
          };
          spells_digest = subst (λ a. SpellsDigest a hex p.digest) fit.0.0 h.1;
        };
        spells = subst (Spells V1 p.path) (sym (read_same p.path h.0.some_octet (not_dotted p.path h.0))) (written_spells p.path);
        is_path = h.0;
      };
      admitted = record { by_alg = fit.0.0; in_place = fit.0.1; not_listed = not_before before rest p once };
      added = refl;
    }

line_utf8 : (p : Pair) → CanBeWritten p → IsUtf8 (pair_text p)
line_utf8 p h =
    let hex = lower_case_of p.digest in
    IsUtf8-append (hex ++ codes "  ") (written_path p.path)
    (IsUtf8-append hex (codes "  ") (hex_utf8 hex (hex_of_pair p h)) (IsUtf8-append (32 ∷ []) (32 ∷ []) (utf8_one 32 (omega arith)) (utf8_one 32 (omega arith))))
    (path_text_utf8 p.path h.0.utf8)

lead_pairs : (alg : Alg) (kind : Kind) (pairs before : List Pair) (n : ℕ) → AllByRecursion CanBeWritten pairs → FitEach alg kind pairs → NoneTwice (before ++ pairs) → Lead (LeadsOn (AddsPair V1)) (listing alg kind before) (numbered_texts n (map pair_text pairs)) (listing alg kind (before ++ pairs))
lead_pairs alg kind [] before n h fit once = ap (listing alg kind) (append-nil before)
lead_pairs alg kind (p ∷ pairs) before n h fit once = (
  listing alg kind (before ++ p ∷ []),
  inr (not_blank p h.0, line_utf8 p h.0, adds alg kind before pairs p n h.0 fit once),
  subst (λ after. Lead (LeadsOn (AddsPair V1)) (listing alg kind (before ++ p ∷ [])) (numbered_texts (n + 1) (map pair_text pairs)) (listing alg kind after))
      (append_assoc before (p ∷ []) pairs)
      (lead_pairs alg kind pairs (before ++ p ∷ []) (n + 1) h.1 fit.1 (subst NoneTwice (sym (append_assoc before (p ∷ []) pairs)) once)),
)

pairs_unmarked : (pairs : List Pair) → AllByRecursion CanBeWritten pairs → starts_with nat_eq (written_lines (map pair_text pairs)) mark ≡ false
pairs_unmarked [] h = refl
pairs_unmarked (p ∷ pairs) h =
    let hex = lower_case_of p.digest in
    ap (λ octets. starts_with nat_eq octets mark)
    (lines_cons (pair_text p) (map pair_text pairs) ∙ append_assoc (pair_text p) (10 ∷ []) (written_lines (map pair_text pairs))
    ∙ append_assoc (hex ++ codes "  ") (written_path p.path) (10 ∷ written_lines (map pair_text pairs))
    ∙ append_assoc hex (codes "  ") (written_path p.path ++ 10 ∷ written_lines (map pair_text pairs)))
    ∙ hex_unmarked hex (codes "  " ++ (written_path p.path ++ 10 ∷ written_lines (map pair_text pairs))) (hex_of_pair p h.0)

pub manifest_reads : (octets : List ℕ) (alg : Alg) (kind : Kind) (pairs : List Pair) → octets ≡ written_manifest pairs → AllByRecursion CanBeWritten pairs → FitEach alg kind pairs → NoneTwice pairs → ManifestText V1 alg kind octets pairs
manifest_reads octets alg kind pairs e h fit once = subst (λ text. ManifestText V1 alg kind text pairs) (sym (e ∙ pairs_written pairs))
    (written_text (AddsPair V1) (nothing_listed alg kind) (listing alg kind pairs) (map pair_text pairs) (pairs_unmarked pairs h) (texts_plain pairs h) (lead_pairs alg kind pairs [] 1 h fit once))
