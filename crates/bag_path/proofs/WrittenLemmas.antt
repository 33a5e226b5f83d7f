-- The written spelling, character by character.
use Rattle.std.proofs.Common.{◌≡◌, ◌≢◌, ◌<◌, ℕ, List, [], ◌∷◌, ◌++◌, refl, sym, subst, ap, ◌∙◌, inl, inr, length, get_or, append-nil, arith, encode_utf8, encode_utf8_all}
use Rattle.std.specs.List.{All, AllByRecursion}
use Rattle.std.proofs.lemmas.Bool.{ne_eqb}
use Rattle.std.proofs.lemmas.List.Concat.{flat_map-append}
use Rattle.std.proofs.lemmas.List.Elements.{All-nil, All-append, All-from_get_or, All-from_recursion, recursion_from_All}
use Rattle.std.proofs.lemmas.Str.{encodes-append, inside_one}
use Rattle.std.proofs.lemmas.Bool.Decides.{eqb_tells}
use Rattle.bag_path.specs.Lines.{IsPlain}
use Rattle.bag_path.specs.Spellings.{written_spelling, written_part}

-- the octet is written as itself
abbrev pub IsWritten : ℕ → Type 0
IsWritten octet = (octet ≢ 37) × (octet ≢ 10) × (octet ≢ 13)

written_itself : (octets : List ℕ) → AllByRecursion IsWritten octets → written_spelling octets ≡ octets
written_itself [] h = refl
written_itself (x ∷ octets) h = rw (ne_eqb x 37 h.0.0, ne_eqb x 10 h.0.1, ne_eqb x 13 h.0.2) (ap (λ octets. x ∷ octets) (written_itself octets h.1))

-- if a character is written as itself, so is each of its octets
octet_of : (c : ℕ) → IsWritten c → (k : ℕ) → k < length (encode_utf8 c) → IsWritten (get_or (encode_utf8 c) k 0)
octet_of c h k within =
    let same = inside_one c [] (encode_utf8 c) k (sym (append-nil (encode_utf8 c))) within in
    (λ e. h.0 (same (omega (arith, e)) ∙ e), λ e. h.1 (same (omega (arith, e)) ∙ e), λ e. h.2 (same (omega (arith, e)) ∙ e))

pub written_char : (c : ℕ) → c ≢ 37 → c ≢ 10 → c ≢ 13 → written_spelling (encode_utf8 c) ≡ encode_utf8 c
written_char c a b d =
    let each : (k : ℕ) → k < length (encode_utf8 c) → IsWritten (get_or (encode_utf8 c) k 0) = octet_of c (a, b, d) in
    written_itself (encode_utf8 c) (recursion_from_All IsWritten (encode_utf8 c) (All-from_get_or IsWritten (encode_utf8 c) 0 each))

-- one more character
pub written_more : (c : ℕ) (chars octets more : List ℕ) → octets ≡ written_spelling (encode_utf8_all chars) → more ≡ octets ++ written_spelling (encode_utf8 c) → more ≡ written_spelling (encode_utf8_all (chars ++ c ∷ []))
written_more c chars octets more e f =
    f ∙ ap (λ octets. octets ++ written_spelling (encode_utf8 c)) e
    ∙ sym (flat_map-append written_part (encode_utf8_all chars) (encode_utf8 c))
    ∙ ap written_spelling (ap (λ last. encode_utf8_all chars ++ last) (sym (append-nil (encode_utf8 c))) ∙ sym (encodes-append chars (c ∷ [])))

-- an octet is one of those that are escaped, or is written as itself
pub by_part : (P : ℕ → Type 0) → P 37 → P 10 → P 13 → ((x : ℕ) → IsWritten x → written_part x ≡ x ∷ [] → P x) → (x : ℕ) → P x
by_part P percent lf cr itself x = elim (eqb_tells x 37) [ inl a ↦ subst P (sym a.1) percent | inr a ↦ elim (eqb_tells x 10) [ inl b ↦ subst P (sym b.1) lf | inr b ↦ elim (eqb_tells x 13) [ inl c ↦ subst P (sym c.1) cr | inr c ↦ itself x (a.1, b.1, c.1) (rw (a.0, b.0, c.0) refl) ] ] ]

part_plain : (octet : ℕ) → AllByRecursion IsPlain (written_part octet)
part_plain octet = by_part (λ octet. AllByRecursion IsPlain (written_part octet))
    ((λ e. cc, λ e. cc), ((λ e. cc, λ e. cc), ((λ e. cc, λ e. cc), tt)))
    ((λ e. cc, λ e. cc), ((λ e. cc, λ e. cc), ((λ e. cc, λ e. cc), tt)))
    ((λ e. cc, λ e. cc), ((λ e. cc, λ e. cc), ((λ e. cc, λ e. cc), tt)))
    (λ octet h e. rw e ((h.1, h.2), tt)) octet

-- a written spelling contains no line end
pub written_plain : (path : List ℕ) → All IsPlain (written_spelling path)
written_plain [] = All-nil IsPlain
written_plain (octet ∷ path) = All-append IsPlain (written_part octet) (written_spelling path) (All-from_recursion IsPlain (written_part octet) (part_plain octet)) (written_plain path)
