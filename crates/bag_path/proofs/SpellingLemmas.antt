-- What a text spells, step by step.
use Rattle.std.proofs.Common.{◌≡◌, ◌≢◌, ◌<◌, ◌||◌, ◌⊎◌, ℕ, zero, suc, Bool, true, false, List, [], ◌∷◌, ◌++◌, Option, Some, None, if◌then◌else◌, refl, sym, ap, ◌∙◌, inl, inr, length, get_or, take, drop, append_assoc, append-nil, arith, codes}
use Rattle.std.specs.List.{AllByRecursion}
use Rattle.std.specs.Str.{bytes_eq}
use Rattle.std.proofs.lemmas.Bool.{ne_eqb}
use Rattle.std.proofs.lemmas.List.Elements.{All-from_get_or, recursion_from_All}
use Rattle.std.proofs.lemmas.Slice.Eq.{bytes_eq-Decides}
use Rattle.bag_path.specs.declared.version.Version.{Version}
use Rattle.bag_path.specs.declared.version.Version.TheVariants.{V1, V097}
use Rattle.bag_path.specs.SpellingReading.{octet_of_escape, octet_of_line_escape, octet_of_percent, octets_with_first, octets_spelled, octets_spelled_after, taken_by}

-- a choice gives a value by its first branch or by its second
choice : (b : Bool) (x o : ℕ) (rest : Option ℕ) → (if b then Some x else rest) ≡ Some o → ((b ≡ true) × (o ≡ x)) ⊎ (rest ≡ Some o)
choice true x o rest e = inl (refl, cc)
choice false x o rest e = inr e

either : (a b : Bool) → (a || b) ≡ true → (a ≡ true) ⊎ (b ≡ true)
either true b e = inl refl
either false b e = inr e

same_text : (xs ys : List ℕ) → bytes_eq xs ys ≡ true → xs ≡ ys
same_text xs ys e = (bytes_eq-Decides xs ys).0 e

either_text : (code xs ys : List ℕ) → (bytes_eq code xs || bytes_eq code ys) ≡ true → (code ≡ xs) ⊎ (code ≡ ys)
either_text code xs ys e = elim (either (bytes_eq code xs) (bytes_eq code ys) e) [ inl a ↦ inl (same_text code xs a) | inr b ↦ inr (same_text code ys b) ]

-- the codes that stand for LF and CR
abbrev pub IsLineCode : List ℕ → ℕ → Type 0
IsLineCode code octet =
    ((octet ≡ 10) × ((code ≡ codes "0A") ⊎ (code ≡ codes "0a")))
    ⊎ ((octet ≡ 13) × ((code ≡ codes "0D") ⊎ (code ≡ codes "0d")))

pub line_code_if_escaped : (code : List ℕ) (octet : ℕ) → octet_of_line_escape code ≡ Some octet → IsLineCode code octet
line_code_if_escaped code octet e = elim (choice (bytes_eq code (codes "0A") || bytes_eq code (codes "0a")) 10 octet _ e) [
  | inl a ↦ inl (a.1, either_text code (codes "0A") (codes "0a") a.0)
  | inr e ↦ elim (choice (bytes_eq code (codes "0D") || bytes_eq code (codes "0d")) 13 octet None e) [
    | inl a ↦ inr (a.1, either_text code (codes "0D") (codes "0d") a.0)
    | inr e ↦ absurd (let h : None ≡ Some octet = e in cc)
  ]
]

-- the codes that stand for an octet
abbrev pub IsCode : Version → List ℕ → ℕ → Type 0
IsCode V1 code octet = ((octet ≡ 37) × (code ≡ codes "25")) ⊎ IsLineCode code octet
IsCode V097 code octet = IsLineCode code octet

pub code_if_escaped : (version : Version) (code : List ℕ) (octet : ℕ) → octet_of_escape version code ≡ Some octet → IsCode version code octet
code_if_escaped V1 code octet e = elim (choice (bytes_eq code (codes "25")) 37 octet _ e) [
  | inl a ↦ inl (a.1, same_text code (codes "25") a.0)
  | inr e ↦ inr (line_code_if_escaped code octet e)
]
code_if_escaped V097 code octet e = line_code_if_escaped code octet e

-- a code has two octets, and what they are and stand for is ASCII
abbrev pub IsShort : List ℕ → ℕ → Type 0
IsShort code octet = (length code ≡ 2) × (get_or code 1 0 < 128) × (octet < 128)

short : (code known : List ℕ) (octet known_octet : ℕ) → code ≡ known → octet ≡ known_octet → IsShort known known_octet → IsShort code octet
short code known octet known_octet e f h = rw (e, f) h

line_code_short : (code : List ℕ) (octet : ℕ) → IsLineCode code octet → IsShort code octet
line_code_short code octet (inl h) = elim h.1 [
  | inl k ↦ short code (codes "0A") octet 10 k h.0 (refl, omega arith, omega arith)
  | inr k ↦ short code (codes "0a") octet 10 k h.0 (refl, omega arith, omega arith)
]
line_code_short code octet (inr h) = elim h.1 [
  | inl k ↦ short code (codes "0D") octet 13 k h.0 (refl, omega arith, omega arith)
  | inr k ↦ short code (codes "0d") octet 13 k h.0 (refl, omega arith, omega arith)
]

code_short : (version : Version) (code : List ℕ) (octet : ℕ) → IsCode version code octet → IsShort code octet
code_short V1 code octet (inl h) = short code (codes "25") octet 37 h.1 h.0 (refl, omega arith, omega arith)
code_short V1 code octet (inr h) = line_code_short code octet h
code_short V097 code octet h = line_code_short code octet h

in_text : (text : List ℕ) (octet : ℕ) → IsShort (take 2 text) octet → (1 < length text) × (get_or text 1 0 < 128) × (octet < 128)
in_text [] octet h = absurd (omega (arith, h.0))
in_text (x ∷ []) octet h = absurd (omega (arith, h.0))
in_text (x ∷ y ∷ text) octet h = (omega arith, h.1, h.2)

-- an escape takes two octets of its text, and what it stands for is ASCII
pub escape_in_text : (version : Version) (text : List ℕ) (octet : ℕ) → octet_of_escape version (take 2 text) ≡ Some octet → (1 < length text) × (get_or text 1 0 < 128) × (octet < 128)
escape_in_text version text octet e = in_text text octet (code_short version (take 2 text) octet (code_if_escaped version (take 2 text) octet e))

-- octets put in front of those that are read
abbrev pub onto : List ℕ → Option (List ℕ) → Option (List ℕ)
onto octets (Some more) = Some (octets ++ more)
onto octets None = None

onto-nil : (read : Option (List ℕ)) → onto [] read ≡ read
onto-nil (Some more) = refl
onto-nil None = refl

pub onto-onto : (xs ys : List ℕ) (read : Option (List ℕ)) → onto xs (onto ys read) ≡ onto (xs ++ ys) read
onto-onto xs ys (Some more) = ap Some (sym (append_assoc xs ys more))
onto-onto xs ys None = refl

octets_with_first-onto : (x : ℕ) (xs : List ℕ) (read : Option (List ℕ)) → octets_with_first (Some x) (onto xs read) ≡ onto (x ∷ xs) read
octets_with_first-onto x xs (Some more) = refl
octets_with_first-onto x xs None = refl

octets_with_first-one : (x : ℕ) (read : Option (List ℕ)) → octets_with_first (Some x) read ≡ onto (x ∷ []) read
octets_with_first-one x (Some more) = refl
octets_with_first-one x None = refl

pub plain_octet : (version : Version) (octet : ℕ) (text : List ℕ) → octet ≢ 37 → octets_spelled version (octet ∷ text) ≡ octets_with_first (Some octet) (octets_spelled version text)
unfolding octets_spelled_after
plain_octet version octet text plain = rw (ne_eqb octet 37 plain) refl

plain_octets : (version : Version) (octets text : List ℕ) → AllByRecursion (λ octet. octet ≢ 37) octets → octets_spelled version (octets ++ text) ≡ onto octets (octets_spelled version text)
plain_octets version [] text h = sym (onto-nil (octets_spelled version text))
plain_octets version (x ∷ octets) text h =
    plain_octet version x (octets ++ text) h.0
    ∙ ap (octets_with_first (Some x)) (plain_octets version octets text h.1)
    ∙ octets_with_first-onto x octets (octets_spelled version text)

-- octets without `%`, as `split_once` leaves them
pub plain_step : (version : Version) (octets text : List ℕ) → ((i : ℕ) → i < length octets → get_or octets i 0 ≢ 37) → octets_spelled version (octets ++ text) ≡ onto octets (octets_spelled version text)
plain_step version octets text h =
    plain_octets version octets text (recursion_from_All (λ octet. octet ≢ 37) octets (All-from_get_or (λ octet. octet ≢ 37) octets 0 h))

pub all_plain : (version : Version) (octets : List ℕ) → ((i : ℕ) → i < length octets → get_or octets i 0 ≢ 37) → octets_spelled version octets ≡ Some octets
unfolding octets_spelled_after
all_plain version octets h =
    ap (octets_spelled version) (sym (append-nil octets)) ∙ plain_step version octets [] h ∙ ap Some (append-nil octets)

-- octets that belong to an escape are skipped
after_taken : (version : Version) (text : List ℕ) (taken : ℕ) → octets_spelled_after taken version text ≡ octets_spelled version (drop taken text)
unfolding octets_spelled_after
after_taken version [] zero = refl
after_taken version [] (suc taken) = refl
after_taken version (x ∷ text) zero = refl
after_taken version (x ∷ text) (suc taken) = after_taken version text taken

-- what `%` is read as
abbrev pub percent_of : Version → List ℕ → Option ℕ
percent_of version text = octet_of_percent version (octet_of_escape version (take 2 text))

-- what follows the escape that `%` begins before a text, if it begins one
abbrev pub after_percent : Version → List ℕ → List ℕ
after_percent version text = drop (taken_by (octet_of_escape version (take 2 text))) text

pub percent_after : (version : Version) (text : List ℕ) → octets_spelled version (37 ∷ text) ≡ octets_with_first (percent_of version text) (octets_spelled_after (taken_by (octet_of_escape version (take 2 text))) version text)
unfolding octets_spelled_after
percent_after version text = refl

pub percent_read : (version : Version) (text : List ℕ) → octets_spelled version (37 ∷ text) ≡ octets_with_first (percent_of version text) (octets_spelled version (after_percent version text))
percent_read version text = percent_after version text ∙ ap (octets_with_first (percent_of version text)) (after_taken version text (taken_by (octet_of_escape version (take 2 text))))

percent_step : (version : Version) (text : List ℕ) (octet : ℕ) → percent_of version text ≡ Some octet → octets_spelled version (37 ∷ text) ≡ onto (octet ∷ []) (octets_spelled version (after_percent version text))
percent_step version text octet e =
    percent_read version text
    ∙ ap (λ first. octets_with_first first (octets_spelled version (after_percent version text))) e
    ∙ octets_with_first-one octet (octets_spelled version (after_percent version text))

no_percent_step : (version : Version) (text : List ℕ) → percent_of version text ≡ None → octets_spelled version (37 ∷ text) ≡ None
no_percent_step version text e = percent_read version text ∙ ap (λ first. octets_with_first first (octets_spelled version (after_percent version text))) e

-- one turn of reading: octets without `%`, `%` and its escape
pub one_more : (version : Version) (text octets rest before after left : List ℕ) (octet : ℕ) → octets_spelled version text ≡ onto octets (octets_spelled version rest) → rest ≡ before ++ 37 ∷ after → ((i : ℕ) → i < length before → get_or before i 0 ≢ 37) → percent_of version after ≡ Some octet → left ≡ after_percent version after → octets_spelled version text ≡ onto ((octets ++ before) ++ octet ∷ []) (octets_spelled version left)
one_more version text octets rest before after left octet so_far cut plain percent back =
    so_far
    ∙ ap (onto octets) (ap (octets_spelled version) cut ∙ plain_step version before (37 ∷ after) plain ∙ ap (onto before) (percent_step version after octet percent))
    ∙ onto-onto octets before _ ∙ onto-onto (octets ++ before) (octet ∷ []) _
    ∙ ap (λ left. onto ((octets ++ before) ++ octet ∷ []) (octets_spelled version left)) (sym back)

pub none_more : (version : Version) (text octets rest before after : List ℕ) → octets_spelled version text ≡ onto octets (octets_spelled version rest) → rest ≡ before ++ 37 ∷ after → ((i : ℕ) → i < length before → get_or before i 0 ≢ 37) → percent_of version after ≡ None → octets_spelled version text ≡ None
none_more version text octets rest before after so_far cut plain none =
    so_far
    ∙ ap (onto octets) (ap (octets_spelled version) cut ∙ plain_step version before (37 ∷ after) plain ∙ ap (onto before) (no_percent_step version after none))

pub last_plain : (version : Version) (text octets rest : List ℕ) → octets_spelled version text ≡ onto octets (octets_spelled version rest) → ((i : ℕ) → i < length rest → get_or rest i 0 ≢ 37) → octets_spelled version text ≡ Some (octets ++ rest)
last_plain version text octets rest so_far plain = so_far ∙ ap (onto octets) (all_plain version rest plain)
