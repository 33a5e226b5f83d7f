-- Reading gives what is spelled, and what is spelled is read.
use Rattle.std.proofs.Common.{◌≡◌, ◌≢◌, ◌↔◌, ℕ, zero, suc, List, [], ◌∷◌, ◌++◌, Option, Some, None, refl, sym, subst, ap, ◌∙◌, inl, inr, get_or, take, drop}
use Rattle.std.proofs.lemmas.Bool.Decides.{eqb_tells}
use Rattle.bag_path.specs.declared.version.Version.{Version}
use Rattle.bag_path.specs.declared.version.Version.TheVariants.{V1, V097}
use Rattle.bag_path.specs.SpellingReading.{octet_of_escape, octet_of_percent, octets_with_first, octets_spelled, octets_spelled_after, taken_by}
use Rattle.bag_path.specs.Spellings.{IsLineEscape, BeginsLineEscape, StandsFor, Spells, SpellsNothing, written_spelling, written_part}
use Rattle.bag_path.proofs.SpellingLemmas.{IsLineCode, IsCode, line_code_if_escaped, code_if_escaped, plain_octet, percent_of, percent_after, percent_read}
use Rattle.bag_path.proofs.WrittenLemmas.{by_part}

-- what is put first, and the rest
octets_with_first-Some : (first : Option ℕ) (read : Option (List ℕ)) (path : List ℕ) → octets_with_first first read ≡ Some path → (octet : ℕ) × (rest : List ℕ) × (first ≡ Some octet) × (read ≡ Some rest) × (path ≡ octet ∷ rest)
octets_with_first-Some (Some octet) (Some rest) path e = (octet, rest, refl, refl, cc)
octets_with_first-Some (Some octet) None path e = absurd (let h : None ≡ Some path = e in cc)
octets_with_first-Some None (Some rest) path e = absurd (let h : None ≡ Some path = e in cc)
octets_with_first-Some None None path e = absurd (let h : None ≡ Some path = e in cc)

-- `%` and a code of LF or CR are an escape
line_code_stands : (code : List ℕ) (octet : ℕ) → IsLineCode code octet → IsLineEscape (37 ∷ code) octet
line_code_stands code octet (inl h) = inl (h.0, elim h.1 [ inl k ↦ inl (ap (λ code. 37 ∷ code) k) | inr k ↦ inr (ap (λ code. 37 ∷ code) k) ])
line_code_stands code octet (inr h) = inr (h.0, elim h.1 [ inl k ↦ inl (ap (λ code. 37 ∷ code) k) | inr k ↦ inr (ap (λ code. 37 ∷ code) k) ])

-- `%` and a code stand for the octet of the code
code_stands : (version : Version) (code : List ℕ) (octet : ℕ) (rest : List ℕ) → IsCode version code octet → StandsFor version (37 ∷ code) octet rest
code_stands V1 code octet rest (inl h) = inr (inl (h.0, ap (λ code. 37 ∷ code) h.1))
code_stands V1 code octet rest (inr h) = inr (inr (line_code_stands code octet h))
code_stands V097 code octet rest h = inr (line_code_stands code octet h)

-- an escape of LF or CR is `%` and a code, in either version
line_part : (version : Version) (part : List ℕ) (octet : ℕ) → IsLineEscape part octet → (a b : ℕ) × (part ≡ 37 ∷ a ∷ b ∷ []) × (octet_of_escape version (a ∷ b ∷ []) ≡ Some octet)
line_part V1 part octet (inl h) = elim h.1 [ inl k ↦ (48, 65, k, ap Some (sym h.0)) | inr k ↦ (48, 97, k, ap Some (sym h.0)) ]
line_part V1 part octet (inr h) = elim h.1 [ inl k ↦ (48, 68, k, ap Some (sym h.0)) | inr k ↦ (48, 100, k, ap Some (sym h.0)) ]
line_part V097 part octet (inl h) = elim h.1 [ inl k ↦ (48, 65, k, ap Some (sym h.0)) | inr k ↦ (48, 97, k, ap Some (sym h.0)) ]
line_part V097 part octet (inr h) = elim h.1 [ inl k ↦ (48, 68, k, ap Some (sym h.0)) | inr k ↦ (48, 100, k, ap Some (sym h.0)) ]

take-two : (text : List ℕ) → text ≡ take 2 text ++ drop 2 text
take-two [] = refl
take-two (x ∷ []) = refl
take-two (x ∷ y ∷ text) = refl

-- if a text begins with an escape of LF or CR, `%` and its code are read as one
escape_begun : (x : ℕ) (text : List ℕ) → BeginsLineEscape (x ∷ text) → (octet : ℕ) × (x ≡ 37) × (octet_of_escape V097 (take 2 text) ≡ Some octet)
escape_begun x text h =
    let p = line_part V097 h.0 h.2 h.4 in
    let cut : x ∷ text ≡ 37 ∷ p.0 ∷ p.1 ∷ h.1 = h.3 ∙ ap (λ part. part ++ h.1) p.2 in
    (h.2, ap (λ text. get_or text 0 0) cut, ap (λ text. octet_of_escape V097 (take 2 (drop 1 text))) cut ∙ p.3)

pub begun : (text : List ℕ) (octet : ℕ) → octet_of_escape V097 (take 2 text) ≡ Some octet → BeginsLineEscape (37 ∷ text)
begun text octet e = (37 ∷ take 2 text, drop 2 text, octet, ap (λ text. 37 ∷ text) (take-two text), line_code_stands (take 2 text) octet (line_code_if_escaped (take 2 text) octet e))

plain_stands : (version : Version) (octet : ℕ) (rest : List ℕ) → octet ≢ 37 → StandsFor version (octet ∷ []) octet rest
plain_stands V1 octet rest plain = inl (plain, refl)
plain_stands V097 octet rest plain = inl (refl, λ h. plain (escape_begun octet rest h).1)

-- `%` and its escape, or `%` alone, stand for the octet
percent_stands : (version : Version) (text : List ℕ) (octet : ℕ) (escape : Option ℕ) → octet_of_escape version (take 2 text) ≡ escape → octet_of_percent version escape ≡ Some octet → (part : List ℕ) × (37 ∷ text ≡ part ++ drop (taken_by escape) text) × StandsFor version part octet (drop (taken_by escape) text)
percent_stands version text octet (Some escaped) e h =
    let same : Some escaped ≡ Some octet = h in
    (37 ∷ take 2 text, ap (λ text. 37 ∷ text) (take-two text), code_stands version (take 2 text) octet (drop 2 text) (code_if_escaped version (take 2 text) octet (e ∙ same)))
percent_stands V1 text octet None e h = absurd (let h : None ≡ Some octet = h in cc)
percent_stands V097 text octet None e h =
    let same : 37 ≡ octet = let h : Some 37 ≡ Some octet = h in cc in
    (37 ∷ [], refl, inl (ap (λ octet. octet ∷ []) same, λ k. let b = (escape_begun octet text k).2 in cc))

one_part : (version : Version) (octet : ℕ) (path part rest text : List ℕ) → text ≡ part ++ rest → StandsFor version part octet rest → Spells version path rest → Spells version (octet ∷ path) text
one_part version octet path part rest text cut stands more = (part, rest, cut, stands, more)

spells_same : (version : Version) (path : List ℕ) (octets text : List ℕ) → path ≡ octets → Spells version octets text → Spells version path text
spells_same version path octets text e h = subst (λ path. Spells version path text) (sym e) h

plain_read : (version : Version) (x : ℕ) (text path : List ℕ) → x ≢ 37 → octets_spelled version (x ∷ text) ≡ Some path → octets_with_first (Some x) (octets_spelled version text) ≡ Some path
plain_read version x text path h e = sym (plain_octet version x text h) ∙ e

nothing_left : (version : Version) (taken : ℕ) (path : List ℕ) → Some [] ≡ Some path → Spells version path (drop taken [])
nothing_left version zero path e = spells_same version path [] [] (cc) refl
nothing_left version (suc taken) path e = spells_same version path [] [] (cc) refl

spells_after : (version : Version) (text : List ℕ) (taken : ℕ) (path : List ℕ) → octets_spelled_after taken version text ≡ Some path → Spells version path (drop taken text)
unfolding octets_spelled_after
spells_after version [] taken path e = nothing_left version taken path e
spells_after version (x ∷ text) (suc taken) path e = spells_after version text taken path e
spells_after version (x ∷ text) zero path e = elim (eqb_tells x 37) [
  | inl h ↦
      let escape = octet_of_escape version (take 2 text) in
      let read = sym (percent_after version text) ∙ ap (λ x. octets_spelled version (x ∷ text)) (sym h.1) ∙ e in
      let p = octets_with_first-Some (percent_of version text) (octets_spelled_after (taken_by escape) version text) path read in
      let s = percent_stands version text p.0 escape refl p.2 in
      spells_same version path (p.0 ∷ p.1) (x ∷ text) p.4 (one_part version p.0 p.1 s.0 (drop (taken_by escape) text) (x ∷ text) (ap (λ x. x ∷ text) h.1 ∙ s.1) s.2 (spells_after version text (taken_by escape) p.1 p.3))
  | inr h ↦
      let p = octets_with_first-Some (Some x) (octets_spelled version text) path (plain_read version x text path h.1 e) in
      let same : p.0 ≡ x = let e = p.2 in cc in
      spells_same version path (x ∷ p.1) (x ∷ text) (p.4 ∙ ap (λ octet. octet ∷ p.1) same) (one_part version x p.1 (x ∷ []) text (x ∷ text) refl (plain_stands version x text h.1) (spells_after version text 0 p.1 p.3))
]

pub spells_if_read : (version : Version) (path text : List ℕ) → octets_spelled version text ≡ Some path → Spells version path text
spells_if_read version path text e = spells_after version text 0 path e

-- an escape of LF or CR is read as its octet
escape_read : (version : Version) (a b : ℕ) (rest : List ℕ) (octet : ℕ) → octet_of_escape version (a ∷ b ∷ []) ≡ Some octet → octets_spelled version (37 ∷ a ∷ b ∷ rest) ≡ octets_with_first (Some octet) (octets_spelled version rest)
escape_read version a b rest octet e =
    percent_read version (a ∷ b ∷ rest)
    ∙ ap (λ escape. octets_with_first (octet_of_percent version escape) (octets_spelled version (drop (taken_by escape) (a ∷ b ∷ rest)))) e

line_part_read : (version : Version) (part : List ℕ) (octet : ℕ) (rest : List ℕ) → IsLineEscape part octet → octets_spelled version (part ++ rest) ≡ octets_with_first (Some octet) (octets_spelled version rest)
line_part_read version part octet rest h =
    let p = line_part version part octet h in
    ap (λ part. octets_spelled version (part ++ rest)) p.2 ∙ escape_read version p.0 p.1 rest octet p.3

-- in version 0.97 an octet that begins no escape is read as itself
lone_percent_read : (text : List ℕ) (escape : Option ℕ) → octet_of_escape V097 (take 2 text) ≡ escape → ¬ BeginsLineEscape (37 ∷ text) → octets_spelled V097 (37 ∷ text) ≡ octets_with_first (Some 37) (octets_spelled V097 text)
lone_percent_read text (Some octet) e alone = absurd (alone (begun text octet e))
lone_percent_read text None e alone =
    percent_read V097 text ∙ ap (λ escape. octets_with_first (octet_of_percent V097 escape) (octets_spelled V097 (drop (taken_by escape) text))) e

lone_read : (octet : ℕ) (text : List ℕ) → ¬ BeginsLineEscape (octet ∷ text) → octets_spelled V097 (octet ∷ text) ≡ octets_with_first (Some octet) (octets_spelled V097 text)
lone_read octet text alone = elim (eqb_tells octet 37) [
  | inl h ↦ subst (λ octet. octets_spelled V097 (octet ∷ text) ≡ octets_with_first (Some octet) (octets_spelled V097 text)) (sym h.1) (lone_percent_read text (octet_of_escape V097 (take 2 text)) refl (subst (λ octet. ¬ BeginsLineEscape (octet ∷ text)) h.1 alone))
  | inr h ↦ plain_octet V097 octet text h.1
]

-- a part is read as its octet
part_read : (version : Version) (part : List ℕ) (octet : ℕ) (rest : List ℕ) → StandsFor version part octet rest → octets_spelled version (part ++ rest) ≡ octets_with_first (Some octet) (octets_spelled version rest)
unfolding octets_spelled_after
part_read V1 part octet rest h = elim h [
  | inl h ↦ ap (λ part. octets_spelled V1 (part ++ rest)) h.1 ∙ plain_octet V1 octet rest h.0
  | inr h ↦ elim h [
    | inl h ↦ rw (h.0, h.1) refl
    | inr h ↦ line_part_read V1 part octet rest h
  ]
]
part_read V097 part octet rest h = elim h [
  | inl h ↦ ap (λ part. octets_spelled V097 (part ++ rest)) h.0 ∙ lone_read octet rest h.1
  | inr h ↦ line_part_read V097 part octet rest h
]

pub read_if_spells : (version : Version) (path text : List ℕ) → Spells version path text → octets_spelled version text ≡ Some path
unfolding octets_spelled_after
read_if_spells version [] text h = ap (octets_spelled version) h
read_if_spells version (octet ∷ path) text h =
    ap (octets_spelled version) h.2 ∙ part_read version h.0 octet h.1 h.3 ∙ ap (octets_with_first (Some octet)) (read_if_spells version path h.1 h.4)

pub spells_exactly : (version : Version) (path text : List ℕ) → Spells version path text ↔ (octets_spelled version text ≡ Some path)
spells_exactly version path text = (read_if_spells version path text, spells_if_read version path text)

-- a text spells at most one list of octets
pub one_path : (version : Version) (path other text : List ℕ) → Spells version path text → Spells version other text → path ≡ other
one_path version path other text h k =
    let a = read_if_spells version path text h in
    let b = read_if_spells version other text k in
    cc

pub nothing_if_none : (version : Version) (text : List ℕ) → octets_spelled version text ≡ None → SpellsNothing version text
nothing_if_none version text e = λ path h. let a = read_if_spells version path text h in cc

none : (version : Version) (text : List ℕ) → SpellsNothing version text → (read : Option (List ℕ)) → octets_spelled version text ≡ read → read ≡ None
none version text h None e = refl
none version text h (Some path) e = absurd (h path (spells_if_read version path text e))

pub none_if_nothing : (version : Version) (text : List ℕ) → SpellsNothing version text → octets_spelled version text ≡ None
none_if_nothing version text h = none version text h (octets_spelled version text) refl

-- what is written for an octet stands for it
written_stands : (octet : ℕ) (rest : List ℕ) → StandsFor V1 (written_part octet) octet rest
written_stands octet rest = by_part (λ octet. StandsFor V1 (written_part octet) octet rest)
    (inr (inl (refl, refl))) (inr (inr (inl (refl, inl refl)))) (inr (inr (inr (refl, inl refl))))
    (λ octet h e. inl (h.0, e)) octet

pub written_spells : (path : List ℕ) → Spells V1 path (written_spelling path)
written_spells [] = refl
written_spells (octet ∷ path) = one_part V1 octet path (written_part octet) (written_spelling path) (written_spelling (octet ∷ path)) refl (written_stands octet (written_spelling path)) (written_spells path)

-- what is written is read back
pub written_again : (path : List ℕ) → octets_spelled V1 (written_spelling path) ≡ Some path
written_again path = read_if_spells V1 path (written_spelling path) (written_spells path)
