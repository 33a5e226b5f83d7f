-- How many octets tag files have at least, whatever the payload files contain.
use Rattle.std.proofs.Common.{◌≡◌, ◌∙◌, ◌+◌, ◌*◌, ◌/◌, ◌%◌, ◌<◌, ◌≤◌, ◌++◌, ℕ, zero, suc, true, false, List, [], ◌∷◌, get_or, Some, None, Option, codes, length, slice_get, take, drop, nat_eq, inl, inr, refl, sym, ap, subst, arith, length-append, string_bytes, take-append-drop}
use Rattle.std.proofs.lemmas.Bool.{and_parts, eqb-true}
use Rattle.std.proofs.lemmas.List.{take_more}
use Rattle.std.proofs.lemmas.List.Concat.{flat_map-append}
use Rattle.std.proofs.lemmas.List.Elements.{filter-append}
use Rattle.std.proofs.lemmas.List.Sums.{sum_by-append, sum_by-cons, sum_by_more, sum_by_push}
use Rattle.std.specs.Fmt.{decimal, digit_glyph, digits, digits_onto}
use Rattle.std.specs.List.{filter, sum_by}
use Rattle.std.specs.Map.{lookup}
use Rattle.std.specs.Option.{option_map}
use Rattle.std.specs.Str.{bytes_eq}
use Rattle.bag_digest.specs.Algorithm.{size_of}
use Rattle.bag_path.specs.Octets.{cr, lf, percent}
use Rattle.bag_path.specs.Spellings.{written_part, written_spelling}
use Rattle.bag_rules.proofs.Words.{Alg, Files, cases_Bool, get_or_from_slice_get, is_payload, keys_of, slice_get_within}
use Rattle.bag_tags.specs.FetchEntries.{written_entry, written_length}
use Rattle.bag_tags.specs.Infos.{MetadataElement, element, written_element, written_info, written_octet, written_value}
use Rattle.bag_tags.specs.ManifestWriting.{written_manifest, written_path}
use Rattle.bag_tags.specs.Oxums.{written_oxum}
use Rattle.bag_writer.proofs.ExampleLengths.{line_lengths, manifest_length}
use Rattle.bag_writer.proofs.KeptPaths.{kept_step}
use Rattle.bag_writer.proofs.TagCases.{fetch_octets}
use Rattle.bag_writer.specs.WrittenBags.{entry_of, pairs_by}
use Rattle.bag_writer.specs.Writing.{empty_files}
use Rattle.bag_writer.specs.declared.spec.Hole.{Hole}

-- SPELLINGS OF PATHS

pub part_small : (octet : ℕ) → length (written_part octet) ≤ 3
part_small octet = elim (cases_Bool (nat_eq octet percent)) [
  | inl is ↦ rw is (omega arith)
  | inr no_percent ↦ elim (cases_Bool (nat_eq octet lf)) [
    | inl is ↦ rw (no_percent, is) (omega arith)
    | inr no_lf ↦ elim (cases_Bool (nat_eq octet cr)) [ inl is ↦ rw (no_percent, no_lf, is) (omega arith) | inr no_cr ↦ rw (no_percent, no_lf, no_cr) (omega arith) ]
  ]
]

pub spelled_more : (octets : List ℕ) (i : ℕ) → i < length octets → length (written_spelling (take (i + 1) octets)) ≡ length (written_spelling (take i octets)) + length (written_part (get_or octets i 0))
spelled_more octets i within =
    let next = get_or octets i 0 in
    let more = ap (λ (text : List ℕ). length (written_spelling text)) (take_more octets i 0 within) in
    let parts = ap (λ (text : List ℕ). length text) (flat_map-append written_part (take i octets) (next ∷ [])) in
    let both = length-append (written_spelling (take i octets)) (written_part next ++ []) in
    let last = length-append (written_part next) [] in
    omega (arith, more, parts, both, last)

-- LINES OF MANIFESTS

abbrev pub line : Alg → List ℕ → ℕ
line alg path = 2 * size_of alg + length (written_path path) + 3

abbrev pub lines : Alg → List (List ℕ) → ℕ
lines alg paths = sum_by (line alg) paths

by_paths : (alg : Alg) (files : Files) → line_lengths alg files ≡ lines alg (keys_of files)
by_paths alg [] = refl
by_paths alg (file ∷ files) = ap (λ n. line alg file.0 + n) (by_paths alg files) ∙ sym (sum_by-cons (line alg) file.0 (keys_of files))

-- the length of a manifest depends on the algorithm and the paths alone
pub measured : (alg : Alg) (files : Files) → length (written_manifest (pairs_by alg files)) ≡ lines alg (keys_of files)
measured alg files = manifest_length alg files ∙ by_paths alg files

pub empty_keys : (paths : List (List ℕ)) → keys_of (empty_files paths) ≡ paths
empty_keys [] = refl
empty_keys (path ∷ paths) = ap (λ rest. path ∷ rest) (empty_keys paths)

pub empty_measured : (alg : Alg) (paths : List (List ℕ)) → length (written_manifest (pairs_by alg (empty_files paths))) ≡ lines alg paths
empty_measured alg paths = measured alg (empty_files paths) ∙ ap (lines alg) (empty_keys paths)

-- a payload path begins with a letter
plain : (path : List ℕ) → is_payload path ≡ true → written_path path ≡ written_spelling path
plain [] is = refl
plain (octet ∷ path) is = let first : 100 ≡ octet = eqb-true _ _ (and_parts _ _ is).0 in
    subst (λ x. written_path (x ∷ path) ≡ written_spelling (x ∷ path)) first refl

payload_line : (alg : Alg) (path : List ℕ) → is_payload path ≡ true → line alg path ≡ 2 * size_of alg + length (written_spelling path) + 3
payload_line alg path is = ap (λ (text : List ℕ). 2 * size_of alg + length text + 3) (plain path is)

-- one more payload path
pub lines_more : (alg : Alg) (paths : List (List ℕ)) (i : ℕ) (path : List ℕ) → slice_get paths i ≡ Some path → is_payload path ≡ true
    → lines alg (filter is_payload (take (i + 1) paths)) ≡ lines alg (filter is_payload (take i paths)) + (2 * size_of alg + length (written_spelling path) + 3)
lines_more alg paths i path here is =
    let step = ap (lines alg) (kept_step is_payload paths i path here is) in
    let push = sum_by_push (line alg) (filter is_payload (take i paths)) path in
    let last = payload_line alg path is in
    omega (arith, step, push, last)

-- the lines of the first payload paths are some of all
pub first_lines : (alg : Alg) (paths : List (List ℕ)) (i : ℕ) → lines alg (filter is_payload (take i paths)) ≤ lines alg (filter is_payload paths)
first_lines alg paths i =
    let all = ap (λ ps. lines alg (filter is_payload ps)) (take-append-drop i paths) in
    let parts = ap (lines alg) (filter-append is_payload (take i paths) (drop i paths)) in
    let sums = sum_by-append (line alg) (filter is_payload (take i paths)) (filter is_payload (drop i paths)) in
    omega (arith, all, parts, sums)

pub longer_lines : (one other : Alg) (paths : List (List ℕ)) → size_of one ≤ size_of other → lines one paths ≤ lines other paths
longer_lines one other [] less = omega arith
longer_lines one other (path ∷ paths) less =
    let first = sum_by-cons (line one) path paths in
    let second = sum_by-cons (line other) path paths in
    let rest = longer_lines one other paths less in
    omega (arith, first, second, rest, less)

-- NUMBERS

onto : (k n : ℕ) (acc : List ℕ) → length acc ≤ length (digits_onto k 10 false n acc)
onto zero n acc = omega arith
onto (suc k) n acc = elim (cases_Bool (nat_eq (n / 10) 0)) [
  | inl last ↦ rw last (omega arith)
  | inr more ↦ rw more (let rest = onto k (n / 10) (digit_glyph false (n % 10) ∷ acc) in omega (arith, rest))
]

some_digit : (n : ℕ) → 1 ≤ length (decimal n)
unfolding digits
some_digit n = elim (cases_Bool (nat_eq (n / 10) 0)) [
  | inl last ↦ rw last (omega arith)
  | inr more ↦ rw more (let rest = onto 63 (n / 10) (digit_glyph false (n % 10) ∷ []) in omega (arith, rest))
]

pub one_digit : length (decimal 0) ≡ 1
unfolding digits
one_digit = refl

-- ENTRIES OF FETCH.TXT

-- an entry of an empty file
abbrev pub hole_line : Hole → ℕ
hole_line hole = length (string_bytes hole.url) + length (written_spelling hole.path) + 4

pub holes_more : (holes : List Hole) (i : ℕ) (hole : Hole) → slice_get holes i ≡ Some hole → sum_by hole_line (take (i + 1) holes) ≡ sum_by hole_line (take i holes) + hole_line hole
holes_more holes i hole here = sum_by_more hole_line holes i hole (slice_get_within holes i hole here) ∙ ap (λ (h : Hole). sum_by hole_line (take i holes) + hole_line h) (get_or_from_slice_get holes i hole hole here)

entry_length : (files : Files) (hole : Hole) → length (written_entry (entry_of files hole)) ≡ length (string_bytes hole.url) + length (written_spelling hole.path) + 3 + length (written_length (entry_of files hole).octets)
entry_length files hole =
    let number = written_length (entry_of files hole).octets in
    let one = length-append (string_bytes hole.url) (codes " ") in
    let two = length-append (string_bytes hole.url ++ codes " ") number in
    let three = length-append ((string_bytes hole.url ++ codes " ") ++ number) (codes " ") in
    let four = length-append (((string_bytes hole.url ++ codes " ") ++ number) ++ codes " ") (written_spelling hole.path) in
    let five = length-append ((((string_bytes hole.url ++ codes " ") ++ number) ++ codes " ") ++ written_spelling hole.path) (lf ∷ []) in
    omega (arith, one, two, three, four, five)

some_length : (n : Option ℕ) → 1 ≤ length (written_length n)
some_length None = omega arith
some_length (Some n) = some_digit n

empty_length : (path : List ℕ) (paths : List (List ℕ)) → length (written_length (option_map length (lookup (bytes_eq path) (empty_files paths)))) ≡ 1
empty_length path [] = refl
empty_length path (first ∷ paths) = elim (cases_Bool (bytes_eq path first)) [
  | inl here ↦ rw here one_digit
  | inr other ↦ rw other (empty_length path paths)
]

empty_entry : (paths : List (List ℕ)) (hole : Hole) → length (written_entry (entry_of (empty_files paths) hole)) ≡ hole_line hole
empty_entry paths hole =
    let all = entry_length (empty_files paths) hole in
    let number = empty_length hole.path paths in
    omega (arith, all, number)

pub empty_fetched : (paths : List (List ℕ)) (holes : List Hole) → length (fetch_octets (empty_files paths) holes) ≡ sum_by hole_line holes
empty_fetched paths [] = refl
empty_fetched paths (hole ∷ holes) =
    let both = length-append (written_entry (entry_of (empty_files paths) hole)) (fetch_octets (empty_files paths) holes) in
    let here = empty_entry paths hole in
    let rest = empty_fetched paths holes in
    let sums = sum_by-cons hole_line hole holes in
    omega (arith, both, here, rest, sums)

pub fetched_grows : (files : Files) (holes : List Hole) → sum_by hole_line holes ≤ length (fetch_octets files holes)
fetched_grows files [] = omega arith
fetched_grows files (hole ∷ holes) =
    let both = length-append (written_entry (entry_of files hole)) (fetch_octets files holes) in
    let here = entry_length files hole in
    let number = some_length (entry_of files hole).octets in
    let rest = fetched_grows files holes in
    let sums = sum_by-cons hole_line hole holes in
    omega (arith, both, here, number, rest, sums)

-- ELEMENTS OF BAG-INFO.TXT

abbrev oxum_of : ℕ → ℕ → MetadataElement
oxum_of n m = element (codes "Payload-Oxum") (written_oxum n m)

value_grows : (text : List ℕ) → length text ≤ length (written_value text)
value_grows [] = omega arith
value_grows (octet ∷ text) = let rest = value_grows text in elim (cases_Bool (nat_eq octet lf)) [
  | inl is ↦ rw is (omega (arith, rest))
  | inr other ↦ rw other (omega (arith, rest))
]

value_length : (n m : ℕ) → length (written_value (written_oxum n m)) ≡ length (written_value (decimal n)) + 1 + length (written_value (decimal m))
value_length n m =
    let whole = ap (λ (text : List ℕ). length text) (flat_map-append written_octet (decimal n ++ codes ".") (decimal m)) in
    let front = ap (λ (text : List ℕ). length text) (flat_map-append written_octet (decimal n) (codes ".")) in
    let one = length-append (written_value (decimal n ++ codes ".")) (written_value (decimal m)) in
    let two = length-append (written_value (decimal n)) (written_value (codes ".")) in
    omega (arith, whole, front, one, two)

zero_value : length (written_value (decimal 0)) ≡ 1
unfolding digits
zero_value = refl

value_least : (n m : ℕ) → length (written_value (written_oxum 0 m)) ≤ length (written_value (written_oxum n m))
value_least n m =
    let least = value_length 0 m in
    let other = value_length n m in
    let grows = value_grows (decimal n) in
    let some = some_digit n in
    omega (arith, zero_value, least, other, grows, some)

oxum_length : (n m : ℕ) → length (written_element (oxum_of n m)) ≡ 15 + length (written_value (written_oxum n m))
oxum_length n m =
    let value = written_value (written_oxum n m) in
    let one = length-append (codes "Payload-Oxum" ++ codes ": ") value in
    let two = length-append ((codes "Payload-Oxum" ++ codes ": ") ++ value) (lf ∷ []) in
    omega (arith, one, two)

abbrev pub info_octets : List MetadataElement → ℕ → ℕ → ℕ
info_octets elements n m = length (written_info (elements ++ oxum_of n m ∷ []))

info_length : (elements : List MetadataElement) (n m : ℕ) → info_octets elements n m ≡ length (written_info elements) + 15 + length (written_value (written_oxum n m))
info_length elements n m =
    let whole = ap (λ (text : List ℕ). length text) (flat_map-append written_element elements (oxum_of n m ∷ [])) in
    let both = length-append (written_info elements) (written_info (oxum_of n m ∷ [])) in
    let last = length-append (written_element (oxum_of n m)) [] in
    let text = oxum_length n m in
    omega (arith, whole, both, last, text)

pub info_grows : (elements : List MetadataElement) (n m : ℕ) → info_octets elements 0 m ≤ info_octets elements n m
info_grows elements n m =
    let least = info_length elements 0 m in
    let other = info_length elements n m in
    let value = value_least n m in
    omega (arith, least, other, value)
