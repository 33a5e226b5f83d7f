-- The files of a tree as they were read, and the payload among them.
use Rattle.std.proofs.Common.{◌≡◌, ◌+◌, ◌∷◌, [], ◌++◌, ℕ, Bool, true, false, List, Option, Some, map, take, drop, slice_get, Contains, refl, sym, ap, ◌∙◌, subst, inl, inr, arith}
use Rattle.std.proofs.lemmas.List.{length-take, take-append-drop, take-map}
use Rattle.std.proofs.lemmas.List.Elements.{All-contains, All-from_recursion, filter-append, recursion_from_All}
use Rattle.std.specs.List.{AllByRecursion, AllZip, filter}
use Rattle.std.specs.Map.{keys_of}
use Rattle.bag_rules.proofs.RisingPaths.{one_place, place_of}
use Rattle.bag_rules.proofs.Words.{AreRising, cases_Bool, Files, is_payload, paths_in, payload_of, Shown, slice_get_within}
use Rattle.bag_writer.specs.PayloadSteps.{IsReadAs, unless_hole}
use Rattle.bag_writer.specs.Steps.{is_hole, written_payload}
use Rattle.bag_writer.specs.Writing.{IsReadFrom}
use Rattle.bag_writer.specs.declared.spec.Spec.{Spec}
use Rattle.bag_writer.proofs.FileSteps.{octets_unread}
use Rattle.bag_writer.proofs.StepLemmas.{get_before, none_is}

abbrev pub File : Type 0
File = List ℕ × List ℕ

abbrev pub ShownFile : Type 0
ShownFile = List ℕ × Option (List ℕ)

-- FILES THAT WERE READ

abbrev pub AreReadAs : List ShownFile → Files → Type 0
AreReadAs shown files = AllZip IsReadAs shown files

pub read_on : (shown more : List ShownFile) (files others : Files) → AreReadAs shown files → AreReadAs more others → AreReadAs (shown ++ more) (files ++ others)
read_on [] more [] others h k = k
read_on [] more (file ∷ files) others h k = absurd h
read_on (s ∷ shown) more [] others h k = absurd h
read_on (s ∷ shown) more (file ∷ files) others h k = (h.0, read_on shown more files others h.1 k)

-- files of which nothing was read, with the octets that are known, if any are
abbrev pub unread : List ShownFile → Files
unread shown = map (λ (s : ShownFile). (s.0, (octets_unread s.1).0)) shown

pub unread_is : (shown : List ShownFile) → AreReadAs shown (unread shown)
unread_is [] = tt
unread_is (s ∷ shown) = ((refl, (octets_unread s.1).1), unread_is shown)

read_keys : (shown : List ShownFile) (files : Files) → AreReadAs shown files → keys_of files ≡ map (λ (s : ShownFile). s.0) shown
read_keys [] [] h = refl
read_keys [] (file ∷ files) h = absurd h
read_keys (s ∷ shown) [] h = absurd h
read_keys (s ∷ shown) (file ∷ files) h = λ t. h.0.0 t ∷ read_keys shown files h.1 t

-- THE PAYLOAD

pub payload_on : (files others : Files) → payload_of (files ++ others) ≡ payload_of files ++ payload_of others
payload_on files others = filter-append (λ (file : File). is_payload file.0) files others

pub payload_next : (file : File) (rest : Files) → is_payload file.0 ≡ true → payload_of (file ∷ rest) ≡ file ∷ payload_of rest
payload_next file rest e = rw e refl

pub payload_passed : (file : File) (rest : Files) → is_payload file.0 ≡ false → payload_of (file ∷ rest) ≡ payload_of rest
payload_passed file rest e = rw e refl

kept_paths : (files : Files) → keys_of (payload_of files) ≡ filter is_payload (keys_of files)
kept_paths [] = refl
kept_paths (file ∷ files) = elim (cases_Bool (is_payload file.0)) [
  | inl kept ↦ rw kept (ap (λ rest. file.0 ∷ rest) (kept_paths files))
  | inr dropped ↦ rw dropped (kept_paths files)
]

payload_paths_are : (shown : List ShownFile) (files : Files) → AreReadAs shown files → keys_of (payload_of files) ≡ filter is_payload (map (λ (s : ShownFile). s.0) shown)
payload_paths_are shown files h = kept_paths files ∙ ap (filter is_payload) (read_keys shown files h)

files_known : (known files : Files) → AreReadAs (map (λ (file : File). (file.0, Some file.1)) known) files → files ≡ known
files_known [] [] h = refl
files_known [] (file ∷ files) h = absurd h
files_known (k ∷ known) [] h = absurd h
files_known (k ∷ known) (file ∷ files) h = λ t. (h.0.0 t, h.0.1 t) ∷ files_known known files h.1 t

-- the payload of files that were read as a tree shows them is read from it
pub payload_read : (shown : Shown) (files : Files) → AreReadAs shown.files files → IsReadFrom shown (payload_of files)
payload_read shown files h = record {
  paths = payload_paths_are shown.files files h;
  known = λ bag is. ap payload_of (files_known bag.files files (subst (λ list. AreReadAs list files) (ap (λ (s : Shown). s.files) is) h));
}

-- WHAT IS WRITTEN OF THEM

abbrev pub written_of : Spec → Files → Files
written_of spec files = written_payload spec (payload_of files)

pub written_on : (spec : Spec) (files others : Files) → written_of spec (files ++ others) ≡ written_of spec files ++ written_of spec others
written_on spec files others = ap (written_payload spec) (payload_on files others) ∙ filter-append _ (payload_of files) (payload_of others)

pub written_next : (spec : Spec) (file : File) (rest : Files) (mark : Bool) → is_payload file.0 ≡ true → is_hole spec.holes.items file.0 ≡ mark → written_of spec (file ∷ rest) ≡ unless_hole mark file ++ written_of spec rest
written_next spec file rest true e k = rw (e, k) refl
written_next spec file rest false e k = rw (e, k) refl

-- PLACES

-- a path of a list in ascending order isn't among the earlier ones
absent_before : (paths : List (List ℕ)) → AreRising paths → (i : ℕ) (path : List ℕ) → slice_get paths i ≡ Some path → ¬ Contains (take i paths) path
absent_before paths rising i path here found =
    let (j, at) = place_of (take i paths) path found in
    let before = slice_get_within (take i paths) j path at in
    let there = ap (λ list. slice_get list j) (sym (take-append-drop i paths)) ∙ get_before (take i paths) (drop i paths) j before ∙ at in
    let same = one_place paths rising j i path there here in
    omega (arith, before, length-take i paths, same)

kept_keys : (P : List ℕ → Type 0) (q : File → Bool) (files : Files) → AllByRecursion P (keys_of files) → AllByRecursion P (keys_of (filter q files))
kept_keys P q [] h = h
kept_keys P q (file ∷ files) h = elim (cases_Bool (q file)) [
  | inl kept ↦ rw kept (h.0, kept_keys P q files h.1)
  | inr dropped ↦ rw dropped (kept_keys P q files h.1)
]

absent_kept : (q : File → Bool) (files : Files) (path : List ℕ) → ¬ Contains (keys_of files) path → ¬ Contains (keys_of (filter q files)) path
absent_kept q files path absent found =
    All-contains (λ p. ¬ (p ≡ path)) (keys_of (filter q files)) path
    (All-from_recursion (λ p. ¬ (p ≡ path)) (keys_of (filter q files))
    (kept_keys (λ p. ¬ (p ≡ path)) q files (recursion_from_All (λ p. ¬ (p ≡ path)) (keys_of files) (none_is (keys_of files) path absent))))
    found refl

-- the path of the next file isn't among those of the files that were written earlier
pub absent_written : (shown : Shown) (spec : Spec) (files : Files) (i : ℕ) (path : List ℕ) → AreRising (paths_in shown) → AreReadAs (take i shown.files) files → slice_get (paths_in shown) i ≡ Some path → ¬ Contains (keys_of (written_of spec files)) path
absent_written shown spec files i path rising read here =
    absent_kept _ (payload_of files) path
    (absent_kept _ files path
    (subst (λ keys. ¬ Contains keys path) (take-map (λ (s : ShownFile). s.0) i shown.files ∙ sym (read_keys (take i shown.files) files read))
    (absent_before (paths_in shown) rising i path here)))
