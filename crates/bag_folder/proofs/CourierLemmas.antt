-- The payload files that a courier of a tree delivers.
use Rattle.std.proofs.Common.{◌≡◌, ◌<◌, ◌≤◌, ◌∷◌, ◌+◌, ◌∙◌, [], ℕ, Bool, Err, List, None, Ok, Option, Result, Some, ap, cond, false, length, map, refl, suc, sym, true, zero}
use Rattle.std.specs.Prelude.{IfNone, IfSome, filter, if◌then◌else◌, is_some, slice_get, unwrap_or}
use Rattle.std.specs.List.{list_all}
use Rattle.std.specs.Option.{option_and_then}
use Rattle.std.proofs.lemmas.Bool.{and_parts}
use Rattle.std.proofs.lemmas.List.{drop_all}
use Rattle.std.proofs.lemmas.Option.{slice_get_within}
use Rattle.bag_path.specs.Paths.{is_payload}
use Rattle.bag_receiver.specs.Couriers.{ComesNext, HasPath}
use Rattle.bag_rules.specs.Files.{Files}
use Rattle.bag_rules.specs.Trees.{Shown, octets_in, paths_in}
use Rattle.bag_folder.specs.Bringing.{IsFoundAt, TreeFile, all_known, current_path, known_file, left_to_read, payload_from, place_after, to_come}
use Rattle.bag_digest.proofs.ListLemmas.{rest_from}

-- the file at an index has the path there
pub file_at : (files : List TreeFile) (i : ℕ) (path : List ℕ) → slice_get (map (λ (file : TreeFile). file.0) files) i ≡ Some path
    → (file : TreeFile) × (slice_get files i ≡ Some file) × (file.0 ≡ path)
file_at [] i path h = absurd (cc)
file_at (file ∷ files) zero path h = (file, refl, (let is : file.0 ≡ path = cc in is))
file_at (file ∷ files) (suc i) path h = file_at files i path h

pub path_at : (files : List TreeFile) (i : ℕ) (file : TreeFile) → slice_get files i ≡ Some file → slice_get (map (λ (file : TreeFile). file.0) files) i ≡ Some file.0
path_at [] i file h = absurd (cc)
path_at (first ∷ files) zero file h = let is : first ≡ file = cc in ap (λ (f : TreeFile). Some f.0) is
path_at (first ∷ files) (suc i) file h = path_at files i file h

-- a payload file is the first from its index on, and another file is skipped
pub taken_from : (shown : Shown) (i : ℕ) (file : TreeFile) → slice_get shown.files i ≡ Some file → is_payload file.0 ≡ true → payload_from shown i ≡ file ∷ payload_from shown (i + 1)
taken_from shown i file here is =
    ap (filter (λ (f : TreeFile). is_payload f.0)) (rest_from shown.files i file here)
    ∙ ap (λ (b : Bool). cond b (file ∷ payload_from shown (i + 1)) (payload_from shown (i + 1))) is

pub passed_from : (shown : Shown) (i : ℕ) (file : TreeFile) → slice_get shown.files i ≡ Some file → is_payload file.0 ≡ false → payload_from shown i ≡ payload_from shown (i + 1)
passed_from shown i file here is =
    ap (filter (λ (f : TreeFile). is_payload f.0)) (rest_from shown.files i file here)
    ∙ ap (λ (b : Bool). cond b (file ∷ payload_from shown (i + 1)) (payload_from shown (i + 1))) is

pub none_from : (shown : Shown) (i : ℕ) → length shown.files ≤ i → payload_from shown i ≡ []
none_from shown i past = ap (filter (λ (f : TreeFile). is_payload f.0)) (drop_all i shown.files past)

-- THE NEXT FILE

known_at : (files : List TreeFile) (i : ℕ) (file : TreeFile) → list_all (λ (f : TreeFile). is_some f.1) files ≡ true → slice_get files i ≡ Some file → is_some file.1 ≡ true
known_at [] i file all here = absurd (cc)
known_at (first ∷ files) zero file all here = let is : first ≡ file = cc in ap (λ (f : TreeFile). is_some f.1) (sym is) ∙ (and_parts (is_some first.1) (list_all (λ (f : TreeFile). is_some f.1) files) all).0
known_at (first ∷ files) (suc i) file all here = known_at files i file (and_parts (is_some first.1) (list_all (λ (f : TreeFile). is_some f.1) files) all).1 here

is_value : (octets : Option (List ℕ)) → is_some octets ≡ true → octets ≡ Some (unwrap_or octets [])
is_value (Some octets) h = refl
is_value None h = absurd (cc)

came_if : (known : Bool) (files rest : List TreeFile) (file : TreeFile) (path octets : Option (List ℕ)) → files ≡ file ∷ rest → path ≡ Some file.0 → (known ≡ true → octets ≡ Some (unwrap_or file.1 []))
    → ComesNext (if known then Some (map known_file files) else None) true path octets (if known then Some (map known_file rest) else None)
came_if true files rest file path octets is named value = (known_file file, (map known_file rest, ap (map known_file) is, named, value refl, refl))
came_if false files rest file path octets is named value = refl

-- a file was found
pub came_next : (shown : Shown) (place i : ℕ) → IsFoundAt shown place i → ComesNext (to_come shown place) true (current_path shown (Some i)) (octets_in shown i) (to_come shown (i + 1))
came_next shown place i found =
    came_if (all_known shown) (payload_from shown place) (payload_from shown (i + 1)) found.file (current_path shown (Some i)) (octets_in shown i) found.first
    (path_at shown.files i found.file found.here)
    (λ all. ap (option_and_then (λ (file : TreeFile). file.1)) found.here ∙ is_value found.file.1 (known_at shown.files i found.file all found.here))

none_if : (known : Bool) (files : List TreeFile) (content : Option (List ℕ)) → files ≡ [] → ComesNext (if known then Some (map known_file files) else None) false None content (if known then Some (map known_file files) else None)
none_if true files content is = (ap (map known_file) is, ap (λ (fs : List TreeFile). Some (map known_file fs)) is)
none_if false files content is = refl

-- no file was left
pub none_next : (shown : Shown) (place : ℕ) (content : Option (List ℕ)) → payload_from shown place ≡ [] → ComesNext (to_come shown place) false None content (to_come shown place)
none_next shown place content none = none_if (all_known shown) (payload_from shown place) content none

pub is_within : (shown : Shown) (i : ℕ) (file : TreeFile) → slice_get shown.files i ≡ Some file → i < length (paths_in shown)
is_within shown i file here = slice_get_within (paths_in shown) i file.0 (path_at shown.files i file here)

comes_so : (shown : Shown) (place : ℕ) (found : Option ℕ) (in_tree : Option (List ℕ)) → IfSome found (IsFoundAt shown place) → IfNone found (payload_from shown place ≡ [])
    → ComesNext (to_come shown place) (is_some found) (current_path shown found) (left_to_read shown in_tree found false) (to_come shown (place_after place found))
comes_so shown place None in_tree some none = none_next shown place None none
comes_so shown place (Some i) in_tree some none = came_next shown place i some

pub next_comes : (before after : Option Files) (shown : Shown) (place : ℕ) (found : Option ℕ) (more : Bool) (path content in_tree : Option (List ℕ)) → IfSome found (IsFoundAt shown place) → IfNone found (payload_from shown place ≡ [])
    → before ≡ to_come shown place → more ≡ is_some found → path ≡ current_path shown found → content ≡ left_to_read shown in_tree found false → after ≡ to_come shown (place_after place found) → ComesNext before more path content after
next_comes before after shown place found more path content in_tree some none is_before is_more is_path is_content is_after = rw (is_before, is_more, is_path, is_content, is_after) (comes_so shown place found in_tree some none)

abbrev more_of : {E : Type 0} → Result Bool E → Bool
more_of (Ok more) = more
more_of (Err fault) = false

has_path_so : {E : Type 0} (shown : Shown) (place : ℕ) (found : Option ℕ) → IfSome found (IsFoundAt shown place) → HasPath {E = E} (Ok (is_some found)) (current_path shown found) (is_some found)
has_path_so shown place None some = record { there = λ e. ap more_of e; none = λ other. refl; readable = λ e. ap Ok e }
has_path_so shown place (Some i) some = record {
  there = λ e. ap is_some (path_at shown.files i some.file some.here);
  none = λ other. absurd (other refl);
  readable = λ e. refl;
}

-- there is a path exactly if a file was found
pub next_has_path : {E : Type 0} (more : Result Bool E) (path : Option (List ℕ)) (is_open : Bool) (shown : Shown) (place : ℕ) (found : Option ℕ) → IfSome found (IsFoundAt shown place)
    → more ≡ Ok (is_some found) → path ≡ current_path shown found → is_open ≡ is_some found → HasPath more path is_open
next_has_path more path is_open shown place found some more_is path_is open_is = rw (more_is, path_is, open_is) (has_path_so shown place found some)
