-- Octets are a path exactly if they have no fault.
use Rattle.std.proofs.Common.{◌≡◌, ◌≢◌, ◌≤◌, ◌==◌, ◌||◌, ℕ, Bool, true, false, List, [], ◌∷◌, ◌↔◌, Some, None, Option, if◌then◌else◌, refl, ap, length, arith, nat_lt, Decides, codes}
use Rattle.std.specs.Prelude.{All}
use Rattle.std.specs.List.{AllByRecursion, list_any}
use Rattle.std.specs.Str.{IsUtf8, bytes_eq}
use Rattle.std.proofs.lemmas.Bool.Decides.{Decides-eqb, Decides-ltb}
use Rattle.std.proofs.lemmas.List.Elements.{All-from_recursion, recursion_from_All}
use Rattle.std.proofs.lemmas.Slice.Eq.{bytes_eq-Decides}
use Rattle.bag_path.specs.declared.path.PathFault.{PathFault}
use Rattle.bag_path.specs.declared.path.PathFault.TheVariants.{Empty, TooLong, EmptySegment, DotSegment, Nul, PayloadRoot, BadEscape}
use Rattle.bag_path.specs.Paths.{IsPath, segments, path_fault, has_segment, is_empty_segment, is_dot_segment}

-- the test is false exactly if the fact holds
abbrev Refutes : Bool → Type 0 → Type 0
Refutes b P = (b ≡ false → P) × (P → b ≡ false)

Refutes-from : {P Q : Type 0} (b : Bool) → Decides b P → (¬ P → Q) → (Q → ¬ P) → Refutes b Q
Refutes-from true d to from = (λ e. absurd (let h : true ≡ false = e in cc), λ q. absurd (from q (d.0 refl)))
Refutes-from false d to from = (λ e. to (λ p. absurd (let h = d.1 p in cc)), λ q. refl)

Refutes-or : {P Q : Type 0} (x y : Bool) → Refutes x P → Refutes y Q → Refutes (x || y) (P × Q)
Refutes-or true y p q = (λ e. absurd (let h : true ≡ false = e in cc), λ h. p.1 h.0)
Refutes-or false y p q = (λ e. (p.0 refl, q.0 e), λ h. q.1 h.1)

-- no element passes
Refutes-any : {X : Type 0} (test : X → Bool) (P : X → Type 0) → ((x : X) → Refutes (test x) (P x)) → (xs : List X) → Refutes (list_any test xs) (AllByRecursion P xs)
Refutes-any test P each [] = (λ e. tt, λ h. refl)
Refutes-any test P each (x ∷ xs) = Refutes-or (test x) (list_any test xs) (each x) (Refutes-any test P each xs)

Refutes-All : {X : Type 0} (test : X → Bool) (P : X → Type 0) → ((x : X) → Refutes (test x) (P x)) → (xs : List X) → Refutes (list_any test xs) (All P xs)
Refutes-All test P each xs =
    let any = Refutes-any test P each xs in
    (λ e. All-from_recursion P xs (any.0 e), λ h. any.1 (recursion_from_All P xs h))

no_length : {X : Type 0} (xs : List X) → length xs ≡ 0 → xs ≡ []
no_length [] e = refl
no_length (x ∷ xs) e = absurd (omega (arith, e))

Refutes-empty : {X : Type 0} (xs : List X) → Refutes (length xs == 0) (xs ≢ [])
Refutes-empty xs = Refutes-from (length xs == 0) (Decides-eqb (length xs) 0) (λ n e. n (ap length e)) (λ n e. n (no_length xs e))

Refutes-long : (xs : List ℕ) → Refutes (nat_lt 4096 (length xs)) (length xs ≤ 4096)
Refutes-long xs = Refutes-from (nat_lt 4096 (length xs)) (Decides-ltb 4096 (length xs)) (λ n. omega (arith, n)) (λ h k. omega (arith, h, k))

Refutes-text : (xs ys : List ℕ) → Refutes (bytes_eq xs ys) (xs ≢ ys)
Refutes-text xs ys = Refutes-from (bytes_eq xs ys) (bytes_eq-Decides xs ys) (λ h. h) (λ h. h)

-- a choice is `None` exactly if its test is false and the rest is `None`
no_first : (b : Bool) (fault : PathFault) (rest : Option PathFault) → ((if b then Some fault else rest) ≡ None → (b ≡ false) × (rest ≡ None)) × (b ≡ false → rest ≡ None → (if b then Some fault else rest) ≡ None)
no_first true fault rest = (λ e. absurd (let h : Some fault ≡ None = e in cc), λ h. absurd (let e : true ≡ false = h in cc))
no_first false fault rest = (λ e. (refl, e), λ h. λ e. e)

Refutes-empty_segment : (path : List ℕ) → Refutes (has_segment is_empty_segment path) (All (λ segment. segment ≢ []) (segments path))
Refutes-empty_segment path = Refutes-All is_empty_segment (λ segment. segment ≢ []) Refutes-empty (segments path)

Refutes-dot_segment : (path : List ℕ) → Refutes (has_segment is_dot_segment path) (All (λ segment. (segment ≢ codes ".") × (segment ≢ codes "..")) (segments path))
Refutes-dot_segment path = Refutes-All is_dot_segment (λ segment. (segment ≢ codes ".") × (segment ≢ codes "..")) (λ segment. Refutes-or (bytes_eq segment (codes ".")) (bytes_eq segment (codes "..")) (Refutes-text segment (codes ".")) (Refutes-text segment (codes ".."))) (segments path)

Refutes-nul : (path : List ℕ) → Refutes (list_any (λ octet. octet == 0) path) (All (λ octet. octet ≢ 0) path)
Refutes-nul path = Refutes-All (λ octet. octet == 0) (λ octet. octet ≢ 0) (λ octet. Refutes-from (octet == 0) (Decides-eqb octet 0) (λ h. h) (λ h. h)) path

pub path_if_no_fault : (path : List ℕ) → IsUtf8 path → path_fault path ≡ None → IsPath path
unfolding path_fault
path_if_no_fault path utf8 none =
    let empty = (no_first (length path == 0) _ _).0 none in
    let long = (no_first (nat_lt 4096 (length path)) _ _).0 empty.1 in
    let segment = (no_first (has_segment is_empty_segment path) _ _).0 long.1 in
    let dot = (no_first (has_segment is_dot_segment path) _ _).0 segment.1 in
    let nul = (no_first (list_any (λ octet. octet == 0) path) _ _).0 dot.1 in
    let root = (no_first (bytes_eq path (codes "data")) _ None).0 nul.1 in
    record {
      utf8 = utf8;
      some_octet = (Refutes-empty path).0 empty.0;
      not_too_long = (Refutes-long path).0 long.0;
      no_empty_segment = (Refutes-empty_segment path).0 segment.0;
      no_dot_segment = (Refutes-dot_segment path).0 dot.0;
      no_nul = (Refutes-nul path).0 nul.0;
      not_payload_root = (Refutes-text path (codes "data")).0 root.0;
    }

pub no_fault_if_path : (path : List ℕ) → IsPath path → path_fault path ≡ None
unfolding path_fault
no_fault_if_path path h =
    (no_first (length path == 0) _ _).1 ((Refutes-empty path).1 h.some_octet)
    ((no_first (nat_lt 4096 (length path)) _ _).1 ((Refutes-long path).1 h.not_too_long)
    ((no_first (has_segment is_empty_segment path) _ _).1 ((Refutes-empty_segment path).1 h.no_empty_segment)
    ((no_first (has_segment is_dot_segment path) _ _).1 ((Refutes-dot_segment path).1 h.no_dot_segment)
    ((no_first (list_any (λ octet. octet == 0) path) _ _).1 ((Refutes-nul path).1 h.no_nul)
    ((no_first (bytes_eq path (codes "data")) _ None).1 ((Refutes-text path (codes "data")).1 h.not_payload_root) refl)))))

pub path_exactly : (path : List ℕ) → IsUtf8 path → IsPath path ↔ (path_fault path ≡ None)
path_exactly path utf8 = (no_fault_if_path path, path_if_no_fault path utf8)

-- a choice isn't a fault that it doesn't name
pub other_fault : (wrong : PathFault) (b : Bool) (fault : PathFault) (rest : Option PathFault) → fault ≢ wrong → rest ≢ Some wrong → (if b then Some fault else rest) ≢ Some wrong
other_fault wrong true fault rest n m e = n (cc)
other_fault wrong false fault rest n m e = m e

-- the fault of a path is never `BadEscape`
pub no_bad_escape : (path : List ℕ) → path_fault path ≢ Some BadEscape
unfolding path_fault
no_bad_escape path =
    other_fault BadEscape (length path == 0) Empty _ (λ e. cc)
    (other_fault BadEscape (nat_lt 4096 (length path)) TooLong _ (λ e. cc)
    (other_fault BadEscape (has_segment is_empty_segment path) EmptySegment _ (λ e. cc)
    (other_fault BadEscape (has_segment is_dot_segment path) DotSegment _ (λ e. cc)
    (other_fault BadEscape (list_any (λ octet. octet == 0) path) Nul _ (λ e. cc)
    (other_fault BadEscape (bytes_eq path (codes "data")) PayloadRoot None (λ e. cc) (λ e. cc))))))
