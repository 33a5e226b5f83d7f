-- A text in UTF-8 spells a path, or has one first fault.
use Rattle.std.proofs.Common.{◌≡◌, ◌≢◌, ◌<◌, ◌==◌, ◌⊎◌, ℕ, nat_lt, length, List, [], ◌∷◌, ◌++◌, codes, Option, Some, None, refl, sym, ap, ◌∙◌, subst, inl, inr, arith, append_assoc}
use Rattle.std.specs.List.{list_any}
use Rattle.std.specs.Str.{IsUtf8, bytes_eq}
use Rattle.std.proofs.lemmas.Str.{IsUtf8-append}
use Rattle.bag_path.specs.declared.path.PathFault.{PathFault}
use Rattle.bag_path.specs.declared.path.PathFault.TheVariants as path
use Rattle.bag_path.specs.declared.version.Version.{Version}
use Rattle.bag_path.specs.declared.version.Version.TheVariants.{V1, V097}
use Rattle.bag_path.specs.Paths.{IsPath, path_fault, has_segment, is_empty_segment, is_dot_segment}
use Rattle.bag_path.specs.Spellings.{IsLineEscape, StandsFor, Spells}
use Rattle.bag_path.specs.SpellingReading.{octets_spelled}
use Rattle.bag_path.proofs.PathLemmas.{path_if_no_fault, no_fault_if_path, no_bad_escape, other_fault}
use Rattle.bag_path.proofs.SpellsLemmas.{spells_if_read, read_if_spells, nothing_if_none, none_if_nothing}
use Rattle.bag_tags.specs.Manifests.{SpellsNoPath}
use Rattle.bag_tags.proofs.TextCutLemmas.{utf8_before, utf8_after, utf8_one}

-- a part is its octet, or `%` and two octets in ASCII for an octet in ASCII
record IsEscape (part : List ℕ) (octet : ℕ) : Type 0 where
  first : ℕ
  second : ℕ
  whole : part ≡ 37 ∷ first ∷ second ∷ []
  first_below : first < 128
  second_below : second < 128
  octet_below : octet < 128

escape : (part : List ℕ) (octet a b : ℕ) → part ≡ 37 ∷ a ∷ b ∷ [] → a < 128 → b < 128 → octet < 128 → IsEscape part octet
escape part octet a b e h k l = record { first = a; second = b; whole = e; first_below = h; second_below = k; octet_below = l }

line_escape : (part : List ℕ) (octet : ℕ) → IsLineEscape part octet → IsEscape part octet
line_escape part octet (inl h) = elim h.1 [
  | inl k ↦ escape part octet 48 65 k (omega arith) (omega arith) (omega (arith, h.0))
  | inr k ↦ escape part octet 48 97 k (omega arith) (omega arith) (omega (arith, h.0))
]
line_escape part octet (inr h) = elim h.1 [
  | inl k ↦ escape part octet 48 68 k (omega arith) (omega arith) (omega (arith, h.0))
  | inr k ↦ escape part octet 48 100 k (omega arith) (omega arith) (omega (arith, h.0))
]

part_of : (version : Version) (part : List ℕ) (octet : ℕ) (rest : List ℕ) → StandsFor version part octet rest → (part ≡ octet ∷ []) ⊎ IsEscape part octet
part_of V1 part octet rest h = elim h [
  | inl h ↦ inl h.1
  | inr h ↦ inr (elim h [ inl h ↦ escape part octet 50 53 h.1 (omega arith) (omega arith) (omega (arith, h.0)) | inr h ↦ line_escape part octet h ])
]
part_of V097 part octet rest h = elim h [ inl h ↦ inl h.0 | inr h ↦ inr (line_escape part octet h) ]

-- what UTF-8 spells is UTF-8, even after a front
spelled_utf8_after : (version : Version) (path text front : List ℕ) → Spells version path text → IsUtf8 (front ++ text) → IsUtf8 (front ++ path)
spelled_utf8_after version [] text front h u = subst (λ t. IsUtf8 (front ++ t)) h u
spelled_utf8_after version (octet ∷ path) text front h u =
    let part = h.0 in
    let rest = h.1 in
    elim (part_of version part octet rest h.3) [
      | inl e ↦
          let whole : IsUtf8 ((front ++ octet ∷ []) ++ rest) = subst IsUtf8 (ap (λ t. front ++ t) (h.2 ∙ ap (λ p. p ++ rest) e) ∙ sym (append_assoc front (octet ∷ []) rest)) u in
          subst IsUtf8 (append_assoc front (octet ∷ []) path) (spelled_utf8_after version path rest (front ++ octet ∷ []) h.4 whole)
      | inr e ↦
          let whole : IsUtf8 (front ++ 37 ∷ e.first ∷ e.second ∷ rest) = subst (λ t. IsUtf8 (front ++ t)) (h.2 ∙ ap (λ p. p ++ rest) e.whole) u in
          let code : IsUtf8 (e.first ∷ e.second ∷ rest) = utf8_after front (e.first ∷ e.second ∷ rest) 37 (omega arith) whole in
          let more : IsUtf8 rest = utf8_after [] rest e.second e.second_below (utf8_after [] (e.second ∷ rest) e.first e.first_below code) in
          let path_utf8 : IsUtf8 path = spelled_utf8_after version path rest [] h.4 more in
          IsUtf8-append front (octet ∷ path) (utf8_before front (e.first ∷ e.second ∷ rest) 37 (omega arith) whole) (IsUtf8-append (octet ∷ []) path (utf8_one octet e.octet_below) path_utf8)
    ]

spelled_utf8 : (version : Version) (path text : List ℕ) → Spells version path text → IsUtf8 text → IsUtf8 path
spelled_utf8 version path text h u = spelled_utf8_after version path text [] h u

-- the text spells a path, or has this fault
abbrev pub PathOrFault : Version → List ℕ → Type 0
PathOrFault version text = ((path : List ℕ) × Spells version path text × IsPath path) ⊎ ((fault : PathFault) × SpellsNoPath fault version text)

-- `Memory` is not a fault of octets
no_memory : (p : List ℕ) → path_fault p ≢ Some path.Memory
unfolding path_fault
no_memory p =
    other_fault path.Memory (length p == 0) path.Empty _ (λ e. cc)
    (other_fault path.Memory (nat_lt 4096 (length p)) path.TooLong _ (λ e. cc)
    (other_fault path.Memory (has_segment is_empty_segment p) path.EmptySegment _ (λ e. cc)
    (other_fault path.Memory (has_segment is_dot_segment p) path.DotSegment _ (λ e. cc)
    (other_fault path.Memory (list_any (λ octet. octet == 0) p) path.Nul _ (λ e. cc)
    (other_fault path.Memory (bytes_eq p (codes "data")) path.PayloadRoot None (λ e. cc) (λ e. cc))))))

faulty : (version : Version) (text p : List ℕ) (fault : PathFault) → Spells version p text → path_fault p ≡ Some fault → SpellsNoPath fault version text
faulty version text p path.Memory s e = absurd (no_memory p e)
faulty version text p path.BadEscape s e = absurd (no_bad_escape p e)
faulty version text p fault s e = (p, s, e)

of_octets : (version : Version) (text p : List ℕ) (found : Option PathFault) → IsUtf8 text → Spells version p text → path_fault p ≡ found → PathOrFault version text
of_octets version text p None u s e = inl (p, s, path_if_no_fault p (spelled_utf8 version p text s u) e)
of_octets version text p (Some fault) u s e = inr (fault, faulty version text p fault s e)

of_reading : (version : Version) (text : List ℕ) (read : Option (List ℕ)) → IsUtf8 text → octets_spelled version text ≡ read → PathOrFault version text
of_reading version text None u e = inr (path.BadEscape, nothing_if_none version text e)
of_reading version text (Some p) u e = of_octets version text p (path_fault p) u (spells_if_read version p text e) refl

pub path_or_fault : (version : Version) (text : List ℕ) → IsUtf8 text → PathOrFault version text
path_or_fault version text u = of_reading version text (octets_spelled version text) u refl

-- the fault of a text that spells no path is that of the octets that are read from it
abbrev fault_of_octets : Option (List ℕ) → Option PathFault
fault_of_octets None = Some path.BadEscape
fault_of_octets (Some octets) = path_fault octets

fault_read : (version : Version) (text p : List ℕ) (fault : PathFault) → Spells version p text → path_fault p ≡ Some fault → fault_of_octets (octets_spelled version text) ≡ Some fault
fault_read version text p fault s e = ap fault_of_octets (read_if_spells version p text s) ∙ e

no_path_read : (version : Version) (text : List ℕ) (fault : PathFault) → SpellsNoPath fault version text → fault_of_octets (octets_spelled version text) ≡ Some fault
no_path_read version text path.Memory h = absurd h
no_path_read version text path.BadEscape h = ap fault_of_octets (none_if_nothing version text h)
no_path_read version text fault h = fault_read version text h.0 fault h.1 h.2

pub one_path_fault : (version : Version) (text : List ℕ) (fault other : PathFault) → SpellsNoPath fault version text → SpellsNoPath other version text → fault ≡ other
one_path_fault version text fault other h k =
    let e : Some fault ≡ Some other = sym (no_path_read version text fault h) ∙ no_path_read version text other k in cc

-- a text that spells a path has no fault
pub no_path : (version : Version) (text p : List ℕ) (fault : PathFault) → Spells version p text → IsPath p → SpellsNoPath fault version text → ⊥
no_path version text p fault h is refused =
    let e : None ≡ Some fault = sym (ap fault_of_octets (read_if_spells version p text h) ∙ no_fault_if_path p is) ∙ no_path_read version text fault refused in cc
