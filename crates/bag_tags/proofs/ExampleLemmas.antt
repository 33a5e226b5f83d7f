-- What worked examples share.
use Rattle.std.proofs.Common.{◌≡◌, ◌≢◌, true, false, ℕ, List, nat_eq, get_or, ap}
use Rattle.std.specs.List.{starts_with}
use Rattle.std.specs.Str.{bytes_eq}
use Rattle.std.proofs.lemmas.Bool.Decides.{Decides-eqb}
use Rattle.std.proofs.lemmas.Slice.Eq.{bytes_eq-Decides}
use Rattle.std.proofs.lemmas.Str.{is_utf8-from_IsUtf8}
use Rattle.bag_path.proofs.AsciiLemmas.{is_ascii_text, ascii_utf8}
use Rattle.bag_tags.specs.Declarations.{IsUnmarked}
use Rattle.bag_tags.specs.TagLines.{mark}

pub ascii_unmarked : (octets : List ℕ) → is_ascii_text octets ≡ true → starts_with nat_eq octets mark ≡ false → IsUnmarked octets
ascii_unmarked octets ascii none = (is_utf8-from_IsUtf8 octets (ascii_utf8 octets ascii), none)

-- two texts that aren't the same
pub other_text : (a b : List ℕ) → bytes_eq a b ≡ false → a ≢ b
other_text a b differ e =
    let t = (bytes_eq-Decides a b).1 e in
    cc

-- and two that differ at an index
pub differ_at : (k : ℕ) (a b : List ℕ) → nat_eq (get_or a k 0) (get_or b k 0) ≡ false → a ≢ b
differ_at k a b differ e =
    let t = (Decides-eqb (get_or a k 0) (get_or b k 0)).1 (ap (λ xs. get_or xs k 0) e) in
    cc
