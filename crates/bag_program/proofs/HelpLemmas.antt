-- Arguments that ask for help, one at a time.
use Rattle.std.proofs.Common.{◌≡◌, ◌∷◌, ◌+◌, ◌∙◌, [], ℕ, Bool, List, Some, ap, codes, drop, false, map, refl, slice_get, true}
use Rattle.std.specs.List.{AllZip}
use Rattle.std.specs.Prelude.{if◌then◌else◌}
use Rattle.std.specs.Str.{bytes_eq}
use Rattle.bag_program.specs.CommandLines.{has_help_option, is_help_option}
use Rattle.bag_digest.proofs.ListLemmas.{rest_from}

help_at : (word : List ℕ) (rest : List (List ℕ)) (mark help : Bool) → bytes_eq word (codes "--") ≡ mark → is_help_option word ≡ help
    → has_help_option (word ∷ rest) ≡ (if mark then false else if help then true else has_help_option rest)
help_at word rest mark help is_mark is_help = rw (is_mark, is_help) refl

-- what the argument at an index and those after it say, if those before it say nothing
pub help_from : (words : List (List ℕ)) (i : ℕ) (word : List ℕ) (mark help : Bool) → slice_get words i ≡ Some word → bytes_eq word (codes "--") ≡ mark → is_help_option word ≡ help
    → has_help_option words ≡ has_help_option (drop i words) → has_help_option words ≡ (if mark then false else if help then true else has_help_option (drop (i + 1) words))
help_from words i word mark help here is_mark is_help front =
    front ∙ ap has_help_option (rest_from words i word here) ∙ help_at word (drop (i + 1) words) mark help is_mark is_help

-- copies of arguments are the same arguments
pub copied : {X : Type 0} (octets : X → List ℕ) (xs ys : List X) → AllZip (λ x y. octets y ≡ octets x) xs ys → map octets ys ≡ map octets xs
copied octets [] [] same = refl
copied octets [] (y ∷ ys) same = absurd same
copied octets (x ∷ xs) [] same = absurd same
copied octets (x ∷ xs) (y ∷ ys) same =
    let others : map octets ys ≡ map octets xs = copied octets xs ys same.1 in
    let first : octets y ≡ octets x = same.0 in
    cc (first, others)
