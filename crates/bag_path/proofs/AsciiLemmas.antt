-- Texts in ASCII, each octet tested.
use Rattle.std.proofs.Common.{◌≡◌, ℕ, Bool, true, List, None, ltb-true, nat_lt, get_or}
use Rattle.std.specs.List.{list_all}
use Rattle.std.specs.Str.{IsUtf8}
use Rattle.std.proofs.lemmas.Str.{IsUtf8-from_ascii}
use Rattle.std.proofs.lemmas.Str.Ascii.{IsAscii-from_all}
use Rattle.std.proofs.lemmas.List.Sums.{AllPass-from_list_all}
use Rattle.bag_path.specs.Paths.{IsPath, path_fault}
use Rattle.bag_path.proofs.PathLemmas.{path_if_no_fault}

abbrev pub is_ascii_text : List ℕ → Bool
is_ascii_text text = list_all (λ octet. nat_lt octet 128) text

pub ascii_utf8 : (text : List ℕ) → is_ascii_text text ≡ true → IsUtf8 text
ascii_utf8 text h =
    let each = AllPass-from_list_all (λ octet. nat_lt octet 128) text h in
    IsUtf8-from_ascii text (IsAscii-from_all text (λ k d below. ltb-true (get_or text k d) 128 (each k d below)))

pub ascii_path : (path : List ℕ) → is_ascii_text path ≡ true → path_fault path ≡ None → IsPath path
ascii_path path ascii none = path_if_no_fault path (ascii_utf8 path ascii) none
