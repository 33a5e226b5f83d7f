-- A path that a look-up doesn't find is free.
use Rattle.std.proofs.Common.{◌≡◌, ℕ, List, Option, Some, None, Contains, Bor, false, is_some, refl, sym, ap, ◌∙◌}
use Rattle.std.proofs.lemmas.Bool.{false≢true}
use Rattle.std.proofs.lemmas.Cmp.{nat_list_eq_equiv}
use Rattle.std.proofs.lemmas.Map.Views.{IsSome-lookup_from_Contains}
use Rattle.std.specs.Map.{keys_of, lookup}
use Rattle.std.specs.Option.{option_copied}
use Rattle.std.specs.Str.{bytes_eq}

copied_some : (r : Option (Bor (List ℕ))) → is_some (option_copied r) ≡ is_some r
copied_some None = refl
copied_some (Some x) = refl

pub free_path : (files : List (List ℕ × List ℕ)) (path : List ℕ) (r : Option (Bor (List ℕ))) → option_copied r ≡ lookup (bytes_eq path) files → is_some r ≡ false → ¬ Contains (keys_of files) path
free_path files path r found none there =
    false≢true (sym (sym (ap is_some found) ∙ copied_some r ∙ none) ∙ IsSome-lookup_from_Contains nat_list_eq_equiv path files there)
