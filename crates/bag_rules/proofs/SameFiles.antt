-- When two lists of files show the same.
use Rattle.std.proofs.Common.{◌≡◌, ℕ, Bool, ◌&&◌, List, [], ◌∷◌, refl, sym, ap, ◌∙◌}
use Rattle.std.proofs.lemmas.Bool.Decides.{Decides-and, Decides-like}
use Rattle.std.proofs.lemmas.Slice.Eq.{bytes_eq-Decides, slice_eq-Decides}
use Rattle.std.specs.Bool.{Decides}
use Rattle.std.specs.List.{AllZip}
use lib.Pointwise.{pointwise}
use Rattle.std.specs.Cmp.Derive.Mapped.{pointwise-map}
use Rattle.bag_rules.specs.Files.{SameFile}
use Rattle.bag_rules.specs.contracts.file.FilePartialEq.TheImpl as equality
use Rattle.bag_rules.proofs.Words.{bytes_eq, File, files_of}

same_pair : List ℕ × List ℕ → List ℕ × List ℕ → Bool
same_pair x y = bytes_eq x.0 y.0 && bytes_eq x.1 y.1

same_pair-Decides : (x y : List ℕ × List ℕ) → Decides (same_pair x y) (x ≡ y)
unfolding same_pair
same_pair-Decides x y = Decides-like (same_pair x y) (λ p t. (p.0 t, p.1 t)) (λ e. (ap (λ p. p.0) e, ap (λ p. p.1) e))
    (Decides-and (bytes_eq x.0 y.0) (bytes_eq x.1 y.1) (bytes_eq-Decides x.0 y.0) (bytes_eq-Decides x.1 y.1))

-- `==` on files says whether they show the same
pub same_files : (files others : List File) (r : Bool) → r ≡ pointwise equality.eq-value.it files others → Decides r (files_of files ≡ files_of others)
unfolding same_pair
same_files files others r told = slice_eq-Decides same_pair-Decides (files_of files) (files_of others) r
    (told ∙ sym (pointwise-map (λ (file : File). (file.path, file.body.items)) same_pair files others))

-- clones show the same
pub cloned_files : (files clones : List File) → AllZip SameFile files clones → files_of clones ≡ files_of files
cloned_files [] [] same = refl
cloned_files [] (clone ∷ clones) same = absurd same
cloned_files (file ∷ files) [] same = absurd same
cloned_files (file ∷ files) (clone ∷ clones) same = λ t. (same.0.0 t, same.0.1 t) ∷ cloned_files files clones same.1 t
