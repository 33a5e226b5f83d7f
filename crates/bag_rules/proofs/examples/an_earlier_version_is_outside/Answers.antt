use Rattle.std.proofs.Common.{ℕ, List, false, map, codes, ◌++◌, ◌∷◌, refl, inl, inr, arith, rules}
use Rattle.std.specs.Char.{to_ascii_lowercase}
use Rattle.bag_path.specs.Lines.{lines_of}
use Rattle.bag_tags.specs.declared.declaration.Declaration.{Declaration}
use Rattle.bag_tags.specs.Declarations.{HasLabels, IsVersion, IsDeclaration}
use Rattle.bag_tags.specs.WordsReading.{until}
use Rattle.bag_tags.proofs.DeclarationLemmas.{read_so, labels_are, good_version}
use Rattle.bag_tags.proofs.ExampleLemmas.{ascii_unmarked, other_text}
use Rattle.bag_rules.proofs.examples.an_earlier_version_is_outside.Goals as goal

abbrev earlier : List ℕ
earlier = codes "BagIt-Version: 0.96" ++ 13 ∷ 10 ∷ codes "Tag-File-Character-Encoding: ISO-8859-1"

labels : HasLabels earlier (codes "0.96") (codes "ISO-8859-1")
unfolding lines_of
labels = labels_are earlier (ascii_unmarked earlier refl refl) (codes "BagIt-Version: 0.96") (codes "Tag-File-Character-Encoding: ISO-8859-1") refl (codes "0.96") (codes "ISO-8859-1") refl refl

version : IsVersion (codes "0.96") 0 96
unfolding until
version = good_version (codes "0.96") (codes "0") (codes ".96") refl (codes "96") refl 0 96
    (record { numeral = record { some = λ e. cc; digits = search rules; value_is = refl }; short = search rules; no_leading_zero = inl refl })
    (record { numeral = record { some = λ e. cc; digits = search rules; value_is = refl }; short = search rules; no_leading_zero = inr (λ e. omega (arith, e)) })

abbrev earlier_version : Declaration
earlier_version = record { major = 0; minor = 96; utf8 = false }

declares : IsDeclaration earlier earlier_version
declares = read_so earlier (codes "0.96") (codes "ISO-8859-1") 0 96 false labels version (λ e. cc, search rules)
    (λ e. cc, λ e. absurd (other_text (map to_ascii_lowercase (codes "ISO-8859-1")) (codes "utf-8") refl e))

pub returns : goal.returns
returns c = (earlier_version, (earlier, (0, refl), declares), refl)
