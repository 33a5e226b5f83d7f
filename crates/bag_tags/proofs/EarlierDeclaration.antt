-- A declaration of an earlier version.
use Rattle.std.proofs.Common.{ℕ, List, true, false, map, codes, ◌++◌, ◌∷◌, [], refl, inl, inr, arith, rules}
use Rattle.std.specs.Char.{to_ascii_lowercase}
use Rattle.bag_path.specs.Lines.{lines_of}
use Rattle.bag_tags.specs.declared.declaration.Declaration.{Declaration}
use Rattle.bag_tags.specs.Declarations.{HasLabels, IsVersion, IsDeclaration}
use Rattle.bag_tags.specs.WordsReading.{until}
use Rattle.bag_tags.proofs.DeclarationLemmas.{read_so, labels_are, good_version}
use Rattle.bag_tags.proofs.ExampleLemmas.{ascii_unmarked, other_text}

abbrev pub earlier : List ℕ
earlier = codes "BagIt-Version: 0.97" ++ 13 ∷ 10 ∷ codes "Tag-File-Character-Encoding: ISO-8859-1"

abbrev pub earlier_version : Declaration
earlier_version = record { major = 0; minor = 97; utf8 = false }

labels : HasLabels earlier (codes "0.97") (codes "ISO-8859-1")
unfolding lines_of
labels = labels_are earlier (ascii_unmarked earlier refl refl) (codes "BagIt-Version: 0.97") (codes "Tag-File-Character-Encoding: ISO-8859-1") refl (codes "0.97") (codes "ISO-8859-1") refl refl

version : IsVersion (codes "0.97") 0 97
unfolding until
version = good_version (codes "0.97") (codes "0") (codes ".97") refl (codes "97") refl 0 97
    (record { numeral = record { some = λ e. cc; digits = search rules; value_is = refl }; short = search rules; no_leading_zero = inl refl })
    (record { numeral = record { some = λ e. cc; digits = search rules; value_is = refl }; short = search rules; no_leading_zero = inr (λ e. omega (arith, e)) })

pub earlier_declares : IsDeclaration earlier earlier_version
earlier_declares = read_so earlier (codes "0.97") (codes "ISO-8859-1") 0 97 false labels version (λ e. cc, search rules)
    (λ e. cc, λ e. absurd (other_text (map to_ascii_lowercase (codes "ISO-8859-1")) (codes "utf-8") refl e))

-- the same version in UTF-8
abbrev in_utf8 : List ℕ
in_utf8 = codes "BagIt-Version: 0.97" ++ 10 ∷ codes "Tag-File-Character-Encoding: UTF-8" ++ 10 ∷ []

utf8_labels : HasLabels in_utf8 (codes "0.97") (codes "UTF-8")
unfolding lines_of
utf8_labels = labels_are in_utf8 (ascii_unmarked in_utf8 refl refl) (codes "BagIt-Version: 0.97") (codes "Tag-File-Character-Encoding: UTF-8") refl (codes "0.97") (codes "UTF-8") refl refl

pub utf8_declares : IsDeclaration in_utf8 (record { major = 0; minor = 97; utf8 = true })
utf8_declares = read_so in_utf8 (codes "0.97") (codes "UTF-8") 0 97 true utf8_labels version (λ e. cc, search rules) (λ e. refl, λ e. refl)
