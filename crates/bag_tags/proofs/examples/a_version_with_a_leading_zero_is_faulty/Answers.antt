use Rattle.std.proofs.Common.{codes, ◌++◌, ◌∷◌, [], refl, inl, inr, arith}
use Rattle.bag_path.specs.Lines.{lines_of}
use Rattle.bag_tags.specs.WordsReading.{until}
use Rattle.bag_tags.proofs.DeclarationLemmas.{labels_are, bad_major}
use Rattle.bag_tags.proofs.ExampleLemmas.{ascii_unmarked}
use Rattle.bag_tags.proofs.examples.a_version_with_a_leading_zero_is_faulty.Goals as goal

pub returns : goal.returns
unfolding until lines_of
returns c =
    let octets = codes "BagIt-Version: 01.0" ++ 10 ∷ codes "Tag-File-Character-Encoding: UTF-8" ++ 10 ∷ [] in (
      codes "01.0",
      codes "UTF-8",
      labels_are octets (ascii_unmarked octets refl refl) (codes "BagIt-Version: 01.0") (codes "Tag-File-Character-Encoding: UTF-8") refl (codes "01.0") (codes "UTF-8") refl refl,
      bad_major (codes "01.0") (codes "01") (codes ".0") refl (λ value h. elim h.no_leading_zero [ inl e ↦ omega (arith, e) | inr n ↦ n refl ]),
    )
