use Rattle.std.proofs.Common.{codes, ◌++◌, ◌∷◌, [], refl, inl}
use Rattle.bag_path.specs.Lines.{lines_of}
use Rattle.bag_tags.proofs.DeclarationLemmas.{label_fault}
use Rattle.bag_tags.proofs.ExampleLemmas.{ascii_unmarked}
use Rattle.bag_tags.proofs.examples.a_declaration_with_other_labels_is_faulty.Goals as goal

pub returns : goal.returns
unfolding lines_of
returns c =
    let octets = codes "BagIt-Version:1.0" ++ 10 ∷ codes "Tag-File-Character-Encoding: UTF-8" ++ 10 ∷ [] in
    label_fault octets (ascii_unmarked octets refl refl) (codes "BagIt-Version:1.0") (codes "Tag-File-Character-Encoding: UTF-8") refl (inl refl)
