use Rattle.std.proofs.Common.{codes, ◌++◌, ◌∷◌, [], refl, arith}
use Rattle.bag_path.specs.Lines.{lines_of}
use Rattle.bag_tags.proofs.DeclarationLemmas.{count_fault}
use Rattle.bag_tags.proofs.ExampleLemmas.{ascii_unmarked}
use Rattle.bag_tags.proofs.examples.a_declaration_of_one_line_is_faulty.Goals as goal

pub returns : goal.returns
unfolding lines_of
returns c =
    let octets = codes "BagIt-Version: 1.0" ++ 10 ∷ [] in
    count_fault octets (ascii_unmarked octets refl refl) (λ e. omega (arith, e))
