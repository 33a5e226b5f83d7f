use Rattle.std.proofs.Common.{codes, refl}
use Rattle.bag_path.specs.Paths.{path_fault}
use Rattle.bag_path.proofs.AsciiLemmas.{ascii_path}
use Rattle.bag_path.proofs.examples.common_names_are_paths.Goals as goal

pub returns : goal.returns
unfolding path_fault
returns c = (
  ascii_path (codes "k") refl refl,
  ascii_path (codes "data/..k/k./...") refl refl,
  ascii_path (codes "data.txt") refl refl,
)
