use Rattle.std.proofs.Common.{replicate, refl}
use Rattle.bag_path.specs.Paths.{path_fault}
use Rattle.bag_path.proofs.AsciiLemmas.{ascii_path}
use Rattle.bag_path.proofs.examples.a_path_has_4096_octets_at_most.Goals as goal

pub returns : goal.returns
unfolding path_fault
returns c = (ascii_path (replicate 4096 97) refl refl, refl)
