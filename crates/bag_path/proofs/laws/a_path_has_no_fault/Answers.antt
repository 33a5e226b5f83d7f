use Rattle.bag_path.proofs.PathLemmas.{path_exactly}
use Rattle.bag_path.proofs.laws.a_path_has_no_fault.Goals as goal

pub returns : goal.returns
returns c = path_exactly
