use Rattle.bag_path.proofs.PathLemmas.{path_if_no_fault}
use Rattle.bag_path.proofs.path.BagPath.as_str.Goals as goal

pub returns-clause-path : goal.returns-clause-path
returns-clause-path c = rw (← c.self.view_is) (path_if_no_fault _ (rw c.as_str.ensures.value at c.as_str.utf8) c.self.invariant)
