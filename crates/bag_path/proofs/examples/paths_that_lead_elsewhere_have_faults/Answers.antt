use Rattle.std.proofs.Common.{refl}
use Rattle.bag_path.specs.Paths.{path_fault}
use Rattle.bag_path.proofs.examples.paths_that_lead_elsewhere_have_faults.Goals as goal

pub returns : goal.returns
unfolding path_fault
returns c = (refl, refl, refl, refl, refl, refl, refl)
