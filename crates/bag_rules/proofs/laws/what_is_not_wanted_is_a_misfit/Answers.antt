use Rattle.bag_rules.proofs.PassingLemmas.{misfit_back, misfit_so}
use Rattle.bag_rules.proofs.laws.what_is_not_wanted_is_a_misfit.Goals as goal

pub returns : goal.returns
returns c = λ tags path content want fault is. (misfit_so tags path content want is fault, misfit_back tags path content want is fault)
