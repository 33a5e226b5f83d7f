use Rattle.bag_rules.proofs.PassingLemmas.{passes_wanted, wanted_passes}
use Rattle.bag_rules.proofs.laws.what_is_wanted_and_within_the_limit_passes.Goals as goal

pub returns : goal.returns
returns c = λ tags path content want is. (
  λ passes. (passes.within, passes_wanted tags path content want is passes),
  λ wanted. wanted_passes tags path content want is wanted.0 wanted.1,
)
