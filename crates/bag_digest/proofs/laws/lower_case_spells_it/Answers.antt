use Rattle.bag_digest.proofs.Spelled.{lower_case_spells}
use Rattle.bag_digest.proofs.laws.lower_case_spells_it.Goals as goal

pub returns : goal.returns
returns c = lower_case_spells
