use Rattle.bag_tags.proofs.OxumDecisionLemmas.{oxum_or_none}
use Rattle.bag_tags.proofs.laws.a_text_is_an_oxum_or_is_none.Goals as goal

pub returns : goal.returns
returns c = oxum_or_none
