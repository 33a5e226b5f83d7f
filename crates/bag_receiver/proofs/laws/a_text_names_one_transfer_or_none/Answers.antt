use Rattle.bag_receiver.proofs.NameLemmas.{one_named, some_named}
use Rattle.bag_receiver.proofs.laws.a_text_names_one_transfer_or_none.Goals as goal

pub returns-clause-one : goal.returns-clause-one
returns-clause-one c = one_named

pub returns-clause-some : goal.returns-clause-some
returns-clause-some c = some_named
