use Rattle.bag_commands.proofs.NameLemmas.{written_itself}
use Rattle.bag_commands.proofs.laws.a_name_is_printed_as_it_is.Goals as goal

pub returns : goal.returns
returns c = λ name is. written_itself name is.octets
