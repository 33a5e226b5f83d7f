use Rattle.std.proofs.Common.{rules}
use Rattle.bag_ledger.proofs.SoundLemmas.{sound_nothing}
use Rattle.bag_ledger.proofs.map_keeper.MapKeeper.new.Goals as goal

pub returns-clause-holds : goal.returns-clause-holds
returns-clause-holds c = (search rules, sound_nothing)
