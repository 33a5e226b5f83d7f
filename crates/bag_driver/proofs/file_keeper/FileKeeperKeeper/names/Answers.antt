use Rattle.std.proofs.Common.{refl}
use Rattle.bag_driver.proofs.StoreLemmas.{blamed}
use Rattle.bag_driver.proofs.file_keeper.FileKeeperKeeper.names.Goals as goal

pub returns-in-Err-Store-clause-store : goal.returns-in-Err-Store-clause-store
returns-in-Err-Store-clause-store c = blamed c.args.self.now _ _ _ refl c.blame.ensures.store
