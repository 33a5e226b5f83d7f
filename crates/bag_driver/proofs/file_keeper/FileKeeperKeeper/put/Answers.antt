use Rattle.std.proofs.Common.{refl}
use Rattle.bag_driver.proofs.StoreLemmas.{blamed_put}
use Rattle.bag_driver.proofs.file_keeper.FileKeeperKeeper.put.Goals as goal

pub returns-in-Err-Keep-Store-clause-store : goal.returns-in-Err-Keep-Store-clause-store
returns-in-Err-Keep-Store-clause-store c = blamed_put c.args.self.now _ _ _ refl c.blame.ensures.store
