use Rattle.std.proofs.Common.{Some, ap}
use Rattle.bag_sqlite.proofs.KeepingLemmas.{puts_known}
use Rattle.bag_sqlite.proofs.keeper.SqlKeeperKeeper.put.Goals as goal

pub returns-clause-put : goal.returns-clause-put
returns-clause-put g c =
    puts_known c.args.content.now _ _ (ap Some c.new-octets.ensures) _ _ _ c.args.self.now c.put_from.new.self c.args.name.now c.args.want.now c.put_from.result (c.put_from.ensures.reader.stays_ready tt).1
    c.put_from.ensures.put
