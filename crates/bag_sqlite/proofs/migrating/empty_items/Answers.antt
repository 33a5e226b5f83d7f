use Rattle.bag_sqlite.proofs.Words.{state}
use Rattle.bag_sqlite.proofs.MigratingLemmas.{items_emptied}
use Rattle.bag_sqlite.proofs.migrating.empty_items.Goals as goal

pub returns-clause-emptied : goal.returns-clause-emptied
returns-clause-emptied g c clean way ints =
    items_emptied (state g.S.Store c.args.tx.now.conn.now) (state g.S.Store c.execute.new.self.conn.now) c.in_ok-execute.field-0 way ints (c.in_ok-execute.ensures.runs clean way.mode)
