use Rattle.bag_sqlite.proofs.Words.{state}
use Rattle.bag_sqlite.proofs.MigratingLemmas.{format_set}
use Rattle.bag_sqlite.proofs.format.set_format.Goals as goal

pub returns-clause-set : goal.returns-clause-set
returns-clause-set g c clean number way says =
    format_set (state g.S.Store c.args.tx.now.conn.now) (state g.S.Store c.execute.new.self.conn.now) number c.in_ok-execute.field-0 way says (c.in_ok-execute.ensures.runs clean way.mode)
