use Rattle.bag_sqlite.proofs.Words.{state}
use Rattle.bag_sqlite.proofs.MakingLemmas.{table_made}
use Rattle.bag_sqlite.proofs.new_tables.make_table.Goals as goal

pub returns-clause-made : goal.returns-clause-made
returns-clause-made g c clean before table rows makes none making =
    table_made (state g.S.Store c.args.tx.now.conn.now) (state g.S.Store c.execute.new.self.conn.now) c.args.sql.now c.in_ok-execute.field-0 before table rows makes none making
    (c.in_ok-execute.ensures.runs clean making.mode)

pub returns-clause-inside : goal.returns-clause-inside
returns-clause-inside g c clean mode = (c.in_ok-execute.ensures.runs clean mode).1.mode
