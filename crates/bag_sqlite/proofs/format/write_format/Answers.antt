use Rattle.bag_sqlite.proofs.Words.{state}
use Rattle.bag_sqlite.proofs.MakingLemmas.{format_written}
use Rattle.bag_sqlite.proofs.format.write_format.Goals as goal

pub returns-clause-made : goal.returns-clause-made
returns-clause-made g c clean making =
    format_written (state g.S.Store c.args.tx.now.conn.now) (state g.S.Store c.execute.new.self.conn.now) c.in_ok-execute.field-0 making
    (c.in_ok-execute.ensures.runs clean making.mode)

pub returns-clause-inside : goal.returns-clause-inside
returns-clause-inside g c clean mode = (c.in_ok-execute.ensures.runs clean mode).1.mode
