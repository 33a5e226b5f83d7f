use Rattle.std.proofs.Common.{true}
use Rattle.bag_sqlite.proofs.Words.{bound, state}
use Rattle.bag_sqlite.proofs.AdoptingLemmas.{reads_by, told_by}
use Rattle.bag_sqlite.proofs.ReadingLemmas.{was_open}
use Rattle.bag_sqlite.proofs.adopting.rows_of.Goals as goal

pub returns-clause-rows : goal.returns-clause-rows
returns-clause-rows g c clean db stands = told_by g.S.Store db c.args.connection.now c.args.sql.now (bound c.args.params.now) c.in_ok-query.field-0.items stands (c.in_ok-query.ensures.shown clean)

pub returns-clause-opened : goal.returns-clause-opened
returns-clause-opened g c clean =
    let it = c.in_ok-query.ensures.shown clean in
    was_open (state g.S.Store (record c.args.connection.now { in_transaction = true })) (state g.S.Store it.then) _ _ _ it.shown

pub returns-in_err-query-clause-reads : goal.returns-in_err-query-clause-reads
returns-in_err-query-clause-reads g c = reads_by c.requires.idle c.query.ensures.queries

pub returns-clause-reads : goal.returns-clause-reads
returns-clause-reads g c = reads_by c.requires.idle c.query.ensures.queries
