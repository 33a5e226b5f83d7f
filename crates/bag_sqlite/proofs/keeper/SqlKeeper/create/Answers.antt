use Rattle.std.proofs.Common.{◌≡◌, [], rules}
use Rattle.bag_sqlite.proofs.Words.{IsCreated, no_schema, state}
use Rattle.bag_sqlite.proofs.MakingLemmas.{holds_nothing}
use Rattle.bag_sqlite.proofs.OpenedLemmas.{keeps_alone}
use Rattle.bag_sqlite.proofs.SqlLemmas.{survives_same}
use Rattle.bag_sqlite.proofs.keeper.SqlKeeper.create.Goals as goal

pub returns-in-Ok-clause-kept : goal.returns-in-Ok-clause-kept
returns-in-Ok-clause-kept g c clean =
    let s = state g.S.Store c.make_ledger.new.connection in
    let (none, created) : (((state g.S.Store c.args.connection).now.schema ≡ no_schema) × IsCreated s) = search rules in
    let settled = g.met.S.Store.settled c.make_ledger.new.connection.store in
    let holds = holds_nothing s created settled in
    (none, created.is_open, keeps_alone s s [] settled created.is_open clean (survives_same s) holds holds)
