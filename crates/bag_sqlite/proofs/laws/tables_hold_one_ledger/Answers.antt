use Rattle.bag_sqlite.proofs.OneDatabase.{one_database}
use Rattle.bag_sqlite.proofs.OneLedger.{one_ledger}
use Rattle.bag_sqlite.proofs.laws.tables_hold_one_ledger.Goals as goal

pub returns-clause-tables : goal.returns-clause-tables
returns-clause-tables c layout trees ledger other p q = one_ledger trees ledger other p.held q.held

pub returns-clause-databases : goal.returns-clause-databases
returns-clause-databases c = one_database
