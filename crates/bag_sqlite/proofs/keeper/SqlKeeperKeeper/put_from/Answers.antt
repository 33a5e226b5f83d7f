use Rattle.std.proofs.Common.{IsTrue}
use Rattle.bag_sqlite.proofs.Words.{Health}
use Rattle.bag_sqlite.proofs.KeepingLemmas.{a_reader_failed, puts_in, told_a_reader}
use Rattle.bag_sqlite.proofs.SqlLemmas.{uses_as}
use Rattle.bag_sqlite.proofs.Words.{uses_as as reads_as}
use Rattle.bag_sqlite.proofs.keeper.SqlKeeperKeeper.put_from.Goals as goal

pub returns-clause-put : goal.returns-clause-put
returns-clause-put g c =
    let told = c.put_answer.ensures.told in
    rw told.1 (puts_in (λ keeper. keeper.connection) _ _ _ c.args.self.now _ _ _ _ _ (c.put_content.ensures.put told.0))

pub returns-clause-reader : goal.returns-clause-reader
returns-clause-reader g c =
    let told = c.put_answer.ensures.told in
    rw told.1 (reads_as _ _ _ _ _ _ _ (a_reader_failed told.0 c.put_content.result) (told_a_reader told.0 c.put_content.result) c.put_content.ensures.uses)

pub returns-clause-store : goal.returns-clause-store
returns-clause-store g c =
    uses_as (λ keeper. keeper.health) (λ (health : Health). health.failures) (λ health. IsTrue health.is_spent) c.args.self.now _ _ _ (λ fault e. e) (λ fault e. e)
    (rw c.in_ok-test.ensures.well.1 at c.put_answer.ensures.store)
