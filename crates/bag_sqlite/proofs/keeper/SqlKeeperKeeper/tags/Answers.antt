use Rattle.std.proofs.Common.{IsTrue}
use Rattle.bag_sqlite.proofs.Words.{err_from_is_err_and, Health}
use Rattle.bag_sqlite.proofs.KeepingLemmas.{answered, passed_on}
use Rattle.bag_sqlite.proofs.ReadingLemmas.{keeps_reading_in}
use Rattle.bag_sqlite.proofs.SqlLemmas.{uses_as}
use Rattle.bag_sqlite.proofs.keeper.SqlKeeperKeeper.tags.Goals as goal

pub returns-in_err-test-clause-store : goal.returns-in_err-test-clause-store
returns-in_err-test-clause-store g c =
    let error = err_from_is_err_and c.from_residual.result c.from_residual.ensures.1 in
    rw (error.1, error.2) (uses_as (λ keeper. keeper.health) (λ (health : Health). health.failures) (λ health. IsTrue health.is_spent) c.args.self.now _ _ _ (λ fault e. passed_on e) (λ fault e. passed_on e) c.in_err-test.ensures.store)

pub returns-clause-tags : goal.returns-clause-tags
returns-clause-tags g c clean ledger holds = answered _ c.tags.result c.answer.result c.answer.ensures.told (λ value it. it) (λ none. none) (c.tags.ensures.tags clean ledger holds)

pub returns-clause-reads : goal.returns-clause-reads
returns-clause-reads g c = keeps_reading_in g.S.Store (λ keeper. keeper.connection) c.args.self.now _ c.args.self.now.idle c.tags.ensures.queries

pub returns-clause-store : goal.returns-clause-store
returns-clause-store g c =
    uses_as (λ keeper. keeper.health) (λ (health : Health). health.failures) (λ health. IsTrue health.is_spent) c.args.self.now _ _ _ (λ fault e. e) (λ fault e. e)
    (rw c.in_ok-test.ensures.well.1 at c.answer.ensures.store)
