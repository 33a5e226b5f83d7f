use Rattle.std.proofs.Common.{IsTrue}
use Rattle.bag_sqlite.proofs.Words.{err_from_is_err_and, Health}
use Rattle.bag_sqlite.proofs.KeepingLemmas.{answered}
use Rattle.bag_sqlite.proofs.SqlLemmas.{uses_as}
use Rattle.bag_sqlite.proofs.keeper.SqlKeeperKeeper.begin.Goals as goal

pub returns-in_err-test-clause-store : goal.returns-in_err-test-clause-store
returns-in_err-test-clause-store g c =
    let error = err_from_is_err_and c.from_residual.result c.from_residual.ensures.1 in
    rw (error.1, error.2) (uses_as (λ keeper. keeper.health) (λ (health : Health). health.failures) (λ health. IsTrue health.is_spent) c.args.self.now _ _ _ (λ fault e. e) (λ fault e. e) c.in_err-test.ensures.store)

pub returns-clause-begun : goal.returns-clause-begun
returns-clause-begun g c =
    answered _ c.begin_transfer.result c.answer.result c.answer.ensures.told
    (λ done writes. record { was_clean = writes.was_clean; held = writes.held; left = writes.left })
    (λ leaves. record { was_clean = leaves.was_clean; held = leaves.held; left = leaves.left })
    c.begin_transfer.ensures.begun

pub returns-clause-store : goal.returns-clause-store
returns-clause-store g c =
    uses_as (λ keeper. keeper.health) (λ (health : Health). health.failures) (λ health. IsTrue health.is_spent) c.args.self.now _ _ _ (λ fault e. e) (λ fault e. e)
    (rw c.in_ok-test.ensures.well.1 at c.answer.ensures.store)
