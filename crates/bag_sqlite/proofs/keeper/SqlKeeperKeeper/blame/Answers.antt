use Rattle.std.proofs.Common.{◌≡◌, ◌↔◌, IsTrue, ap, refl}
use Rattle.bag_ledger.specs.declared.keeper_faults.KeepFault.TheVariants.{Store}
use Rattle.bag_ledger.specs.declared.keeper_faults.StoreFault.{StoreFault}
use Rattle.bag_ledger.specs.declared.keeper_faults.StoreFault.TheVariants.{Spent}
use Rattle.bag_ledger.specs.Keeping.{UsesStore}
use Rattle.bag_digest.specs.Failures.{Rises}
use Rattle.bag_sqlite.proofs.Words.{Health}
use Rattle.bag_sqlite.proofs.SqlLemmas.{uses_as}
use Rattle.bag_sqlite.proofs.keeper.SqlKeeperKeeper.blame.Goals as goal

same : (a b : StoreFault) → Store a ≡ Store b → a ≡ b
same a b e = cc

fails : (old new : Health) (fault : StoreFault) → IsTrue new.is_spent × Rises old.failures new.failures × ((fault ≡ Spent) ↔ IsTrue old.is_spent)
    → UsesStore (λ (health : Health). health.failures) (λ (health : Health). IsTrue health.is_spent) old new (λ told. fault ≡ told)
fails old new fault it = record {
  counted = record { rises = λ _. it.1; stays = λ none. absurd (none (fault, refl)) };
  spent_before = it.2.1;
  spent_first = it.2.0;
  spent_now = ((λ _. (fault, refl)), (λ _. it.0));
}

pub returns-clause-store : goal.returns-clause-store
returns-clause-store g c =
    uses_as (λ keeper. keeper.health) (λ (health : Health). health.failures) (λ health. IsTrue health.is_spent) c.args.self.now _ _ _ (λ fault e. ap Store e) (λ fault e. same _ _ e)
    (fails c.args.self.now.health _ _ c.fail.ensures.failed)
