-- A call that fails since the store inside has failed.
use Rattle.std.proofs.Common.{◌≡◌, Err, IsTrue, Result, ap}
use Rattle.std.specs.Prelude.{IsErrOf}
use Rattle.bag_ledger.specs.Keeping.{Given, RefusesGiven, UsesStore}
use Rattle.bag_ledger.specs.declared.keeper_faults.KeepFault.{KeepFault}
use Rattle.bag_ledger.specs.declared.keeper_faults.KeepFault.TheVariants.{Store}
use Rattle.bag_ledger.specs.declared.keeper_faults.PutFault.{PutFault}
use Rattle.bag_ledger.specs.declared.keeper_faults.PutFault.TheVariants.{Keep, Reader}
use Rattle.bag_ledger.specs.declared.keeper_faults.StoreFault.{StoreFault}
use Rattle.bag_ledger.specs.declared.keeper_faults.StoreFault.TheVariants.{Spent}
use Rattle.bag_rules.specs.declared.want.Want.{Want}
use Rattle.bag_driver.specs.declared.file_keeper.FileKeeper.{FileKeeper}
use Rattle.bag_sqlite.proofs.SqlLemmas.{same_fault}

-- what a call does to the store of a keeper
abbrev pub Uses : FileKeeper → FileKeeper → (StoreFault → Type 0) → Type 0
Uses = UsesStore (λ keeper. keeper.store.failures) (λ keeper. IsTrue keeper.store.is_spent)

-- the calls before this one left the store as it was
after_others : (old mid new : FileKeeper) (F G : StoreFault → Type 0) → old.store ≡ mid.store → ((fault : StoreFault) → F fault → G fault) → ((fault : StoreFault) → G fault → F fault)
    → Uses mid new F → Uses old new G
after_others old mid new F G same to from uses = record {
  counted = record {
    rises = λ some. rw same (uses.counted.rises (some.0, from some.0 some.1));
    stays = λ none. rw same (uses.counted.stays (λ some. none (some.0, to some.0 some.1)));
  };
  spent_before = λ before. to Spent (uses.spent_before (rw same at before));
  spent_first = λ told. rw same (uses.spent_first (from Spent told));
  spent_now = ((λ now. let it = uses.spent_now.0 now in (it.0, to it.0 it.1)), (λ some. uses.spent_now.1 (some.0, from some.0 some.1)));
}

same_kept : {A : Type 0} {a b : KeepFault} → ◌≡◌ {A = Result A PutFault} (Err (Keep a)) (Err (Keep b)) → a ≡ b
same_kept e = cc

pub blamed : {A : Type 0} (old mid new : FileKeeper) (fault : KeepFault) → old.store ≡ mid.store → Uses mid new (λ told. fault ≡ Store told)
    → Uses old new (λ told. IsErrOf {T = A} (Err fault) (Store told))
blamed old mid new fault same uses = after_others old mid new _ _ same (λ told e. ap Err e) (λ told e. same_fault e) uses

pub blamed_put : {A : Type 0} (old mid new : FileKeeper) (fault : KeepFault) → old.store ≡ mid.store → Uses mid new (λ told. fault ≡ Store told)
    → Uses old new (λ told. IsErrOf {T = A} (Err (Keep fault)) (Keep (Store told)))
blamed_put old mid new fault same uses = after_others old mid new _ _ same (λ told e. ap (λ fault. Err (Keep fault)) e) (λ told e. same_kept e) uses

--- a fault of the keeper says that what was given was within the limit
pub given_within : (given : Given) (want : Want) (fault : PutFault) (why : KeepFault) → fault ≡ Keep why → RefusesGiven given want fault → given.within
given_within given want fault why same refuses = rw same at refuses

--- a fault of the keeper is none of the reader
pub is_no_reader : {A : Type 0} (fault : PutFault) (why : KeepFault) → fault ≡ Keep why → IsErrOf {T = A} (Err fault) Reader → ⊥
is_no_reader fault why same e = cc
