-- The answer of a receiver that fetches what the `fetch.txt` of a transfer lists, and what it holds afterwards.
use Rattle.std.specs.Prelude.{◌≡◌, ℕ, List, None, Option, IfErr, IfOk, IsErrOf, MatchResult, Result, length, map}
use Rattle.std.specs.List.{AllByRecursion}
use Rattle.std.specs.declared.alloc.Global.{Global}
use Rattle.std.specs.declared.vec.Vec.{Vec}
use Rattle.bag_digest.specs.Failures.{CountsIf, RisesBy}
use Rattle.bag_ledger.specs.Ledgers.{Ledger}
use Rattle.bag_ledger.specs.declared.keeper_faults.KeepFault.TheVariants.{Store}
use Rattle.bag_ledger.specs.declared.keeper_faults.StoreFault.{StoreFault}
use Rattle.bag_receiver.specs.declared.fetch.FetchOutcome.{FetchOutcome}
use Rattle.bag_receiver.specs.declared.receiver.Receiver.{Receiver}
use Rattle.bag_receiver.specs.declared.report.ViewFault.{ViewFault}
use Rattle.bag_receiver.specs.declared.report.ViewFault.TheVariants.{NoTransfer, Keeper}
use Rattle.bag_receiver.specs.TransferNames.{IsNamed, IsTransferName}
use Rattle.bag_receiver.specs.Receivers.{Does, SaysOfState}
use Rattle.bag_receiver.specs.ReceiversInside.{Same}
use Rattle.bag_receiver.specs.Runs.{CountsEach, Runs}
use Rattle.bag_receiver.specs.Suppliers.{AreReached, IsGotFrom, Round, Supply, deliveries_by, outcome_of, supplier_failures}

-- Each entry in the `fetch.txt` of the transfer with this name whose path isn't held when it is reached was asked for,
-- in order, and has its outcome. What the supplier has was delivered, and only these deliveries change what is held.
-- Before the first entry there may be a fault, and then nothing changes: there is no such transfer, or the store or
-- memory failed. An invalid name names no transfer. The supplier is asked once for each outcome. A failure of the
-- supplier or of the store is reported only if that counted it.
pub record IsFetching {K S : Type 0} (holds may_leave : K → Ledger → Type 0) (clean : K → Type 0)
    (store_failures : K → ℕ) (supply : S → Option Supply) (failures asks : S → ℕ) (name : List ℕ)
    (old new : Receiver K) (before after : S) (answer : Result (Vec FetchOutcome Global) ViewFault)
    : Type 0 where
  pub fetched : MatchResult answer (λ outcomes. (rounds : List Round)
      × (outcomes.items ≡ map outcome_of rounds)
      × AllByRecursion (IsGotFrom (supply before)) rounds
      × Runs holds may_leave clean store_failures old new name (deliveries_by rounds)
      × SaysOfState holds may_leave clean old new (λ now. AreReached now.held name rounds))
      (λ fault. Does holds may_leave clean old new Same × (after ≡ before))
  pub none : SaysOfState holds may_leave clean old new (λ now.
      IfErr answer (λ fault. fault ≡ NoTransfer → IsNamed now.held name None))
  pub judged : ¬ IsTransferName name → IsErrOf answer NoTransfer
  pub supplier : IfOk answer (λ outcomes.
      CountsEach (supplier_failures outcomes.items) (failures before) (failures after)
      × RisesBy (length outcomes.items) (asks before) (asks after))
  pub store : IfErr answer (λ fault. CountsIf ((store : StoreFault)
      × (fault ≡ Keeper (Store store))) (store_failures old.keeper) (store_failures new.keeper))
