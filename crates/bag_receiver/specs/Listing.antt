-- The answer of a receiver that is asked for the names of its transfers.
use Rattle.std.specs.Prelude.{◌≡◌, ℕ, IfOk, IsErrOf, Result, map, string_bytes}
use Rattle.std.specs.Map.{keys_of}
use Rattle.std.specs.declared.alloc.Global.{Global}
use Rattle.std.specs.declared.string.String.{String}
use Rattle.std.specs.declared.vec.Vec.{Vec}
use Rattle.bag_digest.specs.Failures.{CountsIf}
use Rattle.bag_ledger.specs.Ledgers.{Ledger}
use Rattle.bag_ledger.specs.declared.keeper_faults.KeepFault.{KeepFault}
use Rattle.bag_ledger.specs.declared.keeper_faults.KeepFault.TheVariants.{Store}
use Rattle.bag_ledger.specs.declared.keeper_faults.StoreFault.{StoreFault}
use Rattle.bag_receiver.specs.declared.receiver.Receiver.{Receiver}
use Rattle.bag_receiver.specs.Receivers.{Does, SaysOfState}
use Rattle.bag_receiver.specs.ReceiversInside.{Same}

-- If the keeper is clean, the answer is the names of the transfers. It is a failure of the store exactly if the keeper
-- counted one. Nothing changes.
pub record IsListing {K : Type 0} (holds may_leave : K → Ledger → Type 0) (clean : K → Type 0)
    (failures : K → ℕ) (old new : Receiver K)
    (answer : Result (Vec (String Global) Global) KeepFault) : Type 0 where
  pub looks : Does holds may_leave clean old new Same
  pub names : SaysOfState holds may_leave clean old new (λ now.
      IfOk answer (λ names. map string_bytes names.items ≡ keys_of now.held))
  pub store : CountsIf ((fault : StoreFault) × IsErrOf answer (Store fault))
      (failures old.keeper) (failures new.keeper)
