-- The answer of a receiver that exports a transfer to a sink, and what the sink holds afterwards.
use Rattle.std.specs.Prelude.{◌≡◌, ℕ, Bool, List, Option, IsErrOf, Result, false}
use Rattle.bag_digest.specs.Failures.{CountsIf}
use Rattle.bag_ledger.specs.Ledgers.{Ledger}
use Rattle.bag_ledger.specs.declared.keeper_faults.KeepFault.TheVariants.{Store}
use Rattle.bag_ledger.specs.declared.keeper_faults.StoreFault.{StoreFault}
use Rattle.bag_receiver.specs.declared.export.ExportFault.{ExportFault}
use Rattle.bag_receiver.specs.declared.export.ExportFault.TheVariants.{Keeper, NoTransfer, Sink}
use Rattle.bag_receiver.specs.declared.receiver.Receiver.{Receiver}
use Rattle.bag_receiver.specs.Exports.{Exports}
use Rattle.bag_receiver.specs.TransferNames.{IsTransferName}
use Rattle.bag_receiver.specs.Receivers.{Does, IsInState, SaysOfState}
use Rattle.bag_receiver.specs.ReceiversInside.{Same}
use Rattle.bag_receiver.specs.LedgerStates.{LedgerState}
use Rattle.bag_writer.specs.Sinks.{IsEmptySink, Stored, UsesClosedSink}

-- If the keeper is clean, there are three cases. Either a sink that was empty now holds the whole bag of the transfer
-- with this name, and the number of its files is the answer; or it holds part of that bag, after a fault; or there is
-- no such transfer. An invalid name names no transfer, whatever the store would answer; and if there is none, the sink
-- isn't used. The answer is a failure of the store exactly if the keeper counted one, and a failure of the sink exactly
-- if the sink counted one. A sure sink that was empty and had no open file doesn't fail. Nothing that is held changes.
pub record IsExporting {K S : Type 0} (holds may_leave : K → Ledger → Type 0) (clean : K → Type 0)
    (failures : K → ℕ) (stored : S → Option Stored) (is_open : S → Bool) (sink_failures : S → ℕ)
    (sink_sure : S → Type 0) (name : List ℕ) (old new : Receiver K) (old_sink new_sink : S)
    (answer : Result ℕ ExportFault) : Type 0 where
  pub looks : Does holds may_leave clean old new Same
  pub exported : SaysOfState holds may_leave clean old new (λ now.
      Exports now.held name answer (stored old_sink) (stored new_sink))
  pub judged : (¬ IsTransferName name → IsErrOf answer NoTransfer)
      × (IsErrOf answer NoTransfer → new_sink ≡ old_sink)
  pub store : CountsIf ((fault : StoreFault) × IsErrOf answer (Keeper (Store fault)))
      (failures old.keeper) (failures new.keeper)
  pub sink : UsesClosedSink is_open sink_failures sink_sure old_sink new_sink
      ((clean new.keeper × ((now : LedgerState) × IsInState holds may_leave old now))
      × (is_open old_sink ≡ false) × IsEmptySink (stored old_sink)) answer (IsErrOf answer Sink)
