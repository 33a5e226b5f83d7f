-- What the receiver's private functions find.
use Rattle.std.specs.Prelude.{◌≡◌, ℕ, Bool, true, false, List, Some, None, Result, Ok, Err, MatchResult}
use Rattle.std.specs.Map.{lookup}
use Rattle.std.specs.Option.{is_some}
use Rattle.std.specs.Str.{bytes_eq}
use Rattle.bag_path.specs.Paths.{path_fault}
use Rattle.bag_rules.specs.declared.plan.Plan.{Plan}
use Rattle.bag_rules.specs.Plans.{IsWantOf}
use Rattle.bag_ledger.specs.declared.keeper_faults.KeepFault.TheVariants.{Memory}
use Rattle.bag_ledger.specs.Ledgers.{Ledger, Transfer, content_of}
use Rattle.bag_receiver.specs.declared.answer.Answer.{Answer}
use Rattle.bag_receiver.specs.declared.answer.Answer.TheVariants.{Refused}
use Rattle.bag_receiver.specs.declared.answer.DeliverFault.{DeliverFault}
use Rattle.bag_receiver.specs.declared.answer.DeliverFault.TheVariants.{NoTransfer, BadPath, Keeper, NotListed}
use Rattle.bag_receiver.specs.declared.deliver.Slot.{Slot}
use Rattle.bag_receiver.specs.declared.receiver.Receiver.{Receiver}
use Rattle.bag_receiver.specs.Deliveries.{Content, IsListedPath, delivery_of}
use Rattle.bag_receiver.specs.TransferNames.{IsNamed, IsTransferName}
use Rattle.bag_receiver.specs.LedgerStates.{DeliveryStep, LedgerState}
use Rattle.bag_receiver.specs.Receivers.{SaysOfState}

-- nothing changes
abbrev pub Same : LedgerState → LedgerState → Type 0
Same old new = new ≡ old

-- the plan of the transfer with this name is there, or there is no such transfer
abbrev pub IsPlanned : List ℕ → Ledger → List (List ℕ × Plan) → Bool → Type 0
IsPlanned name ledger plans true = IsTransferName name
    × ((plan : Plan) × (lookup (bytes_eq name) plans ≡ Some plan))
IsPlanned name ledger plans false = IsNamed ledger name None

-- the path is listed in the transfer with this name: this is what it wants there, and whether it holds it
pub record IsPlaceIn (ledger : Ledger) (name text : List ℕ) (place : Slot) : Type 0 where
  pub transfer : Transfer
  pub named : IsNamed ledger name (Some transfer)
  pub listed : IsListedPath transfer.tags text
  pub wanted : IsWantOf transfer.tags text place.want
  pub held : is_some (content_of ledger name text) ≡ place.is_held

-- the fault is the answer to what was delivered for this text, whatever its content is, and nothing changes
abbrev pub RefusesAny : List ℕ → List ℕ → LedgerState → DeliverFault → Type 0
RefusesAny name text now fault = (content : Content)
    → DeliveryStep name (delivery_of text content (Refused fault)) now now

-- the answer of a call that takes or refuses
abbrev pub answer_of : Result Answer DeliverFault → Answer
answer_of (Ok answer) = answer
answer_of (Err fault) = Refused fault

-- this is found, or the delivery for this text is refused for this reason
module _ {K : Type 0} (holds may_leave : K → Ledger → Type 0) (clean : K → Type 0) where
  abbrev pub Finds : {A : Type 0} → Receiver K → Receiver K → List ℕ → List ℕ
      → (LedgerState → A → Type 0) → Result A DeliverFault → Type 0
  Finds old new name text found result = SaysOfState holds may_leave clean old new (λ now.
      MatchResult result (found now) (RefusesAny name text now))

-- the path or the lists are at fault, which no keeper has to be asked for
abbrev pub IsOfLists : DeliverFault → Type 0
IsOfLists (BadPath why) = Unit {0}
IsOfLists NotListed = Unit {0}
IsOfLists fault = ⊥

-- there is no such transfer, or the keeper has no answer
abbrev pub IsNoPlan : DeliverFault → Type 0
IsNoPlan NoTransfer = Unit {0}
IsNoPlan (Keeper fault) = Unit {0}
IsNoPlan fault = ⊥

-- the text is no valid path, for this reason; or memory ran out
abbrev pub RefusesText : List ℕ → DeliverFault → Type 0
RefusesText text (BadPath fault) = path_fault text ≡ Some fault
RefusesText text (Keeper fault) = fault ≡ Memory
RefusesText text fault = ⊥
