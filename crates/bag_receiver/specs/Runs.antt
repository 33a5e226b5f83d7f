-- Runs of deliveries, and of deliveries from couriers.
use Rattle.std.specs.Prelude.{◌≡◌, ◌≢◌, ◌<◌, ◌+◌, ◌∷◌, [], ℕ, List}
use Rattle.std.specs.List.{AllByRecursion}
use Rattle.bag_digest.specs.Failures.{RisesBy}
use Rattle.bag_rules.specs.Files.{Files}
use Rattle.bag_ledger.specs.Ledgers.{Ledger}
use Rattle.bag_ledger.specs.declared.keeper_faults.KeepFault.TheVariants.{Store}
use Rattle.bag_receiver.specs.declared.answer.Answer.{Answer}
use Rattle.bag_receiver.specs.declared.answer.Answer.TheVariants.{Refused}
use Rattle.bag_receiver.specs.declared.answer.DeliverFault.TheVariants.{Keeper}
use Rattle.bag_receiver.specs.declared.receiver.Receiver.{Receiver}
use Rattle.bag_receiver.specs.declared.run.End.{End}
use Rattle.bag_receiver.specs.declared.run.End.TheVariants.{Done, TooMany, Courier, Memory}
use Rattle.bag_receiver.specs.declared.run.TheConstants.{MOST_DELIVERIES}
use Rattle.bag_receiver.specs.Deliveries.{Delivery, Whole, delivery_of}
use Rattle.bag_receiver.specs.Receivers.{Does}
use Rattle.bag_receiver.specs.LedgerStates.{IsAnswer, Receives}

-- DELIVERIES IN SEQUENCE

-- the number of answers that report a failure of the store
abbrev pub store_failure : Answer → ℕ
store_failure (Refused (Keeper (Store fault))) = 1
store_failure answer = 0

abbrev pub store_failures : List Delivery → ℕ
store_failures [] = 0
store_failures (delivery ∷ deliveries) = store_failure delivery.answer + store_failures deliveries

-- a count rose by this number, or is at its maximum; if the number is 0, it didn't change
pub record CountsEach (n old new : ℕ) : Type 0 where
  pub stays : n ≡ 0 → new ≡ old
  pub rises : RisesBy n old new

-- These deliveries were made to the transfer with this name and had these answers. The store failed where an answer
-- says so, and nowhere else.
pub record Runs {K : Type 0} (holds may_leave : K → Ledger → Type 0) (clean : K → Type 0)
    (failures : K → ℕ) (old new : Receiver K) (name : List ℕ) (deliveries : List Delivery)
    : Type 0 where
  pub received : Does holds may_leave clean old new (Receives name deliveries)
  pub judged : AllByRecursion (IsAnswer name) deliveries
  pub store : CountsEach (store_failures deliveries) (failures old.keeper) (failures new.keeper)

-- A LIST OF ITEMS, each the text of a path with a content

-- the first of them were delivered, and had these answers
abbrev pub with_answers : Files → List Answer → List Delivery
with_answers [] answers = []
with_answers items [] = []
with_answers ((text, content) ∷ items) (answer ∷ answers) =
    delivery_of text (Whole content) answer ∷ with_answers items answers

-- this many of them were delivered when the run ended in this way
abbrev pub IsEndOf : End → ℕ → ℕ → Type 0
IsEndOf Done n all = n ≡ all
IsEndOf TooMany n all = (n ≡ MOST_DELIVERIES) × (n < all)
IsEndOf Courier n all = ⊥
IsEndOf Memory n all = (n ≢ MOST_DELIVERIES) × (n < all)
