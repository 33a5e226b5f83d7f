-- What is held of all transfers, and how calls of a receiver change it.
use Rattle.std.specs.Prelude.{◌≡◌, ◌≢◌, ◌⊎◌, ◌≤◌, ◌∷◌, [], ℕ, List, Option, Some, length, map}
use Rattle.std.specs.Map.{keys_of, lookup}
use Rattle.std.specs.Str.{bytes_eq}
use Rattle.bag_path.specs.Paths.{IsPath, path_fault}
use Rattle.bag_digest.specs.Reading.{GaveAll, GaveMoreThan, GaveWithin}
use Rattle.bag_rules.specs.declared.limits.TheConstants.{LARGEST_ITEM}
use Rattle.bag_rules.specs.declared.plan.Plan.{Plan}
use Rattle.bag_rules.specs.Faults.{Has}
use Rattle.bag_rules.specs.Files.{Files}
use Rattle.bag_rules.specs.Plans.{IsPlanOf}
use Rattle.bag_rules.specs.Trees.{AreRising}
use Rattle.bag_ledger.specs.Ledgers.{Ledger, Transfer, tags_of, transfer_of, with_item}
use Rattle.bag_receiver.specs.declared.answer.Answer.{Answer}
use Rattle.bag_receiver.specs.declared.answer.Answer.TheVariants.{Taken, Refused}
use Rattle.bag_receiver.specs.declared.answer.DeliverFault.TheVariants.{NoTransfer, BadPath, NotListed, Reader, TooLarge, Keeper}
use Rattle.bag_receiver.specs.Deliveries.{Content, Delivery, IsDue, IsFirstHeld, IsListedPath, IsTooLong, TooLong, Unread, Whole}
use Rattle.bag_receiver.specs.TransferNames.{IsNamed, IsTransferName}
use Rattle.bag_receiver.specs.Stops.{Answered, Event, Steps, StopStep, TransferState, nothing_held}

-- WHAT IS HELD

-- What is held of all transfers: the ledger, and the ledgers that a crash may leave in its place.
pub record LedgerState : Type 0 where
  pub held : Ledger
  pub doubtful : List Ledger

abbrev pub ledger_state : Ledger → List Ledger → LedgerState
ledger_state held doubtful = record { held = held; doubtful = doubtful }

-- a crash leaves this ledger and no other
abbrev pub settled : Ledger → LedgerState
settled held = ledger_state held []

-- one more ledger that a crash may leave
abbrev pub with_doubtful_ledger : LedgerState → Ledger → LedgerState
with_doubtful_ledger old ledger = record old { doubtful = ledger ∷ old.doubtful }

-- each plan is that of the transfer with its name
abbrev pub ArePlansIn : Ledger → List (List ℕ × Plan) → Type 0
ArePlansIn ledger plans = (name : List ℕ) (plan : Plan) → lookup (bytes_eq name) plans ≡ Some plan
    → (tags : Files) × (tags_of ledger name ≡ Some tags) × IsPlanOf tags plan

-- ONE DELIVERY

-- what a reader in this state before and this state after has given
abbrev pub Brought : Option (List ℕ) → Option (List ℕ) → Content → Type 0
Brought old new (Whole content) = GaveAll old new LARGEST_ITEM content
Brought old new TooLong = GaveMoreThan old new LARGEST_ITEM
Brought old new Unread = GaveWithin old new LARGEST_ITEM

-- the content was received completely and is within the limit
abbrev pub IsWithinLimit : Content → Type 0
IsWithinLimit (Whole content) = length content ≤ LARGEST_ITEM
IsWithinLimit content = ⊥

-- what an answer says about the text and the content alone
abbrev pub Judges : Answer → List ℕ → Content → Type 0
Judges (Refused NoTransfer) text content = Unit {0}
Judges (Refused (Keeper fault)) text content = Unit {0}
Judges (Refused (BadPath fault)) text content = path_fault text ≡ Some fault
Judges (Refused NotListed) text content = IsPath text
Judges (Refused Reader) text content = IsPath text × (content ≡ Unread)
Judges (Refused TooLarge) text content = IsPath text × IsTooLong content
Judges answer text content = IsPath text × IsWithinLimit content

-- What is true of an answer, whatever is held: an invalid name is answered with `NoTransfer`.
pub record IsAnswer (name : List ℕ) (delivery : Delivery) : Type 0 where
  pub unnamed : ¬ IsTransferName name → delivery.answer ≡ Refused NoTransfer
  pub judges : Judges delivery.answer delivery.text delivery.content

-- this answer is due to the delivery, to the transfer with this name
abbrev pub IsDueTo : List ℕ → Ledger → Delivery → Answer → Type 0
IsDueTo name ledger delivery answer = (transfer : Option Transfer) × IsNamed ledger name transfer
    × IsDue transfer delivery.text delivery.content answer

-- the delivery is to be taken, and results in this ledger
abbrev pub Adds : List ℕ → Ledger → Delivery → Ledger → Type 0
Adds name old delivery new = (content : List ℕ) × (delivery.content ≡ Whole content)
    × IsDueTo name old delivery Taken × (new ≡ with_item old name delivery.text content)

-- the path is listed in the transfer with this name
abbrev pub IsListedIn : Ledger → List ℕ → List ℕ → Type 0
IsListedIn ledger name text = (transfer : Transfer) × IsNamed ledger name (Some transfer)
    × IsListedPath transfer.tags text

-- its path is listed, and its end wasn't reached
abbrev pub IsUnread : List ℕ → Ledger → Delivery → Type 0
IsUnread name ledger delivery = (delivery.content ≡ Unread) × IsListedIn ledger name delivery.text

-- How a delivery changes what is held, by its answer: the one that is due, or that a read failed, or that the keeper
-- has no answer. What is taken is held for certain.
abbrev pub StepBy : Answer → List ℕ → Delivery → LedgerState → LedgerState → Type 0
StepBy Taken name delivery old new = Adds name old.held delivery new.held × (new.doubtful ≡ [])
StepBy (Refused Reader) name delivery old new = IsUnread name old.held delivery × (new ≡ old)
StepBy (Refused (Keeper fault)) name delivery old new = (new ≡ old)
    ⊎ ((ledger : Ledger) × Adds name old.held delivery ledger
    × (new ≡ with_doubtful_ledger old ledger))
StepBy answer name delivery old new = IsDueTo name old.held delivery answer × (new ≡ old)

abbrev pub DeliveryStep : List ℕ → Delivery → LedgerState → LedgerState → Type 0
DeliveryStep name delivery old new = StepBy delivery.answer name delivery old new

-- one delivery after another
abbrev pub DeliverySteps : List ℕ → List Delivery → LedgerState → LedgerState → Type 0
DeliverySteps name [] old new = new ≡ old
DeliverySteps name (delivery ∷ deliveries) old new = (next : LedgerState)
    × DeliveryStep name delivery old next × DeliverySteps name deliveries next new

-- ONE TRANSFER

-- The transfer with this name has these tag files and holds these payload files, and a crash may leave one of the
-- doubtful files in addition.
pub record HasTransfer (state : LedgerState) (name : List ℕ) (tags : Files) (files : TransferState)
    : Type 0 where
  pub there : transfer_of state.held name ≡ Some (record { tags = tags; items = files.held })
  pub left : (crashed : Ledger) → Has state.doubtful crashed → (items : Files)
      × (transfer_of crashed name ≡ Some (record { tags = tags; items = items }))
      × StopStep tags files (record { held = items; doubtful = [] })

-- these events happened to the transfer with this name since it was opened with these tag files
abbrev pub Happened : LedgerState → List ℕ → Files → List Event → Type 0
Happened state name tags events = (now : TransferState) × Steps tags events nothing_held now
    × HasTransfer state name tags now

-- it has these tag files, and holds these payload files
abbrev pub IsHeldIn : LedgerState → List ℕ → Files → Files → Type 0
IsHeldIn state name tags items =
    transfer_of state.held name ≡ Some (record { tags = tags; items = items })

-- other transfers are unchanged, and a crash leaves of each of them what it could leave before
pub record LeavesOthers (name : List ℕ) (old new : LedgerState) : Type 0 where
  pub same : (other : List ℕ) → other ≢ name
      → transfer_of new.held other ≡ transfer_of old.held other
  pub left : (other : List ℕ) → other ≢ name → (crashed : Ledger) → Has new.doubtful crashed
      → (before : Ledger) × Has (old.held ∷ old.doubtful) before
      × (transfer_of crashed other ≡ transfer_of before other)

-- These deliveries were made to the transfer with this name, and nothing else happened: the transfer went on from what
-- it held, and for each path that it didn't hold, it holds the content of the first accepted delivery.
pub record Receives (name : List ℕ) (deliveries : List Delivery) (old new : LedgerState)
    : Type 0 where
  pub steps : DeliverySteps name deliveries old new
  pub goes_on : (tags : Files) (before : TransferState) → HasTransfer old name tags before
      → (after : TransferState) × Steps tags (map Answered deliveries) before after
      × HasTransfer new name tags after
  pub first : (tags items : Files) → AreRising (keys_of items) → IsHeldIn old name tags items
      → (more : Files) × IsHeldIn new name tags more × IsFirstHeld items deliveries more
  pub others : LeavesOthers name old new
